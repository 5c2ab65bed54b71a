-- `nearest::by_power` meets its contract: the float is its digits over a power of two, of which enough are dropped.
use Prim.Native.Nat.{◌-◌}
use native.Mathlib.Omega.{arith}
use Rattle.nearest.proofs.Exact.{held, no_nan, dropped, by_power}
use Rattle.nearest.proofs.by_power.Goals as goal

pub float_to_bits-bits : goal.float_to_bits-bits
float_to_bits-bits c = no_nan c.args.x c.requires.3.finite_is

pub overflow_sub-shift : goal.overflow_sub-shift
overflow_sub-shift c = omega (arith, c.shift.ensures, dropped (51 - c.args.j) c.args.x (omega arith) (held c.well_formed.0.1) c.requires.3)

pub returns : goal.returns
returns c =
    rw (c.halved.ensures, c.shifted.ensures, c.digits.ensures, c.shift.ensures)
    (by_power (51 - c.args.j) c.args.x (omega arith) (held c.well_formed.0.1) c.requires.3 c.args.j c.args.q c.requires.2 (omega arith))
