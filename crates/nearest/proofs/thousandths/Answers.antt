-- `nearest::thousandths` meets its contract: the float is its digits over a power of two, and the answer fits by its bound.
use native.Mathlib.Omega.{arith}
use lib.Dec.{lit<, lit≤}
use lib.Ieee.{binary64, to_bits}
use Rattle.nearest.proofs.Nearest.{nearest_of-le}
use Rattle.nearest.proofs.Exact.{held, no_nan, digits_lt, by_whole}
use Rattle.nearest.proofs.thousandths.Goals as goal

pub float_to_bits-bits : goal.float_to_bits-bits
float_to_bits-bits c = no_nan c.args.x c.requires.finite_is

pub overflow_mul-digits : goal.overflow_mul-digits
overflow_mul-digits c = omega (arith, c.digits.ensures, digits_lt (to_bits binary64 c.args.x))

pub returns : goal.returns
returns c =
    rw (c.halved.ensures, c.shifted.ensures, c.digits.ensures, c.shift.ensures)
    (by_whole 21 c.args.x (lit≤ tt) (held c.well_formed.0.1) c.requires 1000)

pub overflow_cast-result : goal.overflow_cast-result
overflow_cast-result c = omega (arith, returns c, nearest_of-le 21 1000 1 c.args.x (lit< tt) c.requires)
