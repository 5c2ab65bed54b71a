-- `sine::way` meets its contract: the rise's part is at most the rise, so that the sum is at most `high`.
use Prim.Native.Nat.{◌≤◌, ◌^◌}
use native.Mathlib.Nat.{lt_of_le_of_lt, mul-le-mul}
use native.Mathlib.Omega.{arith}
use lib.Dec.{lit<}
use Rattle.sine.specs.Sine.{way_of}
use Rattle.sine.proofs.Laws.{part-le}
use Rattle.sine.proofs.way.Goals as goal

pub overflow_mul-result : goal.overflow_mul-result
overflow_mul-result c =
    let rise : c.from-rise.result ≤ 2 ^ 32 = omega (arith, c.from-rise.ensures) in
    let r : c.from.result ≤ 2 ^ 30 = omega (arith, c.from.ensures) in
    record { fits = lt_of_le_of_lt (mul-le-mul rise r) (lit< tt) }

pub overflow_cast-result : goal.overflow_cast-result
overflow_cast-result c =
    rw (c.from.ensures, c.from-rise.ensures, c.from-2.ensures) (omega (arith, part-le c.args.low c.args.high c.args.r (omega arith)))

pub overflow_add-result : goal.overflow_add-result
overflow_add-result c =
    rw (c.from.ensures, c.from-rise.ensures, c.from-2.ensures) (omega (arith, part-le c.args.low c.args.high c.args.r (omega arith)))

pub returns : goal.returns
unfolding way_of
returns c = rw (c.from.ensures, c.from-rise.ensures, c.from-2.ensures)
