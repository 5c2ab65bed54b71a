-- `nearest::shift` meets its contract: an exponent of 0 counts as 1, and past the digits nothing is shifted.
use native.Mathlib.Omega.{arith}
use Rattle.nearest.specs.Pattern.{shift_of, exponent_of}
use Rattle.nearest.proofs.Exact.{shift_lead}
use Rattle.nearest.proofs.shift.Goals as goal

pub returns-then-exponent-eq0 : goal.returns-then-exponent-eq0
unfolding shift_of
returns-then-exponent-eq0 c = rw c.if-exponent-eq0.true

pub returns-then-exponent-lt1075 : goal.returns-then-exponent-lt1075
unfolding shift_of
returns-then-exponent-lt1075 c = shift_lead (exponent_of c.args.bits) c.if-exponent-eq0.false

pub returns-else-exponent-lt1075 : goal.returns-else-exponent-lt1075
unfolding shift_of
returns-else-exponent-lt1075 c = omega (arith, shift_lead (exponent_of c.args.bits) c.if-exponent-eq0.false)
