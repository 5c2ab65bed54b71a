-- `nearest::digits` meets its contract: the leading digit is there unless the exponent is 0.
use Rattle.nearest.specs.Pattern.{digits_of, exponent_of}
use Rattle.nearest.proofs.Exact.{digits_lead}
use Rattle.nearest.proofs.digits.Goals as goal

pub returns-then-bits-eq0 : goal.returns-then-bits-eq0
unfolding digits_of
returns-then-bits-eq0 c = rw c.if-bits-eq0.true

pub returns-else-bits-eq0 : goal.returns-else-bits-eq0
unfolding digits_of
returns-else-bits-eq0 c = digits_lead (exponent_of c.args.bits) _ c.if-bits-eq0.false
