-- `angle::Angle::from_degrees` meets its contract, by the test on the sign.
use Rattle.std.proofs.Common.{◌≡◌, ℕ, ◌%◌, Bool, true, false, cond, ap, ◌∙◌}
use lib.Ieee.{Float, lt, round, of_bits}
use Rattle.nearest.specs.Nearest.{decimal, number}
use Rattle.angle.specs.Turn.{turn, negate_of, magnitude_of, degrees_of}
use Rattle.angle.proofs.Angle.from_degrees.Goals as goal

-- the definition, where the test on the sign is known
signed : (b : Bool) (x : Float) → lt x (number 0) ≡ b → cond b (negate_of (magnitude_of x)) (magnitude_of x) ≡ degrees_of x
signed b x e = rw e

pub returns-then-x : goal.returns-then-x
unfolding decimal round of_bits
returns-then-x c = c.negate.ensures ∙ ap (λ (u : ℕ). negate_of (u % turn)) c.angle_units.ensures ∙ signed true _ c.if-x.true

pub returns-else-x : goal.returns-else-x
unfolding decimal round of_bits
returns-else-x c = ap (λ (u : ℕ). u % turn) c.angle_units.ensures ∙ signed false _ c.if-x.false
