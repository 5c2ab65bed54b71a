-- `Sines::sine` meets its contract: the reading is at most one, so that it and its negation are the signed numbers they stand for.
use mathlib.Core.Path.{◌≡◌, ap, ◌∙◌}
use Prim.Native.Nat.{ℕ}
use native.Mathlib.Omega.{arith}
use lib.IntN.{ℤ, pos}
use borrow.Author.Tests.{lt-ltb, le-ltb}
use Rattle.fixed.specs.Scaled.{one}
use Rattle.fixed.specs.Within.{Is}
use Rattle.fixed.proofs.Machine.{called, fit, held, negation}
use Rattle.sine.specs.Sine.{quadrant_of, reading_of, fold_of, sine_of}
use Rattle.sine.proofs.Laws.{fold-le, reading-le}
use Rattle.sine.proofs.Sines.sine.Goals as goal

-- what the call of `size` gave, as a signed number
read : (s : ℤ) (q θ : ℕ) → s ≡ pos q → q ≡ reading_of (fold_of θ) → Is s (pos (reading_of (fold_of θ))) one
read s q θ e is = called (e ∙ ap pos is) (record { within = reading-le (fold_of θ) (fold-le θ) })

pub overflow_sub-result : goal.overflow_sub-result
overflow_sub-result c = fit (negation (held (read _ _ _ c.from-s.ensures c.size.ensures) tt)) tt

pub returns-then-theta : goal.returns-then-theta
unfolding sine_of
returns-then-theta c =
    let θ = c.args.theta.units in
    simp (lt-ltb (quadrant_of θ) 2 (omega arith)) (held (read _ _ _ c.from-s.ensures c.size.ensures) tt).is

pub returns-else-theta : goal.returns-else-theta
unfolding sine_of
returns-else-theta c =
    let θ = c.args.theta.units in
    simp (le-ltb (quadrant_of θ) 2 (omega arith)) (held (negation (held (read _ _ _ c.from-s.ensures c.size.ensures) tt)) tt).is
