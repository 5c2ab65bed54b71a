-- `Sines::size` meets its contract: by the quadrant, and in an odd one by whether its rest is 0.
use mathlib.Core.Path.{◌≡◌, ◌∙◌, sym, ap}
use native.Mathlib.Omega.{arith}
use Rattle.angle.specs.Turn.{quarter_turn}
use Rattle.sine.specs.Sine.{reading_of, fold_of}
use Rattle.sine.proofs.Laws.{reading-end, fold_even, fold_odd}
use Rattle.sine.proofs.Sines.size.Goals as goal

pub returns-then-theta-eq0 : goal.returns-then-theta-eq0
returns-then-theta-eq0 c =
    let θ = c.args.theta.units in
    c.reading.ensures ∙ sym (ap reading_of (fold_even θ c.if-theta-eq0.true))

pub returns-then-f-eq0 : goal.returns-then-f-eq0
returns-then-f-eq0 c =
    let θ = c.args.theta.units in
    let whole : fold_of θ ≡ quarter_turn = omega (arith, fold_odd θ c.if-theta-eq0.false, c.if-f-eq0.true) in
    c.entry.ensures ∙ sym (ap reading_of whole ∙ reading-end)

pub returns : goal.returns
returns c =
    let θ = c.args.theta.units in
    c.reading-2.ensures ∙ sym (ap reading_of (fold_odd θ c.if-theta-eq0.false))
