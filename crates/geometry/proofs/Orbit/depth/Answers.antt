-- `Orbit::depth` meets its contract: each product, and their sum, fits.
use borrow.Author.Rules.{rules}
use Prim.Native.Nat.{◌*◌}
use lib.IntN.{◌+ℤ◌}
use Rattle.fixed.specs.Scaled.{◌∘◌}
use Rattle.fixed.specs.Within.{Is}
use Rattle.fixed.proofs.Machine.{bounded, loc, fit, held, operand, sum, scaled-is}
use Rattle.elements.specs.Rounding.{most_axis}
use Rattle.geometry.specs.Sound.{deepest}
use Rattle.geometry.specs.Hidden.{depth_of}
use Rattle.geometry.proofs.Orbit.depth.Goals as goal
use Rattle.geometry.proofs.Orbit.depth.Goals.{After-scaled-2}

whole : (c : After-scaled-2) → let a = c.args.a in
    let b = c.args.self.now.body in
    Is (loc c.scaled.result +ℤ loc c.scaled-2.result) (a.x ∘ b.p +ℤ a.y ∘ b.q) deepest
whole c =
    let b = c.requires.orbit.body in
    sum
    (held (scaled-is (10 * most_axis) c.scaled.ensures (operand c.requires.x tt) (operand b.p tt) tt) tt)
    (held (scaled-is (5 * most_axis) c.scaled-2.ensures (operand c.requires.y tt) (operand b.q tt) tt) tt)

pub scaled-requires : goal.scaled-requires
scaled-requires c = search (rules, bounded)

pub scaled-requires-2 : goal.scaled-requires-2
scaled-requires-2 c = search (rules, bounded)

pub overflow_add-result : goal.overflow_add-result
overflow_add-result c = fit (whole (goal.at.overflow_add-result c).After-scaled-2) tt

pub returns : goal.returns
unfolding depth_of
returns c = (held (whole (goal.at.returns c).After-scaled-2) tt).is
