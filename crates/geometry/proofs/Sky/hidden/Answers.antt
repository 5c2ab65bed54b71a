-- `Sky::hidden` meets its contract: the place, its d, and the test of them.
use mathlib.Core.Path.{◌≡◌, ◌∙◌}
use lib.IntN.{ℤ}
use Rattle.fixed.proofs.Machine.{got}
use Rattle.geometry.specs.declared.Place.{Place}
use Rattle.geometry.specs.declared.Orbit.{Orbit}
use Rattle.geometry.specs.Hidden.{depth_of, behind_of, hidden_at}
use Rattle.geometry.proofs.Bounds.{depth-within}
use Rattle.geometry.proofs.Sky.hidden.Goals as goal

of-place : {a b : Place} {d : ℤ} (o : Orbit) → a ≡ b → d ≡ depth_of o a → behind_of o a d ≡ behind_of o b (depth_of o b)
of-place o e f = cc

pub behind-requires : goal.behind-requires
behind-requires c =
    let here = c.place-a.ensures.in_orbit in
    (here, rw (got c.depth.result c.depth.type_inv, c.depth.ensures, c.self.view_is) (depth-within here))

pub returns : goal.returns
unfolding hidden_at
returns c =
    let at-depth = got c.depth.result c.depth.type_inv ∙ rw c.self.view_is at c.depth.ensures in
    c.behind.ensures ∙ of-place c.args.self.now c.place-a.ensures.place at-depth
