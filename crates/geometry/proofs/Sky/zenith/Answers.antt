-- `Sky::zenith` meets its contract: it is the direction of τ at the latitude.
use mathlib.Core.Path.{ap, ◌∙◌}
use Rattle.angle.specs.Turn.{add_of}
use Rattle.rotation.specs.CosSin.{CosSin}
use Rattle.rotation.specs.Rotation.{turn_of, direction_of}
use Rattle.geometry.specs.Visible.{τOf, zenith_of}
use Rattle.geometry.proofs.Sky.zenith.Goals as goal

pub returns : goal.returns
unfolding zenith_of τOf
returns c =
    let s = c.self.inside.orbit.station in
    rw (← c.self.view_is)
    (c.direction.ensures
    ∙ ap (λ (τ : CosSin). direction_of τ s.latitude)
    (c.turn_of.ensures ∙ ap turn_of (c.add-tau.ensures ∙ ap (add_of s.meridian.units) c.term.ensures)))
