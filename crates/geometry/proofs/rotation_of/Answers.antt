-- `geometry::rotation_of` meets its contract: it is the rotation of the three turns.
use mathlib.Core.Path.{◌≡◌, ◌∙◌}
use Rattle.rotation.specs.CosSin.{CosSin}
use Rattle.rotation.specs.Rotation.{rotation_of_of}
use Rattle.geometry.specs.Prepared.{rotation_for}
use Rattle.geometry.proofs.rotation_of.Goals as goal

of_turns : {ω Ω i ω' Ω' i' : CosSin} → ω ≡ ω' → Ω ≡ Ω' → i ≡ i' → rotation_of_of ω Ω i ≡ rotation_of_of ω' Ω' i'
of_turns e f g = cc

pub returns : goal.returns
unfolding rotation_for
returns c = c.rotation.ensures ∙ of_turns c.turn_of.ensures c.turn_of-2.ensures c.turn_of-3.ensures
