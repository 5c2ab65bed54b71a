-- `geometry::toward` meets its contract: it is the direction of the two turns.
use mathlib.Core.Path.{◌≡◌, ◌∙◌}
use Rattle.rotation.specs.CosSin.{CosSin}
use Rattle.rotation.specs.Rotation.{direction_of}
use Rattle.geometry.specs.Prepared.{toward_of}
use Rattle.geometry.proofs.toward.Goals as goal

of_turns : {α δ α' δ' : CosSin} → α ≡ α' → δ ≡ δ' → direction_of α δ ≡ direction_of α' δ'
of_turns e f = cc

pub returns : goal.returns
unfolding toward_of
returns c = c.direction.ensures ∙ of_turns c.turn_of.ensures c.turn_of-2.ensures
