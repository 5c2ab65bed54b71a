-- `Sky::new` meets its contract: what was prepared is sound.
use Rattle.geometry.proofs.Bounds.{prepared}
use Rattle.geometry.proofs.Sky.new.Goals as goal

pub invariant_of-result : goal.invariant_of-result
invariant_of-result c = prepared c.requires c.prepare-orbit.ensures
