use mathlib.Core.Path.{refl}
use Rattle.kepler.specs.Kepler.{phase_of}
use Rattle.kepler.proofs.phase.Goals as goal

pub returns : goal.returns
unfolding phase_of
returns c = rw c.from-p.ensures refl
