-- `elements::closest` meets its contract: the floats of the code are those of the definition.
use mathlib.Core.Path.{refl}
use lib.Ieee.{round, of_bits}
use Rattle.nearest.specs.Nearest.{decimal}
use Rattle.elements.specs.Closest.{closest_of}
use Rattle.elements.proofs.closest.closest.Goals as goal

pub returns : goal.returns
unfolding closest_of decimal round of_bits
returns c = refl
