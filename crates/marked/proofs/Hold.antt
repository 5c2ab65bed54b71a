-- Every marked case holds: antt computes what the rules give.
use mathlib.Core.Path.{refl}
use lib.Ieee.{round, lt}
use Rattle.halving.specs.Halving.{halve}
use Rattle.fixed.specs.Scaled.{◌∘◌}
use Rattle.nearest.specs.Nearest.{nearest_of, decimal}
use Rattle.sine.specs.Table.{entry_of, scaled_sine, added, taken, term, factorial}
use Rattle.sine.specs.Sine.{way_of, reading_of, fold_of, sine_of}
use Rattle.kepler.specs.Kepler.{K, reached, search_of, kepler_of}
use Rattle.marked.specs.Marked.{AllHold, cases}

pub all_hold : AllHold cases
unfolding decimal round nearest_of lt sine_of fold_of reading_of way_of entry_of scaled_sine added taken term factorial kepler_of search_of reached K halve ◌∘◌
all_hold = (refl, (refl, (refl, (refl, (refl, (refl, (refl, (refl, (refl, (refl, (refl, (refl, tt))))))))))))
