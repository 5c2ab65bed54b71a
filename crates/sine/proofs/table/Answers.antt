-- `sine::table` meets its contract: antt computes the rule at every place and compares it with the table.
use mathlib.Core.Path.{refl}
use Rattle.sine.specs.Table.{entry_of, scaled_sine, added, taken, term, factorial}
use Rattle.sine.specs.Sine.{sines}
use Rattle.sine.proofs.table.Goals as goal

pub returns : goal.returns
unfolding sines entry_of scaled_sine added taken term factorial
returns c = refl
