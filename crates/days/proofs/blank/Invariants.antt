-- `days::blank` meets its contract. Whenever the loop's test is reached, the records of i days stand in `out`.
use mathlib.Core.Path.{◌≡◌}
use mathlib.Core.List.{[]}
use lib.Seq.{sets}
use Rattle.days.specs.Summary.{records_from}
use Rattle.days.proofs.blank.Given as goal

abbrev pub invariant-loop-i : goal.invariant-loop-i
invariant-loop-i l = l.out ≡ sets l.initial.out 0 (records_from [] l.start l.i)
