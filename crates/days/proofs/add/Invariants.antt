-- `days::add` meets its contract. Whenever the loop's test is reached, the days before d are stored.
use Prim.Native.Nat.{◌≤◌}
use Rattle.days.specs.Days.{day_of}
use Rattle.days.proofs.Adding.{Added}
use Rattle.days.proofs.add.Given as goal

abbrev pub invariant-loop-d : goal.invariant-loop-d
invariant-loop-d l = Added l.start l.s l.initial.out l.d l.out × (day_of l.s.first ≤ l.d) × (l.d ≤ day_of l.s.last)
