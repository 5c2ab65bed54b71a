-- `finder::Finder::list` meets its contract. The loop's invariant: what is counted and written, with what is still to come, is the whole list.
use Rattle.finder.specs.Asking.{answers, sights}
use Rattle.finder.proofs.Going.{Going}
use Rattle.finder.proofs.Finder.list.Given as goal

abbrev pub invariant-loop : goal.invariant-loop
invariant-loop l = Going (answers l.self) (sights l.self) l.self.window l.initial.out l.out l.s l.counter
