-- `job::list` meets its contract: of a record that is read, rows 6 to 8 stop it, or row 9 decides.
use mathlib.Core.Path.{sym}
use lib.ListN.{length}
use Rattle.std.proofs.Common.{rules}
use Rattle.elements.proofs.Exactly.{read-accepted}
use Rattle.job.proofs.Exactly.{turned_outcome}
use Rattle.job.proofs.list.Goals as goal

pub from_room-requires-clause-accepted : goal.from_room-requires-clause-accepted
from_room-requires-clause-accepted c = read-accepted _ _ (sym c.in_ok-e.ensures)

pub returns-in_err-window_to_question-clause-value : goal.returns-in_err-window_to_question-clause-value
returns-in_err-window_to_question-clause-value c =
    let a = c.args in
    let v = turned_outcome a.s.now _ (sym c.in_ok-e.ensures) (length a.list.now) c.in_err-window_to_question.field-0.0 (rw (← c.window-w.ensures, ← c.question-asked.ensures) (sym c.in_err-window_to_question.ensures)) in
    rw v (search rules)
