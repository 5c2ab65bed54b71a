-- `job::admit` meets its contract: of a record that is read, rows 6 to 8 decide.
use mathlib.Core.Path.{sym}
use Rattle.std.proofs.Common.{rules}
use Rattle.job.specs.Admission.{admission_of, admission_from}
use Rattle.job.proofs.Cases.{read_so}
use Rattle.job.proofs.admit.Goals as goal

pub returns-in_err-window_to_question : goal.returns-in_err-window_to_question
unfolding admission_of admission_from
returns-in_err-window_to_question c =
    rw (read_so c.args.s.now _ (sym c.in_ok-read.ensures), ← c.window-w.ensures, ← c.question.ensures, ← c.in_err-window_to_question.ensures) (search rules)
