-- Whether a record is accepted where no list is written, and its window (document 02, wish 3: after the job's own, 9 only where a list is written).
use Rattle.std.specs.Prelude.{ℕ, List, Result, Ok, Err}
use Rattle.refusal.specs.Rows.{Verdict, first}
use Rattle.refusal.specs.declared.Refusal.{Refusal}
use Rattle.finder.specs.declared.Window.{Window}
use Rattle.job.specs.Table.{window_of, table_but_room}

-- what a record is told: the window, or the refusal
abbrev pub Admission : Type 0
Admission = Result Window Refusal

-- the refusal, or the window
unfoldable pub admission_from : Verdict → Window → Admission
admission_from (Ok t) w = Ok w
admission_from (Err r) w = Err r

-- by the first row but 9 that applies
unfoldable pub admission_of : List ℕ → Admission
admission_of s = admission_from (first (table_but_room s)) (window_of s)
