-- What the program writes for one record: a head record, then a summary record for each day (document 02, wish 3).
use Rattle.std.specs.Prelude.{ℕ, ◌≡◌, List, ◌++◌, length, Ok, Err}
use Rattle.interval.specs.declared.Interval.{Interval}
use Rattle.interval.specs.Record.{record_bytes}
use Rattle.finder.specs.Spans.{list_of}
use Rattle.finder.specs.Records.{room_for_any}
use Rattle.job.specs.Table.{window_of}
use Rattle.job.specs.Outcome.{Outcome, answers_in, outcome_of}
use Rattle.job.specs.Reply.{job_of, closing_of}
use Rattle.days.specs.Days.{days_of}
use Rattle.days.specs.Summary.{summary_of}

-- the head: job, 512, number of days, instants asked
abbrev pub head_of : List ℕ → ℕ → Interval
head_of s asked = record { job = job_of s; flags = 512; first = days_of (window_of s); last = asked }

-- by the job's outcome: the head and then the summary of its list; a refused job has its closing record alone, as in `lists`
unfoldable pub reply_by : List ℕ → Outcome → List ℕ
reply_by s (Ok f) = record_bytes (head_of s f.asked) ++ summary_of (window_of s) (list_of (answers_in s) (window_of s))
reply_by s (Err r) = record_bytes (closing_of (job_of s) (Err r))

-- with room for any list, so that no job is refused for want of it
unfoldable pub reply_of : List ℕ → List ℕ
reply_of s = reply_by s (outcome_of s room_for_any)

-- ---- what `run` requires

-- a buffer for one record, so that no more than one is answered at a time
abbrev pub HoldsOneRecord : List ℕ → Type 0
HoldsOneRecord buf = length buf ≡ 136
