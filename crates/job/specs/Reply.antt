-- What the small program writes for one record: its intervals, then a closing record (document 01, "One job whole").
use Rattle.std.specs.Prelude.{ℕ, ◌+◌, ◌-◌, cond, List, [], ◌++◌, eqb, leb, length, Ok, Err}
use Rattle.words.specs.Little.{read_of}
use Rattle.refusal.specs.Refusal.{number_of, field_of}
use Rattle.interval.specs.declared.Interval.{Interval}
use Rattle.interval.specs.Record.{record_bytes}
use Rattle.finder.specs.Records.{room_for_any}
use Rattle.job.specs.Outcome.{Outcome, outcome_of, records_in}

-- the job number of a whole record; a piece of any other length, as a short one at the end, has job 0
unfoldable pub job_of : List ℕ → ℕ
job_of s = cond (eqb (length s) 136) (read_of 4 s 0) 0

-- flags 512, first = intervals, last = instants asked; a refused job has flags 256 + number, first = field, last 0
abbrev pub closing_of : ℕ → Outcome → Interval
closing_of job (Ok f) = record { job = job; flags = 512; first = f.intervals; last = f.asked }
closing_of job (Err r) = record { job = job; flags = 256 + number_of r; first = field_of r; last = 0 }

-- room for any reply: for any list, and the closing record's 24 bytes
abbrev pub room_for_reply : ℕ
room_for_reply = room_for_any + 24

-- the intervals, then the closing record. Of the room, 24 bytes are kept for that one and the list is lent the rest; with less than 24 bytes
-- nothing is written
unfoldable pub reply_of : List ℕ → ℕ → List ℕ
reply_of s room = cond (leb 24 room) (records_in s (room - 24) ++ record_bytes (closing_of (job_of s) (outcome_of s (room - 24)))) []
