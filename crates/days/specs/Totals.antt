-- What is answered, and what the summary holds afterwards (document 02, wish 3).
use Rattle.std.specs.Prelude.{ℕ, ◌*◌, Bool, cond, List, ltb, length, take, Result, Ok, Err}
use Rattle.std.proofs.lemmas.List.Edits.{sets}
use Rattle.refusal.specs.Refusal.{number_of, field_of, bits_of}
use Rattle.finder.specs.declared.Window.{Window}
use Rattle.job.specs.Table.{window_of}
use Rattle.job.specs.Admission.{Admission, admission_of}
use Rattle.days.specs.Days.{days_of}
use Rattle.days.specs.Summary.{summary_of, updated}
use Rattle.days.specs.Given.{span_at, spans_of, bad_list, bad_append}
use Rattle.days.specs.declared.Numbers.{Numbers}
use Rattle.days.specs.declared.Fault.{Fault}
use Rattle.days.specs.declared.Fault.TheVariants.{Job, SummaryRoom, BadList}

-- how many days were written, or why none was
abbrev pub Totals : Type 0
Totals = Result ℕ Fault

-- ---- an answer's numbers

-- no refusal is number 0; the job's own returns what it does where a list is written; from 11 on a refusal returns field 0 and number 0.0, whose bits are 0
abbrev pub numbers_of : Totals → Numbers
numbers_of (Ok days) = record { refusal = 0; field = 0; bits = 0; days = days }
numbers_of (Err (Job r)) = record { refusal = number_of r; field = field_of r; bits = bits_of r; days = 0 }
numbers_of (Err SummaryRoom) = record { refusal = 11; field = 0; bits = 0; days = 0 }
numbers_of (Err BadList) = record { refusal = 12; field = 0; bits = 0; days = 0 }

-- ---- the refusals in their order

-- 11: room short of 16 bytes a day
unfoldable pub short_room : Window → ℕ → Bool
short_room w room = ltb room (16 * days_of w)

-- the job's own, then 11, then 12, where what is given is bad
unfoldable pub totals_by : Admission → ℕ → (Window → Bool) → Totals
totals_by (Err r) room bad = Err (Job r)
totals_by (Ok w) room bad = cond (short_room w room) (Err SummaryRoom) (cond (bad w) (Err BadList) (Ok (days_of w)))

-- of a summary
unfoldable pub totals_of : List ℕ → List ℕ → ℕ → Totals
totals_of s list room = totals_by (admission_of s) room (λ w. bad_list w list)

-- of a piece that is appended; of the lent bytes the summary is the first 16 a day
unfoldable pub append_of : List ℕ → List ℕ → List ℕ → List ℕ → Totals
append_of s list piece lent = totals_by (admission_of s) (length lent) (λ w. bad_append w list piece (take (16 * days_of w) lent))

-- ---- the bytes afterwards

-- where the summary is written, `new`; a refusal leaves every byte
abbrev pub left_by : Totals → List ℕ → List ℕ → List ℕ
left_by (Ok days) new lent = new
left_by (Err fault) new lent = lent

-- the summary from byte 0, and nothing else
unfoldable pub summary_after_of : List ℕ → List ℕ → List ℕ → List ℕ
summary_after_of s list lent = left_by (totals_of s list (length lent)) (sets lent 0 (summary_of (window_of s) (spans_of list))) lent

-- the days that the appended interval touches, and nothing else
unfoldable pub append_after : List ℕ → List ℕ → List ℕ → List ℕ → List ℕ
append_after s list piece lent = left_by (append_of s list piece lent) (updated (window_of s) (spans_of list) (span_at piece 0) lent) lent
