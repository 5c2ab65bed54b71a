-- What a call through the door returns and leaves behind. No rule of a document: include/quechotzal.h says the same in words.
use Rattle.std.specs.Prelude.{ℕ, ◌≡◌, Bool, cond, List, eqb, length}
use Rattle.job.specs.Outcome.{outcome_of}
use Rattle.days.specs.Totals.{totals_of, append_of}
use Rattle.door.specs.declared.Answer.{Answer}
use Rattle.door.specs.Answer.{answer_of, totals_answer, answer_bytes, answer_in, answer_size, AnswerSized}

-- ---- what came of a call, in numbers

-- of a job
abbrev pub list_told : List ℕ → List ℕ → Answer
list_told s list = answer_of (outcome_of s (length list))

-- of a list's totals by day
abbrev pub days_told : List ℕ → List ℕ → List ℕ → Answer
days_told s list out = totals_answer (totals_of s list (length out))

-- of an interval that is appended
abbrev pub append_told : List ℕ → List ℕ → List ℕ → List ℕ → Answer
append_told s list interval summary = totals_answer (append_of s list interval summary)

-- ---- what is returned and left behind

-- whether the caller lends as many bytes as an answer has
abbrev pub heard_in : List ℕ → Bool
heard_in answer = eqb (length answer) answer_size

-- 1, or 0 where nothing at all is written
unfoldable pub returned_of : List ℕ → ℕ
returned_of answer = cond (heard_in answer) 1 0

-- a lent buffer afterwards: `new`, or as it was where nothing at all is written
unfoldable pub behind : List ℕ → List ℕ → List ℕ → List ℕ
behind answer new old = cond (heard_in answer) new old

-- the answer afterwards, where a came of the call
abbrev pub answer_behind : List ℕ → Answer → List ℕ
answer_behind answer a = behind answer (answer_bytes a) answer

-- the numbers that a caller reads off the answer's bytes afterwards are those that came of the call: none was cut off
abbrev pub ReadsBack : List ℕ → Answer → List ℕ → Type 0
ReadsBack answer a after = AnswerSized answer → answer_in after ≡ a
