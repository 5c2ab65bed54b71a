-- What came of a call, in the 32 bytes that a caller in another language lends for it (document 01, "Turned away"; document 02, wish 3).
use Rattle.std.specs.Prelude.{ℕ, ◌^◌, ◌<◌, ◌≡◌, List, ◌++◌, length, Ok, Err}
use Rattle.words.specs.Little.{bytes_of, read_of}
use Rattle.refusal.specs.Refusal.{number_of, field_of, bits_of}
use Rattle.job.specs.Outcome.{Outcome}
use Rattle.days.specs.Totals.{Totals, numbers_of}
use Rattle.door.specs.declared.Answer.{Answer}

-- no refusal is number 0; every refusal returns 0 intervals and 0 instants asked
abbrev pub answer_of : Outcome → Answer
answer_of (Ok f) = record { refusal = 0; field = 0; number = 0; intervals = f.intervals; asked = f.asked }
answer_of (Err r) = record { refusal = number_of r; field = field_of r; number = bits_of r; intervals = 0; asked = 0 }

-- of totals by day: the days written stand where a list's intervals do, and no instant was asked
abbrev pub totals_answer : Totals → Answer
totals_answer t = let n = numbers_of t in record { refusal = n.refusal; field = n.field; number = n.bits; intervals = n.days; asked = 0 }

-- 32 bytes: refusal u32, field u32, the returned number's bits u64, intervals u64, instants asked u64
unfoldable pub answer_bytes : Answer → List ℕ
answer_bytes a = bytes_of 4 a.refusal ++ bytes_of 4 a.field ++ bytes_of 8 a.number ++ bytes_of 8 a.intervals ++ bytes_of 8 a.asked

-- 4 + 4 + 8 + 8 + 8
abbrev pub answer_size : ℕ
answer_size = 32

-- as long as an answer
abbrev pub AnswerSized : List ℕ → Type 0
AnswerSized answer = length answer ≡ answer_size

-- its numbers are u32, u32, u64, u64 and u64
pub record Sized (a : Answer) : Type 0 where
  pub refusal_fits : a.refusal < 256 ^ 4
  pub field_fits : a.field < 256 ^ 4
  pub number_fits : a.number < 256 ^ 8
  pub intervals-fits : a.intervals < 256 ^ 8
  pub asked-fits : a.asked < 256 ^ 8

-- the answer in 32 bytes
unfoldable pub answer_in : List ℕ → Answer
answer_in s = record { refusal = read_of 4 s 0; field = read_of 4 s 4; number = read_of 8 s 8; intervals = read_of 8 s 16; asked = read_of 8 s 24 }
