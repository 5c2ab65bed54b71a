-- The interval record's bytes (document 01, "What the desk feeds and gets", interval record).
use Rattle.std.specs.Prelude.{ℕ, ◌^◌, ◌<◌, List, ◌++◌, cond, eqb, length, Option, Some, None}
use Rattle.std.proofs.lemmas.List.Edits.{sets}
use Rattle.words.specs.Little.{bytes_of, read_of}
use Rattle.interval.specs.declared.Interval.{Interval}

-- 24 bytes: job u32, flags u32, first u64, last u64
unfoldable pub record_bytes : Interval → List ℕ
record_bytes r = bytes_of 4 r.job ++ bytes_of 4 r.flags ++ bytes_of 8 r.first ++ bytes_of 8 r.last

-- the record in 24 bytes
unfoldable pub record_of : List ℕ → Interval
record_of s = record { job = read_of 4 s 0; flags = read_of 4 s 4; first = read_of 8 s 8; last = read_of 8 s 16 }

-- any 24 bytes read as one record; any other length answers that there is no record
unfoldable pub parsed_of : List ℕ → Option Interval
parsed_of s = cond (eqb (length s) 24) (Some (record_of s)) None

-- s with the record in its 24 bytes from `at` on, and every other byte as it was
unfoldable pub write_of : List ℕ → ℕ → Interval → List ℕ
write_of s at r = sets s at (record_bytes r)

-- its numbers are u32, u32, u64 and u64
pub record Sized (r : Interval) : Type 0 where
  pub job-fits : r.job < 256 ^ 4
  pub flags-fits : r.flags < 256 ^ 4
  pub first_fits : r.first < 256 ^ 8
  pub last_fits : r.last < 256 ^ 8
