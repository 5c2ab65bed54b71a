-- What `reply` writes: the list in a part of the buffer, then the closing record behind its records.
use Prim.Native.Nat.{ℕ, ◌+◌, ◌-◌, ◌*◌, ◌≤◌, ◌<◌}
use mathlib.Core.Path.{◌≡◌, refl, ◌∙◌}
use mathlib.Core.Bool.{Bool, true, false, cond}
use mathlib.Core.List.{List, [], ◌++◌}
use native.Mathlib.Nat.{zero-add}
use native.Mathlib.Omega.{arith}
use borrow.Author.Tests.{leb-true, le-leb, lt-leb}
use lib.Dec.{leb}
use lib.ListN.{length, take, drop, length-append}
use lib.Seq.{sets, length-sets, length-take-le}
use Rattle.std.specs.Prelude.{Ok, Err}
use Rattle.refusal.specs.Rows.{Verdict, passed, first, row_at}
use Rattle.refusal.proofs.Order.{passed-exactly}
use Rattle.elements.specs.Reading.{field_rows}
use Rattle.interval.specs.declared.Interval.{Interval}
use Rattle.interval.specs.Record.{record_bytes, write_of}
use Rattle.interval.proofs.Laws.{length-record}
use Rattle.words.proofs.Stores.{sets-append, sets_front}
use Rattle.geometry.specs.declared.Sight.{Sight}
use Rattle.finder.specs.declared.Window.{Window}
use Rattle.finder.specs.Spans.{list_of}
use Rattle.finder.specs.Records.{found_of, room_of}
use Rattle.finder.proofs.Records.{length-records}
use Rattle.finder.proofs.Counts.{list-most}
use Rattle.job.specs.Table.{window_of, table_of}
use Rattle.job.specs.Outcome.{Outcome, intervals_of, answers_in, sights_in, outcome_from, records_from, outcome_of, records_in, list_after_of}
use Rattle.job.specs.Reply.{job_of, closing_of, reply_of}
use Rattle.job.proofs.Laws.{roomy}

-- ---- the interval records

-- 24 bytes for each interval
length_from : (v : Verdict) (f : ℕ → Bool) (g : ℕ → Sight) (w : Window) → length (records_from v f g w) ≡ 24 * intervals_of (outcome_from v f w)
unfolding records_from outcome_from found_of
length_from (Ok t) f g w = length-records g w (list_of f w)
length_from (Err r) f g w = refl

fits-from : (v : Verdict) (f : ℕ → Bool) (g : ℕ → Sight) (w : Window) (room : ℕ) → (v ≡ passed → room_of w ≤ room) → length (records_from v f g w) ≤ room
unfolding records_from room_of
fits-from (Ok t) f g w room h =
    let l = list_of f w in
    omega (arith, length-records g w l, list-most f w, h refl)
fits-from (Err r) f g w room h = omega arith

module _ (s : List ℕ) (room : ℕ) where
  table-roomy : first (table_of s room) ≡ passed → room_of (window_of s) ≤ room
  unfolding table_of field_rows row_at
  table-roomy h = roomy (window_of s) room ((passed-exactly (table_of s room)).0 h 19)

  length-list : length (records_in s room) ≡ 24 * intervals_of (outcome_of s room)
  unfolding records_in outcome_of
  length-list = length_from (first (table_of s room)) (answers_in s) (sights_in s) (window_of s)

  records-fit : length (records_in s room) ≤ room
  unfolding records_in
  records-fit = fits-from (first (table_of s room)) (answers_in s) (sights_in s) (window_of s) room table-roomy

-- ---- the reply

pub too_short : (s out : List ℕ) → length out < 24 → (0 ≡ length (reply_of s (length out))) × (out ≡ sets out 0 (reply_of s (length out)))
unfolding reply_of
too_short s out h = rw (lt-leb 24 (length out) h) (refl, refl)

-- the list was lent all of `out` but 24 bytes, answered o and left `new` there
module _ (s out : List ℕ) (long : 24 ≤ length out) (o : Outcome) (n : ℕ) (new : List ℕ)
    (told : o ≡ outcome_of s (length (take (length out - 24) out)))
    (left : new ≡ list_after_of s (take (length out - 24) out))
    (counted : n ≡ intervals_of o) where
  lent : length (take (length out - 24) out) ≡ length out - 24
  lent = length-take-le (length out - 24) out (omega arith)

  counts : 24 * n ≡ length (records_in s (length out - 24))
  counts = rw (counted, told, lent, length-list s (length out - 24))

  pub room-left : 24 * n + 24 ≤ length out
  room-left = omega (arith, counts, records-fit s (length out - 24))

  -- the buffer after the list
  listed : new ++ drop (length out - 24) out ≡ sets out 0 (records_in s (length out - 24))
  unfolding list_after_of
  listed = rw (left, lent) (sets_front (records_in s (length out - 24)) out (length out - 24) (records-fit s (length out - 24)) (omega arith))

  pub room_for : 24 * n + 24 ≤ length (new ++ drop (length out - 24) out)
  room_for = rw listed (rw length-sets room-left)

  pub replied : (c : Interval) (out' : List ℕ) → c ≡ closing_of (job_of s) o → out' ≡ write_of (new ++ drop (length out - 24) out) (24 * n) c
      → (24 * n + 24 ≡ length (reply_of s (length out))) × (out' ≡ sets out 0 (reply_of s (length out)))
  unfolding reply_of write_of
  replied c out' closes put =
      let e : closing_of (job_of s) (outcome_of s (length out - 24)) ≡ c = rw (closes, told, lent) in
      rw (le-leb 24 (length out) long, e)
      (rw (length-append, length-record c) (omega (arith, counts)), put ∙ rw (listed, sets-append (records_in s (length out - 24)) (record_bytes c) out 0, counts, zero-add))

-- what is written fits
pub reply-fits : (s : List ℕ) (room : ℕ) → length (reply_of s room) ≤ room
unfolding reply_of
reply-fits s room = by (leb 24 room) refl
  where
    by : (t : Bool) → leb 24 room ≡ t → length (cond t (records_in s (room - 24) ++ record_bytes (closing_of (job_of s) (outcome_of s (room - 24)))) []) ≤ room
    by true e = rw (length-append, length-record) (omega (arith, records-fit s (room - 24), leb-true 24 room e))
    by false e = omega arith
