-- The laws of a reply: the summary of the job's own list is worked out behind the head, and the two are the reply. And of what is replied to: one record.
use Prim.Native.Nat.{ℕ, ◌+◌, ◌-◌, ◌*◌, ◌≤◌}
use mathlib.Core.Path.{◌≡◌, refl, sym, ap, ◌∙◌}
use mathlib.Core.List.{List, ◌++◌, append_assoc}
use native.Mathlib.Omega.{arith}
use lib.ListN.{length, take, drop, length-append, length-drop, length-take}
use lib.Seq.{sets, sets-eq, length-sets, length-take-le, drop_at}
use Rattle.io.specs.Counts.{IsPrefixLen}
use Rattle.io.proofs.Counting.{prefix_len_of_le as counts}
use Rattle.words.proofs.Stores.{sets-rest}
use Rattle.refusal.specs.declared.Refusal.{Refusal}
use Rattle.interval.specs.declared.Interval.{Interval}
use Rattle.interval.specs.Record.{record_bytes, write_of}
use Rattle.interval.proofs.Laws.{length-record}
use Rattle.std.specs.Prelude.{Ok, Err}
use Rattle.finder.specs.declared.Window.{Window}
use Rattle.finder.specs.declared.Found.{Found}
use Rattle.finder.specs.Spans.{Span, list_of}
use Rattle.finder.specs.Records.{found_of, records_of, room_for_any}
use Rattle.finder.proofs.Records.{length-records}
use Rattle.job.specs.Table.{window_of}
use Rattle.job.specs.Outcome.{answers_in, sights_in, outcome_of, records_in, list_after_of}
use Rattle.job.specs.Reply.{job_of, closing_of}
use Rattle.job.proofs.Exactly.{listed-good, listed-intervals}
use Rattle.job.proofs.Written.{records-then_rest}
use Rattle.days.specs.Days.{days_of, most_days}
use Rattle.days.specs.Summary.{summary_of}
use Rattle.days.specs.Given.{spans_of}
use Rattle.days.specs.Totals.{Totals, numbers_of, totals_of, summary_after_of}
use Rattle.days.proofs.Records.{length-summary}
use Rattle.days.proofs.Cases.{days-most}
use Rattle.days.proofs.Ours.{ours_accepted, ours_spans}
use Rattle.streams.specs.Answered.{Whole}
use Rattle.totals.specs.Reply.{reply_by, reply_of, HoldsOneRecord}

-- what stands behind h, stored before h is, is stored behind it
sets-before : (h xs l : List ℕ) (at : ℕ) → length h ≡ at → at + length xs ≤ length l → sets (sets l at xs) 0 h ≡ sets l 0 (h ++ xs)
sets-before h xs l at long fits =
    let q = drop (at + length xs) l in
    let behind : sets l at xs ≡ take at l ++ (xs ++ q) = sets-eq xs l at fits ∙ append_assoc (take at l) xs q in
    let room : 0 + length h ≤ length (sets l at xs) = rw (length-sets l at xs) (omega arith) in
    let both : 0 + length (h ++ xs) ≤ length l = rw (length-append h xs) (omega arith) in
    let end : 0 + length (h ++ xs) ≡ at + length xs = rw (length-append h xs) (omega arith) in
    let start : 0 + length h ≡ at = omega arith in
    let rest : drop at (sets l at xs) ≡ xs ++ q = ap (drop at) behind ∙ drop_at (take at l) (xs ++ q) at (length-take-le at l (omega arith)) in
    let left : sets (sets l at xs) 0 h ≡ h ++ (xs ++ q) = sets-eq h (sets l at xs) 0 room ∙ rw (start, rest) refl in
    let right : sets l 0 (h ++ xs) ≡ (h ++ xs) ++ q = sets-eq (h ++ xs) l 0 both ∙ rw end refl in
    left ∙ sym (right ∙ append_assoc h xs q)

-- what `reply` ensures: r bytes of `after`, which was `out`, are the reply
abbrev Replied : List ℕ → List ℕ → ℕ → List ℕ → Type 0
Replied s out r after = (IsPrefixLen r after × (r ≡ length (reply_of s))) × (after ≡ sets out 0 (reply_of s))

replied : (s out : List ℕ) (r : ℕ) (after : List ℕ) → r ≤ length out → r ≡ length (reply_of s) → after ≡ sets out 0 (reply_of s) → Replied s out r after
replied s out r after fits long is = ((counts r after (omega (arith, ap length is, length-sets out 0 (reply_of s))), long), is)

-- ---- the pieces

-- by way of a buffer for one record, each piece of whole records is one
pub one-record : (buf s : List ℕ) → HoldsOneRecord buf → Whole (length buf) s → length s ≡ 136
one-record buf s one whole = omega (arith, one, whole.0, whole.1, whole.2)

-- ---- a refused job

-- the record that `lists` writes, and no other
pub refused : (s list out : List ℕ) (r : Refusal) (c : Interval) (after : List ℕ) → length list ≡ room_for_any → 24 ≤ length out → outcome_of s (length list) ≡ Err r
    → c ≡ closing_of (job_of s) (Err r) → after ≡ write_of out 0 c → Replied s out 24 after
unfolding reply_of reply_by write_of
refused s list out r c after any room h closes put =
    let is : reply_of s ≡ record_bytes c = rw (← any, h, closes) refl in
    replied s out 24 after room (sym (ap length is ∙ length-record c)) (put ∙ rw is refl)

-- ---- a listed job

-- its records are inside the lent list
pub inside : (s list : List ℕ) (found : Found) → Ok found ≡ outcome_of s (length list) → 24 * found.intervals ≤ length list
unfolding list_after_of found_of
inside s list found h =
    let w = window_of s in
    let n = found.intervals in
    let bytes = records_of (sights_in s) w (list_of (answers_in s) w) in
    let counts : length bytes ≡ 24 * n = length-records (sights_in s) w (list_of (answers_in s) w) ∙ ap (λ (m : ℕ). 24 * m) (sym (listed-intervals s (length list) (sym h))) in
    omega (arith, counts, ap length (records-then_rest s list (sym h)), length-append bytes (drop (24 * n) list), length-sets list 0 (records_in s (length list)))

module _ (s list : List ℕ) {found : Found} (h : outcome_of s (length list) ≡ Ok found) where
  abbrev n : ℕ
  n = found.intervals

  abbrev w : Window
  w = window_of s

  abbrev l : List Span
  l = list_of (answers_in s) w

  -- a window touches at most 32 days
  few : days_of w ≤ most_days
  few = days-most w (listed-good s (length list) h)

  abbrev summary : List ℕ
  summary = summary_of w l

  -- the job left `made` of the lent list, and all of `out`, which has m bytes, but the head's 24 was lent for the summary of its records: t came of that,
  -- and `new` stands there
  module _ (made out : List ℕ) (m : ℕ) (long : length out ≡ m) (room : 24 + 16 * most_days ≤ m) (t : Totals) (new : List ℕ)
      (is_made : made ≡ list_after_of s list)
      (told : t ≡ totals_of s (take (24 * n) made) (length (take (m - 24) (drop 24 out))))
      (left : new ≡ summary_after_of s (take (24 * n) made) (take (m - 24) (drop 24 out))) where
    abbrev lent : List ℕ
    lent = take (m - 24) (drop 24 out)

    accepted : totals_of s (take (24 * n) made) (length lent) ≡ Ok (days_of w)
    accepted = rw is_made (ours_accepted s list h (length lent) (simp (length-take, length-drop) (omega (arith, few))))

    spans : spans_of (take (24 * n) made) ≡ l
    spans = rw is_made (ours_spans s list h)

    -- it is not refused
    pub summed-up : t ≡ Ok (days_of w)
    summed-up = told ∙ accepted

    -- the days stand behind the head's place
    stands : take 24 out ++ (new ++ drop (m - 24) (drop 24 out)) ≡ sets out 24 summary
    unfolding summary_after_of
    stands =
        let is : new ≡ sets lent 0 summary = left ∙ rw (accepted, spans) refl in
        rw (← long) (sets-rest summary out new 24 (omega (arith, length-summary w l, few)) (rw (← long) at is))

    -- it tells how many days there are
    module _ (days : ℕ) (written : t ≡ Ok days) where
      days_are : days ≡ days_of w
      days_are = ap (λ (x : Totals). (numbers_of x).days) (sym written ∙ summed-up)

      pub days-fit : 24 + 16 * days ≤ length out
      days-fit = omega (arith, few, days_are)

      -- and with the head they are the reply
      pub listed : (c : Interval) (after : List ℕ) → length list ≡ room_for_any → c ≡ closing_of (job_of s) (Ok (record { intervals = days; asked = found.asked }))
          → after ≡ write_of (take 24 out ++ (new ++ drop (m - 24) (drop 24 out))) 0 c → Replied s out (24 + 16 * days) after
      unfolding reply_of reply_by write_of
      listed c after any closes put =
          let head = record_bytes c in
          let is : reply_of s ≡ head ++ summary = rw (← any, h, closes, days_are) refl in
          let size : length (head ++ summary) ≡ 24 + 16 * days = length-append head summary ∙ omega (arith, length-record c, length-summary w l, days_are) in
          replied s out (24 + 16 * days) after days-fit (sym (ap length is ∙ size)) (put ∙ rw (stands, is) (sets-before head summary out 24 (length-record c) (omega (arith, length-summary w l, few))))
