-- A list of ours, read back from its bytes: the same intervals, so it is never refused.
use Prim.Native.Nat.{ℕ, suc, ◌+◌, ◌*◌, ◌/◌, ◌%◌, ◌^◌, ◌≤◌, ◌<◌}
use mathlib.Core.Path.{◌≡◌, refl, sym, ap, ◌∙◌}
use mathlib.Core.Bool.{false}
use mathlib.Core.List.{List, [], ◌∷◌, ◌++◌, append_assoc}
use native.Mathlib.Omega.{arith}
use lib.ListN.{length, take, drop, length-append}
use lib.Seq.{take_at}
use borrow.Author.Tests.{eq-eqb, le-ltb}
use Rattle.words.specs.Little.{bytes_of}
use Rattle.words.proofs.Laws.{length-bytes, read_among}
use Rattle.interval.specs.declared.Interval.{Interval}
use Rattle.interval.specs.Record.{record_bytes}
use Rattle.interval.proofs.Laws.{length-record}
use Rattle.geometry.specs.declared.Sight.{Sight}
use Rattle.std.specs.Prelude.{Ok}
use Rattle.finder.specs.declared.Window.{Window}
use Rattle.finder.specs.declared.Found.{Found}
use Rattle.finder.specs.Spans.{Span, span, list_of}
use Rattle.finder.specs.Fits.{InOrder}
use Rattle.finder.specs.Records.{interval_of, records_of, found_of}
use Rattle.finder.proofs.Records.{length-records}
use Rattle.finder.proofs.Listed.{list_in_order}
use Rattle.job.specs.Table.{window_of}
use Rattle.job.specs.Outcome.{answers_in, sights_in, outcome_of, list_after_of}
use Rattle.job.proofs.Exactly.{listed-good, listed-intervals}
use Rattle.job.proofs.Written.{records-then_rest}
use Rattle.job.proofs.Admits.{listed_admitted}
use Rattle.days.specs.Days.{days_of}
use Rattle.days.specs.Given.{span_at, spans_from, spans_of, bad_list}
use Rattle.days.specs.Totals.{short_room, totals_by, totals_of}
use Rattle.days.proofs.Orderly.{in_order_good}

-- ---- intervals read back

-- record k, behind as many bytes as it should be
span-read : (p q : List ℕ) (k : ℕ) (r : Interval) → length p ≡ 24 * k → r.first < 256 ^ 8 → r.last < 256 ^ 8 → span_at (p ++ (record_bytes r ++ q)) k ≡ span r.first r.last
unfolding span_at record_bytes
span-read p q k r long small least =
    let a = bytes_of 4 r.job in
    let b = bytes_of 4 r.flags in
    let c = bytes_of 8 r.first in
    let d = bytes_of 8 r.last in
    let s = p ++ (record_bytes r ++ q) in
    let to-first : length (p ++ (a ++ b)) ≡ 24 * k + 8 = simp (length-append, length-bytes) (omega (arith, long)) in
    let to_last : length (p ++ (a ++ (b ++ c))) ≡ 24 * k + 16 = simp (length-append, length-bytes) (omega (arith, long)) in
    rw (read_among 8 r.first s (p ++ (a ++ b)) (d ++ q) (24 * k + 8) small to-first (simp append_assoc), read_among 8 r.last s (p ++ (a ++ (b ++ c))) q (24 * k + 16) least to_last (simp append_assoc)) refl

module _ (g : ℕ → Sight) (w : Window) (high : ℕ) (fits : high < 256 ^ 8) where
  spans-read : (low k : ℕ) (p : List ℕ) (l : List Span) → length p ≡ 24 * k → InOrder low l high → spans_from (p ++ records_of g w l) k (length l) ≡ l
  unfolding spans_from records_of interval_of
  spans-read low k p [] long o = refl
  spans-read low k p (s ∷ l) long o =
      let r = record_bytes (interval_of g w s) in
      let further : length (p ++ r) ≡ 24 * suc k = length-append p r ∙ omega (arith, long, length-record (interval_of g w s)) in
      rw (span-read p (records_of g w l) k (interval_of g w s) long (omega (arith, o.1, o.2)) (omega (arith, o.2)))
      (ap (λ (m : List Span). s ∷ m) (ap (λ (x : List ℕ). spans_from x (suc k) (length l)) (sym (append_assoc p r (records_of g w l))) ∙ spans-read (s.last + 2) (suc k) (p ++ r) l further o.3))

  spans-back : (low : ℕ) (l : List Span) → InOrder low l high → spans_of (records_of g w l) ≡ l
  unfolding spans_of
  spans-back low l o =
      let n : length (records_of g w l) / 24 ≡ length l = omega (arith, length-records g w l) in
      rw n (spans-read low 0 [] l refl o)

-- ---- the list that a job leaves

module _ (s old : List ℕ) {found : Found} (h : outcome_of s (length old) ≡ Ok found) where
  abbrev w : Window
  w = window_of s

  abbrev l : List Span
  l = list_of (answers_in s) w

  abbrev bytes : List ℕ
  bytes = take (24 * found.intervals) (list_after_of s old)

  bytes_are : bytes ≡ records_of (sights_in s) w l
  unfolding found_of
  bytes_are =
      let long : length (records_of (sights_in s) w l) ≡ 24 * found.intervals = length-records (sights_in s) w l ∙ ap (λ (m : ℕ). 24 * m) (sym (listed-intervals s (length old) h)) in
      ap (take (24 * found.intervals)) (records-then_rest s old h) ∙ take_at (records_of (sights_in s) w l) (drop (24 * found.intervals) old) (24 * found.intervals) long

  order : InOrder w.t0 l w.t1
  order = list_in_order w (listed-good s (length old) h) (answers_in s)

  pub ours_spans : spans_of bytes ≡ l
  ours_spans = ap spans_of bytes_are ∙ spans-back (sights_in s) w w.t1 (omega (arith, (listed-good s (length old) h).end)) w.t0 l order

  pub ours_good : bad_list w bytes ≡ false
  unfolding bad_list
  ours_good =
      let whole : length bytes % 24 ≡ 0 = omega (arith, ap length bytes_are, length-records (sights_in s) w l) in
      rw (eq-eqb (length bytes % 24) 0 whole, ours_spans) (in_order_good w.t0 w.t1 l order)

  pub ours_accepted : (room : ℕ) → 16 * days_of w ≤ room → totals_of s bytes room ≡ Ok (days_of w)
  unfolding totals_of totals_by short_room
  ours_accepted room enough = rw (listed_admitted s (length old) h, le-ltb room (16 * days_of w) enough, ours_good) refl
