-- The bytes that a listed job leaves, read back: the records from byte 0, each of them its interval, and the rest as it was.
use Prim.Native.Nat.{ℕ, ◌+◌, ◌*◌, ◌≤◌, ◌<◌}
use mathlib.Core.Path.{◌≡◌, refl, sym, ap, subst, ◌∙◌}
use mathlib.Core.List.{List, ◌++◌}
use native.Mathlib.Omega.{arith}
use native.Mathlib.Nat.{zero-add}
use lib.ListN.{length, get_or, take, drop, length-drop}
use lib.Seq.{sets-eq, take-append-le, drop-append-le}
use Rattle.std.specs.Prelude.{Ok, Some}
use Rattle.words.specs.Little.{Bytes}
use Rattle.words.proofs.Laws.{read-lt}
use Rattle.interval.specs.declared.Interval.{Interval}
use Rattle.interval.specs.Record.{record_bytes, parsed_of, Sized}
use Rattle.interval.proofs.Laws.{reads, read_back, length-record}
use Rattle.elements.specs.Reading.{WholeRecord}
use Rattle.finder.specs.declared.Found.{Found}
use Rattle.finder.specs.Spans.{Span, span, list_of}
use Rattle.finder.specs.Records.{interval_of, records_of, found_of, room_of}
use Rattle.finder.proofs.Counts.{list-most}
use Rattle.finder.proofs.Flags.{flags-most}
use Rattle.finder.proofs.Records.{length-records, record-at, in_order_at}
use Rattle.finder.proofs.Listed.{list_in_order}
use Rattle.job.specs.Table.{window_of}
use Rattle.job.specs.Outcome.{answers_in, sights_in, outcome_of, list_after_of}
use Rattle.job.proofs.Exactly.{listed-whole, listed-good, listed-roomy, listed-intervals, listed-bytes}

-- a record's bytes read as that record
parsed : (r : Interval) → Sized r → parsed_of (record_bytes r) ≡ Some r
parsed r z = reads (record_bytes r) (length-record r) ∙ ap (λ (x : Interval). Some x) (read_back r z)

module _ (s old : List ℕ) {found : Found} (h : outcome_of s (length old) ≡ Ok found) where
  abbrev n : ℕ
  n = found.intervals

  abbrev l : List Span
  l = list_of (answers_in s) (window_of s)

  abbrev bytes : List ℕ
  bytes = records_of (sights_in s) (window_of s) l

  counts : length bytes ≡ 24 * n
  unfolding found_of
  counts = length-records (sights_in s) (window_of s) l ∙ ap (λ (m : ℕ). 24 * m) (sym (listed-intervals s (length old) h))

  fit : 0 + length bytes ≤ length old
  unfolding room_of
  fit =
      omega (arith, length-records (sights_in s) (window_of s) l, list-most (answers_in s) (window_of s), listed-roomy s (length old) h)

  -- the records from byte 0, and every byte behind them as it was
  pub records-then_rest : list_after_of s old ≡ bytes ++ drop (24 * n) old
  records-then_rest =
      listed-bytes s (length old) h old refl
      ∙ sets-eq bytes old 0 fit
      ∙ ap (λ (m : ℕ). bytes ++ drop m old) (zero-add (length bytes) ∙ counts)

  module _ (i : ℕ) (below : i < n) where
    abbrev one : Span
    one = get_or l i (span 0 0)

    inside : i < length l
    unfolding found_of
    inside = subst (λ (m : ℕ). i < m) (listed-intervals s (length old) h) below

    sized : Bytes s → Sized (interval_of (sights_in s) (window_of s) one)
    unfolding interval_of window_of
    sized b =
        let w = window_of s in
        let whole : WholeRecord s = listed-whole s (length old) h in
        let good = listed-good s (length old) h in
        let at = in_order_at w.t0 w.t1 l i (list_in_order w good (answers_in s)) inside in
        record {
          job-fits = read-lt 4 s 0 (omega arith) b;
          flags-fits = omega (arith, flags-most (sights_in s) w one);
          first_fits = omega (arith, at.1, at.2, good.end);
          last_fits = omega (arith, at.2, good.end);
        }

    -- record i has the bytes of interval i
    pub record-bytes : take 24 (drop (24 * i) (list_after_of s old)) ≡ record_bytes (interval_of (sights_in s) (window_of s) one)
    record-bytes =
        let rest = drop (24 * n) old in
        let enough : 24 ≤ length (drop (24 * i) bytes) = rw (length-drop, counts) (omega arith) in
        ap (λ (x : List ℕ). take 24 (drop (24 * i) x)) records-then_rest
        ∙ ap (take 24) (drop-append-le (24 * i) bytes rest (omega (arith, counts)))
        ∙ take-append-le 24 (drop (24 * i) bytes) rest enough
        ∙ record-at (sights_in s) (window_of s) l i inside

    -- so it reads as that interval
    pub record_is : Bytes s → parsed_of (take 24 (drop (24 * i) (list_after_of s old))) ≡ Some (interval_of (sights_in s) (window_of s) one)
    record_is b = ap parsed_of record-bytes ∙ parsed (interval_of (sights_in s) (window_of s) one) (sized b)
