-- The records' bytes: 24 for each interval, written one behind the other; record i is interval i.
use Prim.Native.Nat.{ℕ, zero, suc, ◌+◌, ◌*◌, ◌≤◌, ◌<◌}
use mathlib.Core.Path.{◌≡◌, refl, sym, ap, ◌∙◌}
use mathlib.Core.List.{List, [], ◌∷◌, ◌++◌, append_assoc}
use native.Mathlib.Omega.{arith}
use lib.ListN.{length, get_or, take, drop, length-append}
use lib.Seq.{sets, drop-drop, take_at, drop_at}
use Rattle.geometry.specs.declared.Sight.{Sight}
use Rattle.interval.specs.Record.{record_bytes}
use Rattle.interval.proofs.Laws.{length-record}
use Rattle.words.proofs.Stores.{sets-append}
use Rattle.finder.specs.declared.Window.{Window}
use Rattle.finder.specs.Spans.{Span, span}
use Rattle.finder.specs.Records.{interval_of, records_of, written}
use Rattle.finder.specs.Fits.{InOrder}

module _ (g : ℕ → Sight) (w : Window) where
  records-append : (xs ys : List Span) → records_of g w (xs ++ ys) ≡ records_of g w xs ++ records_of g w ys
  unfolding records_of
  records-append [] ys = refl
  records-append (x ∷ xs) ys = rw (records-append xs ys, append_assoc)

  pub length-records : (xs : List Span) → length (records_of g w xs) ≡ 24 * length xs
  unfolding records_of
  length-records [] = refl
  length-records (x ∷ xs) = rw (length-append, length-record, length-records xs) (omega arith)

  -- two lists of records, the second behind the first
  pub written_both : (out : List ℕ) (count : ℕ) (xs ys : List Span) → written g w (written g w out count xs) (count + length xs) ys ≡ written g w out count (xs ++ ys)
  written_both out count xs ys =
      rw (records-append, sets-append, length-records)
      (ap (λ (k : ℕ). sets (written g w out count xs) k (records_of g w ys)) (omega arith))

  -- record i of a list's bytes is interval i
  pub record-at : (l : List Span) (i : ℕ) → i < length l → take 24 (drop (24 * i) (records_of g w l)) ≡ record_bytes (interval_of g w (get_or l i (span 0 0)))
  unfolding records_of
  record-at [] i h = absurd (omega arith)
  record-at (s ∷ l) zero h = take_at (record_bytes (interval_of g w s)) (records_of g w l) 24 (length-record (interval_of g w s))
  record-at (s ∷ l) (suc i) h =
      let next : 24 * suc i ≡ 24 + 24 * i = omega arith in
      ap (λ (k : ℕ). take 24 (drop k (record_bytes (interval_of g w s) ++ records_of g w l))) next
      ∙ ap (take 24) (sym (drop-drop (24 * i) 24 (record_bytes (interval_of g w s) ++ records_of g w l)))
      ∙ ap (λ (r : List ℕ). take 24 (drop (24 * i) r)) (drop_at (record_bytes (interval_of g w s)) (records_of g w l) 24 (length-record (interval_of g w s)))
      ∙ record-at l i (omega arith)

-- an interval of a list in order lies inside
pub in_order_at : (low high : ℕ) (l : List Span) (i : ℕ) → InOrder low l high → i < length l → let s = get_or l i (span 0 0) in (low ≤ s.first) × (s.first ≤ s.last) × (s.last ≤ high)
in_order_at low high [] i o h = absurd (omega arith)
in_order_at low high (s ∷ l) zero o h = (o.0, o.1, o.2)
in_order_at low high (s ∷ l) (suc i) o h =
    let rest = in_order_at (s.last + 2) high l i o.3 (omega arith) in
    (omega (arith, o.0, o.1, rest.0), rest.1, rest.2)
