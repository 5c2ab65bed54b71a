-- The longer list, a list's bytes and a piece behind them: its intervals are the list's and the piece's, and an update is its summary afresh.
use Prim.Native.Nat.{ℕ, zero, suc, ◌+◌, ◌*◌, ◌/◌, ◌%◌, ◌≤◌}
use mathlib.Core.Path.{◌≡◌, refl, sym, ◌∙◌}
use mathlib.Core.Bool.{Bool, true, false, not, ◌||◌}
use mathlib.Core.List.{List, [], ◌∷◌, ◌++◌}
use native.Mathlib.Omega.{arith}
use borrow.Author.Tests.{eqb-true, eqb-false, not-false, eq-eqb, ne_eqb}
use lib.Dec.{eqb}
use lib.ListN.{length, length-append}
use lib.Seq.{sets}
use Rattle.finder.specs.declared.Window.{Window}
use Rattle.days.specs.Summary.{summary_of, updated}
use Rattle.days.specs.Given.{span_at, spans_from, spans_of, bad_span, bad_spans, bad_list}
use Rattle.days.specs.State.{next_from, Awaits}
use Rattle.days.proofs.Bools.{neither}
use Rattle.days.proofs.Orderly.{bad_one}
use Rattle.days.proofs.Pieces.{read_left, read_right, spans-one}
use Rattle.days.proofs.Working.{summary-set}
use Rattle.days.proofs.Updates.{stands-room, afresh}

-- ---- the intervals

module _ (a b : List ℕ) where
  spans-left : (k n : ℕ) → 24 * (k + n) ≤ length a → spans_from (a ++ b) k n ≡ spans_from a k n
  unfolding spans_from span_at
  spans-left k zero h = refl
  spans-left k (suc n) h = rw (read_left 8 a b (24 * k + 8) (omega arith), read_left 8 a b (24 * k + 16) (omega arith), spans-left (suc k) n (omega arith)) refl

  module _ (whole : length a % 24 ≡ 0) (one : length b ≡ 24) where
    spans-both : spans_of (a ++ b) ≡ spans_of a ++ span_at b 0 ∷ []
    unfolding spans_of span_at
    spans-both =
        let n = length a / 24 in
        let more : length (a ++ b) / 24 ≡ n + 1 = omega (arith, length-append a b) in
        rw (more, spans-one (a ++ b) n, spans-left 0 n (omega arith), read_right 8 a b 8 (24 * n + 8) (omega arith), read_right 8 a b 16 (24 * n + 16) (omega arith)) refl

    whole-both : length (a ++ b) % 24 ≡ 0
    whole-both = omega (arith, length-append a b)

-- ---- the longer list

-- a good list is whole records
pub list-whole : (w : Window) (list : List ℕ) → bad_list w list ≡ false → length list % 24 ≡ 0
unfolding bad_list
list-whole w list h = eqb-true (length list % 24) 0 (not-false (eqb (length list % 24) 0) (neither {b = bad_spans w.t0 w.t1 (spans_of list)} h).0)

-- is bad exactly if the list is, or the piece as an interval behind it
module _ (w : Window) (list piece : List ℕ) (one : length piece ≡ 24) where
  pub longer-is : bad_list w (list ++ piece) ≡ (bad_list w list || bad_span (next_from w.t0 (spans_of list)) w.t1 (span_at piece 0))
  unfolding bad_list
  longer-is = by (eqb (length list % 24) 0) refl
    where
      by : (t : Bool) → eqb (length list % 24) 0 ≡ t
          → (not (eqb (length (list ++ piece) % 24) 0) || bad_spans w.t0 w.t1 (spans_of (list ++ piece))) ≡ ((not t || bad_spans w.t0 w.t1 (spans_of list)) || bad_span (next_from w.t0 (spans_of list)) w.t1 (span_at piece 0))
      by true e =
          let whole = eqb-true (length list % 24) 0 e in
          rw (eq-eqb (length (list ++ piece) % 24) 0 (whole-both list piece whole one), spans-both list piece whole one) (bad_one w.t0 w.t1 (spans_of list) (span_at piece 0))
      by false e = let half : length (list ++ piece) % 24 ≡ 0 → ⊥ = λ h. eqb-false (length list % 24) 0 e (omega (arith, length-append list piece, one, h)) in rw (ne_eqb (length (list ++ piece) % 24) 0 half) refl

  -- and its summary is what the update of the list's leaves
  pub longer-summary : (lent : List ℕ) → bad_list w list ≡ false → Awaits w (spans_of list) (span_at piece 0) lent → updated w (spans_of list) (span_at piece 0) lent ≡ sets lent 0 (summary_of w (spans_of (list ++ piece)))
  longer-summary lent good a =
      let whole = list-whole w list good in
      let room = stands-room w (spans_of list) lent a.stands in
      afresh w (spans_of list) (span_at piece 0) lent a ∙ rw (spans-both list piece whole one) (sym (summary-set w (spans_of list ++ span_at piece 0 ∷ []) lent room))
