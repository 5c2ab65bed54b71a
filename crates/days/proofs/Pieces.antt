-- A list's bytes piece by piece: the record that stands first in what is left of them is the next interval.
use Prim.Native.Nat.{ℕ, suc, zero, ◌+◌, ◌*◌, ◌/◌, ◌≤◌, ◌<◌}
use mathlib.Core.Path.{◌≡◌, refl, sym, ap, ◌∙◌}
use mathlib.Core.List.{List, [], ◌∷◌, ◌++◌}
use native.Mathlib.Omega.{arith}
use lib.ListN.{length, drop, length-append, length-drop}
use lib.Seq.{drop_at, drop-drop, take-append-le, drop-append-le, drop-append-add}
use Rattle.words.specs.Little.{read_of}
use Rattle.finder.specs.Spans.{Span}
use Rattle.days.specs.Given.{span_at, spans_from}

-- ---- reading in two parts

pub read_left : (n : ℕ) (a b : List ℕ) (at : ℕ) → at + n ≤ length a → read_of n (a ++ b) at ≡ read_of n a at
unfolding read_of
read_left n a b at h = rw (drop-append-le at a b (omega arith), take-append-le n (drop at a) b (simp length-drop (omega arith))) refl

pub read_right : (n : ℕ) (a b : List ℕ) (at k : ℕ) → k ≡ length a + at → read_of n (a ++ b) k ≡ read_of n b at
unfolding read_of
read_right n a b at k e = rw (e, drop-append-add a b at) refl

read-behind : (n : ℕ) (l : List ℕ) (i at : ℕ) → read_of n (drop i l) at ≡ read_of n l (i + at)
unfolding read_of
read-behind n l i at = rw (drop-drop at i l) refl

-- ---- a piece

-- behind k pieces: it is interval k, one of those that there are, and what is left behind it is what is left behind k + 1
module _ (list piece rest : List ℕ) (k : ℕ) (front : drop (24 * k) list ≡ piece ++ rest) (long : length piece ≡ 24) where
  pub next-piece : (span_at piece 0 ≡ span_at list k) × (k < length list / 24) × (rest ≡ drop (24 * (k + 1)) list)
  unfolding span_at
  next-piece =
      let at : (i : ℕ) → i + 8 ≤ 24 → read_of 8 piece i ≡ read_of 8 list (24 * k + i) = λ i h. sym (read_left 8 piece rest i (omega arith)) ∙ ap (λ (x : List ℕ). read_of 8 x i) (sym front) ∙ read-behind 8 list (24 * k) i in
      let next : 24 * k + 24 ≡ 24 * (k + 1) = omega arith in (
        rw (at 8 (omega arith), at 16 (omega arith)) refl,
        omega (arith, length-drop (24 * k) list, ap length front, length-append piece rest),
        sym (drop_at piece rest 24 long) ∙ ap (drop 24) (sym front) ∙ drop-drop 24 (24 * k) list ∙ ap (λ (i : ℕ). drop i list) next,
      )

-- and where no piece is left, that was all
pub pieces-end : (list : List ℕ) (k : ℕ) → k ≤ length list / 24 → length (drop (24 * k) list) < 24 → k ≡ length list / 24
pieces-end list k most short = omega (arith, length-drop (24 * k) list)

-- ---- intervals of a list's bytes

spans-add : (list : List ℕ) (k m n : ℕ) → spans_from list k (m + n) ≡ spans_from list k m ++ spans_from list (k + m) n
unfolding spans_from
spans-add list k zero n = let e : k + 0 ≡ k = omega arith in let z : 0 + n ≡ n = omega arith in rw (e, z) refl
spans-add list k (suc m) n =
    let more : suc m + n ≡ suc (m + n) = omega arith in
    let e : suc k + m ≡ k + suc m = omega arith in
    rw more (ap (λ (l : List Span). span_at list k ∷ l) (spans-add list (suc k) m n) ∙ rw e refl)

-- the first k, and those behind them
pub spans-split : (list : List ℕ) (k n : ℕ) → spans_from list 0 (k + n) ≡ spans_from list 0 k ++ spans_from list k n
spans-split list k n = let e : 0 + k ≡ k = omega arith in spans-add list 0 k n ∙ ap (λ (j : ℕ). spans_from list 0 k ++ spans_from list j n) e

-- one more
pub spans-one : (list : List ℕ) (k : ℕ) → spans_from list 0 (k + 1) ≡ spans_from list 0 k ++ span_at list k ∷ []
unfolding spans_from
spans-one list k = spans-split list k 1
