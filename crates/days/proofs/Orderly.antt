-- What follows of intervals that are not bad: each is inside the window and behind the one before, so no two share an instant and there are not many.
use Prim.Native.Nat.{ℕ, ◌+◌, ◌*◌, ◌≤◌, ◌<◌, max}
use mathlib.Core.Path.{◌≡◌, refl, sym, ap, ◌∙◌}
use mathlib.Core.Bool.{Bool, true, false, ◌||◌, true≢false}
use mathlib.Core.List.{List, [], ◌∷◌, ◌++◌}
use native.Mathlib.Omega.{arith}
use borrow.Author.Tests.{ltb-false, le-ltb, leb-true, lt-leb}
use lib.Dec.{leb}
use lib.ListN.{length}
use Rattle.finder.specs.Spans.{Span}
use Rattle.finder.specs.Fits.{InOrder, within, listed}
use Rattle.days.specs.Given.{bad_span, bad_spans}
use Rattle.days.specs.State.{next_from}
use Rattle.days.proofs.Bools.{neither, both, or_assoc, or-false}

-- ---- one interval

-- it is inside, and behind `low`
pub good-span : (low high : ℕ) (s : Span) → bad_span low high s ≡ false → (s.first ≤ s.last) × (low ≤ s.first) × (s.last ≤ high)
unfolding bad_span
good-span low high s h =
    let a = neither h in
    let b = neither a.0 in
    (ltb-false s.last s.first b.0, ltb-false s.first low b.1, ltb-false high s.last a.1)

span-good : (low high : ℕ) (s : Span) → s.first ≤ s.last → low ≤ s.first → s.last ≤ high → bad_span low high s ≡ false
unfolding bad_span
span-good low high s a b c = rw (le-ltb s.last s.first a, le-ltb s.first low b, le-ltb high s.last c) refl

-- ---- several

-- a bad interval behind others is bad among them
pub bad_append_lem : (low high : ℕ) (l m : List Span) → bad_spans low high (l ++ m) ≡ (bad_spans low high l || bad_spans (next_from low l) high m)
unfolding bad_spans next_from
bad_append_lem low high [] m = refl
bad_append_lem low high (s ∷ l) m =
    ap (λ (b : Bool). bad_span low high s || b) (bad_append_lem (s.last + 2) high l m) ∙ sym (or_assoc (bad_span low high s) (bad_spans (s.last + 2) high l) (bad_spans (next_from (s.last + 2) l) high m))

pub bad_one : (low high : ℕ) (l : List Span) (s : Span) → bad_spans low high (l ++ s ∷ []) ≡ (bad_spans low high l || bad_span (next_from low l) high s)
unfolding bad_spans
bad_one low high l s = bad_append_lem low high l (s ∷ []) ∙ ap (λ (b : Bool). bad_spans low high l || b) (or-false (bad_span (next_from low l) high s))

pub next_one : (low : ℕ) (l : List Span) (s : Span) → next_from low (l ++ s ∷ []) ≡ s.last + 2
unfolding next_from
next_one low [] s = refl
next_one low (x ∷ l) s = next_one (x.last + 2) l s

module _ (high : ℕ) where
  -- where the next may begin: behind two instants for each
  pub next-far : (low : ℕ) (l : List Span) → bad_spans low high l ≡ false → (low + 2 * length l ≤ next_from low l) × (next_from low l ≤ max low (high + 2))
  unfolding bad_spans next_from
  next-far low [] h = (omega arith, omega arith)
  next-far low (s ∷ l) h =
      let a = neither h in
      let g = good-span low high s a.0 in
      let r = next-far (s.last + 2) l a.1 in
      (omega (arith, g.0, g.1, r.0), omega (arith, g.2, r.1))

  -- an instant of theirs lies before that
  listed-before : (low : ℕ) (l : List Span) (t : ℕ) → bad_spans low high l ≡ false → listed l t ≡ true → t + 2 ≤ next_from low l
  unfolding bad_spans next_from listed
  listed-before low [] t h on = absurd (true≢false (sym on))
  listed-before low (s ∷ l) t h on =
      let rest = (neither {a = bad_span low high s} h).1 in
      by (within s t) refl (next-far (s.last + 2) l rest).0 (listed-before (s.last + 2) l t rest)
    where
      by : (x : Bool) → within s t ≡ x → (s.last + 2) + 2 * length l ≤ next_from (s.last + 2) l → (listed l t ≡ true → t + 2 ≤ next_from (s.last + 2) l) → t + 2 ≤ next_from (s.last + 2) l
      by true p far later = omega (arith, leb-true t s.last (both (leb s.first t) (leb t s.last) p).1, far)
      by false p far later = later (rw p at on)

  -- so no instant lies both in one of them and in an interval behind
  pub apart : (low : ℕ) (l : List Span) (s : Span) (t : ℕ) → bad_spans low high l ≡ false → bad_span (next_from low l) high s ≡ false → listed l t ≡ true → within s t ≡ false
  apart low l s t h g on =
      let early : t < s.first = omega (arith, listed-before low l t h on, (good-span (next_from low l) high s g).1) in
      rw (lt-leb s.first t early) refl

-- an instant in a longer list
pub listed_more : (l : List Span) (s : Span) (t : ℕ) → listed (l ++ s ∷ []) t ≡ (listed l t || within s t)
unfolding listed
listed_more [] s t = or-false (within s t)
listed_more (x ∷ l) s t = ap (λ (b : Bool). within x t || b) (listed_more l s t) ∙ sym (or_assoc (within x t) (listed l t) (within s t))

-- ---- the order that the finder's laws speak of is the same

pub in_order_good : (low high : ℕ) (l : List Span) → InOrder low l high → bad_spans low high l ≡ false
unfolding bad_spans
in_order_good low high [] h = refl
in_order_good low high (s ∷ l) h = rw (span-good low high s h.1 h.0 h.2) (in_order_good (s.last + 2) high l h.3)

pub good_in_order : (low high : ℕ) (l : List Span) → bad_spans low high l ≡ false → InOrder low l high
unfolding bad_spans
good_in_order low high [] h = tt
good_in_order low high (s ∷ l) h =
    let a = neither h in
    let g = good-span low high s a.0 in
    (g.1, g.0, g.2, good_in_order (s.last + 2) high l a.1)
