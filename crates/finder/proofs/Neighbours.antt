-- Both instants at an end were asked already: along the walk each edge is an end of a step or a middle. So the records are made of what g tells there.
use Prim.Native.Nat.{ℕ, ◌+◌, ◌-◌, ◌≤◌}
use mathlib.Core.Path.{◌≡◌, refl, sym, ◌∙◌}
use mathlib.Core.Logic.{inl, inr}
use mathlib.Core.List.Memᴰ
use mathlib.Core.List.Memᴰ.{head}
use mathlib.Core.List.Memᴰ.{tail}
use mathlib.Core.List.{List, [], ◌∷◌, ◌++◌}
use mathlib.Core.Bool.{Bool, true, false, true≢false}
use native.Mathlib.Omega.{arith}
use borrow.Author.Tests.{eq-eqb}
use Rattle.halving.specs.Halving.{Alike, Among}
use Rattle.halving.proofs.Among.{alike_at, Met, ends_met}
use Rattle.geometry.specs.declared.Sight.{Sight}
use Rattle.finder.specs.declared.Window.{Window}
use Rattle.finder.specs.Samples.{longest_step, Good, samples}
use Rattle.finder.specs.Spans.{Span, Each, same_as, edge, closed_in, first_after, ended, walk, list_of}
use Rattle.finder.specs.Asked.{middles_in, asked_after, instants_of, FirstAsked, LastAsked}
use Rattle.finder.specs.Flags.{first_flags, last_flags, flags_of}
use Rattle.finder.specs.Records.{interval_of, records_of}
use Rattle.finder.specs.Fits.{Rising, Short, last_of}
use Rattle.finder.proofs.Samples.{samples_rise, samples-short, samples-end}
use Rattle.finder.proofs.OneStep.{closed_same, first-same, closed_ends, first_ends, closed_begins, first-begins}
use Rattle.finder.proofs.Edged.{edged}

-- both ends of each interval
abbrev EndsAsked : Window → List ℕ → List Span → Type 0
EndsAsked w asked = Each (λ s. FirstAsked w asked s.first × LastAsked w asked s.last)

-- ---- one step

module _ (f : ℕ → Bool) (a b : ℕ) where
  -- the edge of a step whose ends differ
  edge_met : same_as f a b ≡ false → Met (edge f a b) (a ∷ b ∷ middles_in f a b)
  unfolding edge middles_in
  edge_met d = rw d (ends_met (same_as f a) 20 a b 0)

-- ---- the walk

module _ (f : ℕ → Bool) (w : Window) (asked : List ℕ) where
  -- what follows the sample a was asked
  abbrev Held : ℕ → List ℕ → Type 0
  Held a ts = (t : ℕ) → Among t (a ∷ asked_after f a ts) → Among t asked

  module _ (a b : ℕ) (ts : List ℕ) (held : Held a (b ∷ ts)) where
    held_on : Held b ts
    unfolding asked_after
    held_on t (head e) = held t (tail (head e))
    held_on t (tail h) = held t (tail (tail (Memᴰ.append_right (middles_in f a b) h)))

    held-step : (t : ℕ) → Among t (a ∷ b ∷ middles_in f a b) → Among t asked
    unfolding asked_after
    held-step t (head e) = held t (head e)
    held-step t (tail (head e)) = held t (tail (head e))
    held-step t (tail (tail h)) = held t (tail (tail (Memᴰ.append_left (asked_after f b ts) h)))

    -- both neighbours of a step whose ends differ
    edge-asked : same_as f a b ≡ false → Met (edge f a b) asked
    edge-asked d = let m = edge_met f a b d in (held-step _ m.0, held-step _ m.1)

  last-asked : (first a : ℕ) (x : Bool) → a ≡ w.t1 → FirstAsked w asked first → EndsAsked w asked (ended x first a)
  last-asked first a true e h = ((h, inl e), tt)
  last-asked first a false e h = tt

  step-asked : (first a b : ℕ) (ts : List ℕ) → a ≤ b → b ≤ a + longest_step → Held a (b ∷ ts) → FirstAsked w asked first
      → ((g : ℕ) → FirstAsked w asked g → EndsAsked w asked (walk f g b ts)) → (x y : Bool) → f a ≡ x → f b ≡ y
      → EndsAsked w asked (closed_in f first a b ++ walk f (first_after f first a b) b ts)
  step-asked first a b ts h wide held begun rest true true p q =
      rw (closed_same f first a b (p ∙ sym q), first-same f first a b (p ∙ sym q)) (rest first begun)
  step-asked first a b ts h wide held begun rest false false p q =
      rw (closed_same f first a b (p ∙ sym q), first-same f first a b (p ∙ sym q)) (rest first begun)
  step-asked first a b ts h wide held begun rest true false p q =
      let k = edged f a b h wide (λ e. true≢false (sym p ∙ e ∙ q)) in
      let m = edge-asked a b ts held (rw (p, q) refl) in
      rw (closed_ends f first a b p q, first_ends f first a b p q) ((begun, inr (m.0, rw (← k.next) m.1)), rest first begun)
  step-asked first a b ts h wide held begun rest false true p q =
      let k = edged f a b h wide (λ e. true≢false (sym q ∙ sym e ∙ p)) in
      let m = edge-asked a b ts held (rw (p, q) refl) in
      let back : (edge f a b).high - 1 ≡ (edge f a b).low = omega (arith, k.next) in
      rw (closed_begins f first a b p q, first-begins f first a b p q) (rest (edge f a b).high (inr (rw back m.0, m.1)))

  walk-asked : (first a : ℕ) (ts : List ℕ) → Rising a ts → Short a ts → last_of a ts ≡ w.t1 → Held a ts → FirstAsked w asked first → EndsAsked w asked (walk f first a ts)
  unfolding walk last_of
  walk-asked first a [] h n e held begun = last-asked first a (f a) e begun
  walk-asked first a (b ∷ ts) h n e held begun =
      step-asked first a b ts h.0 n.0 held begun (λ g. walk-asked g b ts h.1 n.1 e (held_on a b ts held)) (f a) (f b) refl refl

pub list-asked : (w : Window) → Good w → (f : ℕ → Bool) → EndsAsked w (instants_of f w) (list_of f w)
unfolding list_of instants_of
list-asked w good f =
    walk-asked f w (instants_of f w) w.t0 w.t0 (samples w) (samples_rise w good) (samples-short w good) (samples-end w good) (λ t h. h) (inl refl)

-- ---- the records

module _ (g h : ℕ → Sight) (w : Window) (asked : List ℕ) (alike : Alike g h asked) where
  first_alike : (t : ℕ) → FirstAsked w asked t → first_flags h w t ≡ first_flags g w t
  unfolding first_flags
  first_alike t (inl e) = rw (eq-eqb t w.t0 e)
  first_alike t (inr m) = rw (alike_at g h m.0 alike, alike_at g h m.1 alike)

  last-alike : (t : ℕ) → LastAsked w asked t → last_flags h w t ≡ last_flags g w t
  unfolding last_flags
  last-alike t (inl e) = rw (eq-eqb t w.t1 e)
  last-alike t (inr m) = rw (alike_at g h m.0 alike, alike_at g h m.1 alike)

  pub records-alike : (l : List Span) → EndsAsked w asked l → records_of h w l ≡ records_of g w l
  unfolding records_of interval_of flags_of
  records-alike [] all = refl
  records-alike (s ∷ l) all = rw (first_alike s.first all.0.0, last-alike s.last all.0.1, records-alike l all.1)
