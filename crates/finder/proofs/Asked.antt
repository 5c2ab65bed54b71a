-- The list is made of the answers at the instants asked, and no others: two answers that are alike there have one list, and ask the same.
use Prim.Native.Nat.{ℕ}
use mathlib.Core.Path.{◌≡◌, refl, sym, ap, ◌∙◌}
use mathlib.Core.List.{List, [], ◌∷◌}
use mathlib.Core.Bool.{Bool, true, false, cond}
use Rattle.halving.specs.Halving.{middles_of, Alike}
use Rattle.halving.proofs.Alike.{alike_both, alike}
use Rattle.finder.specs.declared.Window.{Window}
use Rattle.finder.specs.Samples.{samples}
use Rattle.finder.specs.Spans.{same_as, edge, closed_in, first_after, ended, walk, list_of}
use Rattle.finder.specs.Asked.{middles_in, asked_after, instants_of}
use Rattle.finder.proofs.OneStep.{beq_true, closed_same, first-same}

module _ (f g : ℕ → Bool) where
  -- answers alike are the same as a alike
  same_alike : (a : ℕ) (ts : List ℕ) → g a ≡ f a → Alike f g ts → Alike (same_as f a) (same_as g a) ts
  same_alike a [] p h = tt
  same_alike a (t ∷ ts) p h = (rw (p, h.0), same_alike a ts p h.1)

  -- one step: what it closes, opens and asks
  module _ (first a b : ℕ) (at_a : g a ≡ f a) (at_b : g b ≡ f b) where
    abbrev StepAlike : Type 0
    StepAlike = (closed_in g first a b ≡ closed_in f first a b) × (first_after g first a b ≡ first_after f first a b) × (middles_in g a b ≡ middles_in f a b)

    again : same_as g a b ≡ same_as f a b
    again = rw (at_a, at_b)

    -- its ends agree
    agree : same_as f a b ≡ true → StepAlike
    unfolding middles_in
    agree e =
        let same : f a ≡ f b = sym (beq_true (f b) (f a) e) in
        let same' : g a ≡ g b = at_a ∙ same ∙ sym at_b in (
          closed_same g first a b same' ∙ sym (closed_same f first a b same),
          first-same g first a b same' ∙ sym (first-same f first a b same),
          rw (again, e),
        )

    -- they differ: the search is the same
    apart : same_as f a b ≡ false → Alike f g (middles_of (same_as f a) 20 a b) → StepAlike
    unfolding middles_in closed_in first_after edge
    apart e h =
        let one = alike (same_as f a) (same_as g a) 20 a b 0 (same_alike a (middles_of (same_as f a) 20 a b) at_a h) in
        (rw (at_a, at_b, one.0), rw (at_a, at_b, one.0), rw (again, e, one.1))

    step-alike : Alike f g (middles_in f a b) → StepAlike
    unfolding middles_in
    step-alike h = by (same_as f a b) refl h
      where
        by : (t : Bool) → same_as f a b ≡ t → Alike f g (cond t [] (middles_of (same_as f a) 20 a b)) → StepAlike
        by true e h = agree e
        by false e h = apart e h

  -- the walk from a sample on
  walk-alike : (first a : ℕ) (ts : List ℕ) → g a ≡ f a → Alike f g (asked_after f a ts) → (walk g first a ts ≡ walk f first a ts) × (asked_after g a ts ≡ asked_after f a ts)
  unfolding walk asked_after
  walk-alike first a [] p h = (ap (λ (x : Bool). ended x first a) p, refl)
  walk-alike first a (b ∷ ts) p h =
      let parts = alike_both f g (middles_in f a b) (asked_after f b ts) h.1 in
      let step = step-alike first a b p h.0 parts.0 in
      let rest = walk-alike (first_after f first a b) b ts h.0 parts.1 in
      (rw (step.0, step.1, rest.0), rw (step.2, rest.1))

  -- the list and the instants asked
  pub list-alike : (w : Window) → Alike f g (instants_of f w) → (list_of g w ≡ list_of f w) × (instants_of g w ≡ instants_of f w)
  unfolding list_of instants_of
  list-alike w h =
      let all = walk-alike w.t0 w.t0 (samples w) h.0 h.1 in
      (all.0, ap (λ (ts : List ℕ). w.t0 ∷ ts) all.1)
