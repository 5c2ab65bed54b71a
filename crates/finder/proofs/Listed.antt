-- The third promise of the list, over any yes/no answer f: each part from fitting alone, first along the samples, then by a step's number.
use Prim.Native.Nat.{ℕ, zero, suc, ◌+◌, ◌≤◌, ◌<◌}
use mathlib.Core.Path.{◌≡◌, refl, sym, subst, ◌∙◌}
use mathlib.Core.Logic.{◌⊎◌, inl, inr}
use mathlib.Core.List.{List, [], ◌∷◌}
use mathlib.Core.Bool.{Bool, true, false}
use native.Mathlib.Omega.{arith}
use native.Mathlib.Nat.{zero-add}
use native.Mathlib.Decide.{dec_le}
use lib.ListN.{length, get_or}
use Rattle.finder.specs.declared.Window.{Window}
use Rattle.finder.specs.Samples.{Good, steps_of, sample_at, samples_from, samples}
use Rattle.finder.specs.Spans.{Span, span, Each, list_of}
use Rattle.finder.specs.Fits.{Changes, Fits, InOrder, listed, Step, Follows, SomeStep, Begun, Over}
use Rattle.finder.proofs.Samples.{sample-first, samples_rise, samples-short, samples-end}
use Rattle.finder.proofs.Fits.{walk-fits, in_order, follows, endpoints, yes_first, yes_last}

-- step i of what follows the samples
module _ (f g : ℕ → Bool) (w : Window) where
  step_of : (k i j : ℕ) → j < k → Follows f g (sample_at w i) (samples_from w (suc i) k) → Step f g (sample_at w (i + j)) (sample_at w (suc (i + j)))
  unfolding samples_from
  step_of zero i j h r = absurd (omega arith)
  step_of (suc k) i zero h r = let e : i ≡ i + 0 = omega arith in subst (λ (n : ℕ). Step f g (sample_at w n) (sample_at w (suc n))) e r.0
  step_of (suc k) i (suc j) h r =
      let e : suc i + j ≡ i + suc j = omega arith in
      subst (λ (n : ℕ). Step f g (sample_at w n) (sample_at w (suc n))) e (step_of k (suc i) j (omega arith) r.1)

  -- and its answer at sample i
  answer_of_lem : (k i j : ℕ) → j ≤ k → Follows f g (sample_at w i) (samples_from w (suc i) k) → g (sample_at w (i + j)) ≡ f (sample_at w (i + j))
  unfolding samples_from
  answer_of_lem zero i zero h r = let e : i ≡ i + 0 = omega arith in subst (λ (n : ℕ). g (sample_at w n) ≡ f (sample_at w n)) e r
  answer_of_lem zero i (suc j) h r = absurd (omega arith)
  answer_of_lem (suc k) i zero h r =
      let e : i ≡ i + 0 = omega arith in
      subst (λ (n : ℕ). g (sample_at w n) ≡ f (sample_at w n)) e (r.0.as_a (sample_at w i) (omega arith) r.0.from)
  answer_of_lem (suc k) i (suc j) h r =
      let e : suc i + j ≡ i + suc j = omega arith in
      subst (λ (n : ℕ). g (sample_at w n) ≡ f (sample_at w n)) e (answer_of_lem k (suc i) j (omega arith) r.1)

-- what holds of some step holds of step i
some-step : (P : ℕ → ℕ → Type 0) (w : Window) (k i : ℕ) → SomeStep P (sample_at w i) (samples_from w (suc i) k) → (j : ℕ) × (j < k) × P (sample_at w (i + j)) (sample_at w (suc (i + j)))
unfolding samples_from
some-step P w zero i h = absurd h
some-step P w (suc k) i (inl here) = let e : i ≡ i + 0 = omega arith in (0, omega arith, subst (λ (n : ℕ). P (sample_at w n) (sample_at w (suc n))) e here)
some-step P w (suc k) i (inr later) =
    let found = some-step P w k (suc i) later in
    let e : suc i + found.0 ≡ i + suc found.0 = omega arith in
    (suc found.0, omega (arith, found.1), subst (λ (n : ℕ). P (sample_at w n) (sample_at w (suc n))) e found.2)

-- what each interval has interval j has
pub each_at : (P : Span → Type 0) (l : List Span) (j : ℕ) → Each P l → j < length l → P (get_or l j (span 0 0))
each_at P [] j all h = absurd (omega arith)
each_at P (s ∷ l) zero all h = all.0
each_at P (s ∷ l) (suc j) all h = each_at P l j all.1 (omega arith)

-- a step whose ends agree holds no change
pub still : {f g : ℕ → Bool} {a b : ℕ} → Step f g a b → f a ≡ f b → (t : ℕ) → a ≤ t → t ≤ b → g t ≡ f a
still {f} {g} {a} {b} s same t p q = by (dec_le t s.e)
  where
    by : Dec (t ≤ s.e) → g t ≡ f a
    by (yes h) = s.as_a t p h
    by (no h) = s.as_b t (omega arith) q ∙ sym same

module _ (w : Window) (good : Good w) (f : ℕ → Bool) where
  pub list-fits : Fits f w.t0 w.t0 (samples w) (list_of f w)
  unfolding list_of
  list-fits = walk-fits f w.t0 w.t0 (samples w) (samples_rise w good) (samples-short w good)

  -- intervals in order, inside the window, at least one instant between neighbours
  pub list_in_order : InOrder w.t0 (list_of f w) w.t1
  list_in_order =
      in_order f w.t0 w.t1 (samples_rise w good) (omega (arith, samples-end w good)) ((λ p. (omega arith, omega arith)), (λ p. omega arith)) list-fits

  pub list-follows : Follows f (listed (list_of f w)) w.t0 (samples w)
  list-follows = follows f (samples_rise w good) (λ p. omega arith) list-fits

  by_number : Follows f (listed (list_of f w)) (sample_at w 0) (samples_from w 1 (steps_of w))
  unfolding samples
  by_number = subst (λ (a : ℕ). Follows f (listed (list_of f w)) a (samples_from w 1 (steps_of w))) (sample-first w good) list-follows

  -- a sample lies in an interval exactly if its answer is yes
  pub list-sample : (i : ℕ) → i ≤ steps_of w → listed (list_of f w) (sample_at w i) ≡ f (sample_at w i)
  list-sample i h = rw zero-add at (answer_of_lem f (listed (list_of f w)) w (steps_of w) 0 i h by_number)

  -- each step: one change where its ends differ, between neighbours that differ in its direction, and none elsewhere
  pub list-step : (i : ℕ) → i < steps_of w → Step f (listed (list_of f w)) (sample_at w i) (sample_at w (suc i))
  list-step i h = rw zero-add at (step_of f (listed (list_of f w)) w (steps_of w) 0 i h by_number)

  -- ---- the ends of interval j

  module _ (j : ℕ) (below : j < length (list_of f w)) where
    abbrev one : Span
    one = get_or (list_of f w) j (span 0 0)

    both_ends : Begun f w.t0 (samples w) one.first × Over f w.t0 (samples w) one.last
    both_ends = each_at _ (list_of f w) j (endpoints f w.t0 (samples w) (λ P k. k) refl (λ p. inl refl) list-fits) below

    step-at : (P : ℕ → ℕ → Type 0) → SomeStep P w.t0 (samples w) → (i : ℕ) × (i < steps_of w) × P (sample_at w i) (sample_at w (suc i))
    unfolding samples
    step-at P k =
        let found = some-step P w (steps_of w) 0 (subst (λ (a : ℕ). SomeStep P a (samples_from w 1 (steps_of w))) (sample-first w good) k) in
        (found.0, found.1, subst (λ (n : ℕ). P (sample_at w n) (sample_at w (suc n))) (zero-add found.0) found.2)

    -- it begins at t0, or behind a change in a step that goes from no to yes
    pub list-first : (one.first ≡ w.t0) ⊎ ((i : ℕ) × (i < steps_of w) × ((e : ℕ) × (one.first ≡ e + 1) × Changes f false true (sample_at w i) (sample_at w (suc i)) e))
    list-first = by both_ends.0
      where
        by : Begun f w.t0 (samples w) one.first → (one.first ≡ w.t0) ⊎ ((i : ℕ) × (i < steps_of w) × ((e : ℕ) × (one.first ≡ e + 1) × Changes f false true (sample_at w i) (sample_at w (suc i)) e))
        by (inl here) = inl here
        by (inr change) = inr (step-at _ change)

    -- it ends at t1, or before a change in a step that goes from yes to no
    pub list-last : (one.last ≡ w.t1) ⊎ ((i : ℕ) × (i < steps_of w) × Changes f true false (sample_at w i) (sample_at w (suc i)) one.last)
    list-last = by both_ends.1
      where
        by : Over f w.t0 (samples w) one.last → (one.last ≡ w.t1) ⊎ ((i : ℕ) × (i < steps_of w) × Changes f true false (sample_at w i) (sample_at w (suc i)) one.last)
        by (inl here) = inl (here ∙ samples-end w good)
        by (inr change) = inr (step-at _ change)

  -- a yes at t0 opens an interval there
  pub list_opens : f w.t0 ≡ true → (0 < length (list_of f w)) × ((get_or (list_of f w) 0 (span 0 0)).first ≡ w.t0)
  list_opens p = yes_first f (samples_rise w good) p list-fits

  -- a yes at t1 closes one there
  pub list-closes : f w.t1 ≡ true → (j : ℕ) × (j < length (list_of f w)) × ((get_or (list_of f w) j (span 0 0)).last ≡ w.t1)
  list-closes p =
      let found = yes_last f (subst (λ (t : ℕ). f t ≡ true) (sym (samples-end w good)) p) list-fits in
      (found.0, found.1, found.2 ∙ samples-end w good)
