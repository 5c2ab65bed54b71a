-- A test of each two neighbours of a sequence, computed by antt, each member once; and a sequence that never falls.
use mathlib.Core.Path.{◌≡◌, subst}
use mathlib.Core.Logic.{⊎_elim}
use mathlib.Core.Bool.{Bool, true, ◌&&◌}
use Prim.Native.Nat.{ℕ, zero, suc, ◌+◌, ◌≤◌, ◌<◌}
use native.Mathlib.Nat.{le_of_suc-le-suc, not-suc-le-zero, eq-or-lt_of_le, le_refl, le_trans, zero-add}
use native.Mathlib.Numerals.{add-one}
use native.Mathlib.Omega.{arith}
use lib.Dec.{T}
use mir.Facts.{and_yes}

-- r holds of x and f i, of f i and f (i + 1), .., n times
abbrev pub along : (ℕ → ℕ → Bool) → (ℕ → ℕ) → ℕ → ℕ → ℕ → Bool
along r f zero i x = true
along r f (suc n) i x = r x (f i) && along r f n (suc i) (f i)

module _ (r : ℕ → ℕ → Bool) (f : ℕ → ℕ) where
  -- of f k and the next
  abbrev here : ℕ → Type 0
  here k = T (r (f k) (f (k + 1)))

  from : (n i : ℕ) → T (along r f n (suc i) (f i)) → (k : ℕ) → k < n → here (i + k)
  from zero i t k h = absurd (not-suc-le-zero h)
  from (suc n) i t zero h =
      let first : i ≡ i + 0 = omega arith in
      subst here first (rw add-one (and_yes (r (f i) (f (suc i))) (along r f n (suc (suc i)) (f (suc i))) t).0)
  from (suc n) i t (suc k) h =
      let later : suc i + k ≡ i + suc k = omega arith in
      subst here later (from n (suc i) (and_yes (r (f i) (f (suc i))) (along r f n (suc (suc i)) (f (suc i))) t).1 k (le_of_suc-le-suc h))

  -- the test over f 0, .., f n
  pub each : (n : ℕ) → T (along r f n 1 (f 0)) → (k : ℕ) → k < n → here k
  each n t k h = subst here (zero-add k) (from n 0 t k h)

-- of a sequence that never falls no member passes the n-th
pub at-most_last : (f : ℕ → ℕ) (n : ℕ) → ((k : ℕ) → k < n → f k ≤ f (k + 1)) → (k : ℕ) → k ≤ n → f k ≤ f n
at-most_last f zero up k h =
    let e : k ≡ 0 = omega arith in
    subst (λ (m : ℕ). f k ≤ f m) e (le_refl (f k))
at-most_last f (suc n) up k h =
    ⊎_elim (λ e. subst (λ (m : ℕ). f k ≤ f m) e (le_refl (f k)))
    (λ l. le_trans (at-most_last f n (λ j g. up j (omega arith)) k (le_of_suc-le-suc l)) (rw add-one at (up n (le_refl (suc n)))))
    (eq-or-lt_of_le h)
