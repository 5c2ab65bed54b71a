-- The samples of a window: each from the one before, in steps that are not too long, and t1 last.
use Prim.Native.Nat.{ℕ, zero, suc, ◌+◌, ◌-◌, ◌*◌, ◌/◌, ◌%◌, ◌≤◌}
use mathlib.Core.Path.{◌≡◌, refl, sym, ap, subst, ◌∙◌}
use native.Mathlib.Omega.{arith}
use native.Mathlib.Nat.{zero-add, div-add-mod', mod-lt, div-le_self, suc-mul}
use lib.ListN.{length}
use Rattle.std.specs.Prelude.{min}
use Rattle.std.specs.Int.{div_ceil}
use Rattle.std.proofs.lemmas.Nat.{div-mul-add}
use Rattle.finder.specs.declared.Window.{Window}
use Rattle.finder.specs.Samples.{last_end, longest_step, Good, ceil_div, steps_of, sample_at, samples_from, samples}
use Rattle.finder.specs.Fits.{Rising, Short, last_of}
use Rattle.finder.specs.State.{next}

-- std's division that rounds up
ceil-is : (a b : ℕ) → 1 ≤ b → div_ceil a b ≡ ceil_div a b
ceil-is a b some = by (a % b) refl
  where
    by : (r : ℕ) → a % b ≡ r → a / b + min 1 r ≡ (a + (b - 1)) / b
    by zero e =
        let parts : a + (b - 1) ≡ a / b * b + (b - 1) = omega (arith, div-add-mod' a b) in
        let floor : (a + (b - 1)) / b ≡ a / b = rw parts (div-mul-add (a / b) b (b - 1) (omega arith)) in
        omega arith
    by (suc r) e =
        let parts : a + (b - 1) ≡ suc (a / b) * b + r = rw suc-mul (omega (arith, div-add-mod' a b)) in
        let floor : (a + (b - 1)) / b ≡ suc (a / b) = rw parts (div-mul-add (suc (a / b)) b r (omega (arith, mod-lt a some))) in
        omega arith

module _ (w : Window) where
  pub steps_ceil : Good w → div_ceil (w.t1 - w.t0) w.step ≡ steps_of w
  unfolding steps_of
  steps_ceil good = ceil-is (w.t1 - w.t0) w.step good.some

  -- the sample after sample i
  pub sample-next : (i : ℕ) → next w (sample_at w i) ≡ sample_at w (suc i)
  unfolding sample_at
  sample-next i = rw (suc-mul i w.step) (omega arith)

  pub sample-inside : (i : ℕ) → sample_at w i ≤ w.t1
  unfolding sample_at
  sample-inside i = omega arith

  pub length-samples : (i k : ℕ) → length (samples_from w i k) ≡ k
  unfolding samples_from
  length-samples i zero = refl
  length-samples i (suc k) = ap suc (length-samples (suc i) k)

  -- the k samples behind sample i end with sample i + k
  samples-last : (i k : ℕ) → last_of (sample_at w i) (samples_from w (suc i) k) ≡ sample_at w (i + k)
  unfolding samples_from last_of
  samples-last i zero = ap (sample_at w) (omega arith)
  samples-last i (suc k) = samples-last (suc i) k ∙ ap (sample_at w) (omega arith)

  -- the steps fit 32 bits, however short they are
  pub steps-fit : Good w → steps_of w ≤ last_end + longest_step
  unfolding steps_of
  steps-fit good = omega (arith, good.end, good.short, div-le_self (w.t1 - w.t0 + (w.step - 1)) w.step)

  module _ (good : Good w) where
    pub sample-from : (i : ℕ) → w.t0 ≤ sample_at w i
    unfolding sample_at
    sample-from i = omega (arith, good.window)

    pub sample-first : w.t0 ≡ sample_at w 0
    unfolding sample_at
    sample-first = omega (arith, good.window)

    -- samples in order
    rise_from : (i k : ℕ) → Rising (sample_at w i) (samples_from w (suc i) k)
    unfolding samples_from
    rise_from i zero = tt
    rise_from i (suc k) =
        let after = sample-next i in
        let inside = sample-inside i in
        (omega arith, rise_from (suc i) k)

    pub samples_rise : Rising w.t0 (samples w)
    unfolding samples
    samples_rise = subst (λ (a : ℕ). Rising a (samples_from w 1 (steps_of w))) (sym sample-first) (rise_from 0 (steps_of w))

    -- in steps that are not too long
    short-from : (i k : ℕ) → Short (sample_at w i) (samples_from w (suc i) k)
    unfolding samples_from
    short-from i zero = tt
    short-from i (suc k) = let after = sample-next i in (omega (arith, good.short), short-from (suc i) k)

    pub samples-short : Short w.t0 (samples w)
    unfolding samples
    samples-short = subst (λ (a : ℕ). Short a (samples_from w 1 (steps_of w))) (sym sample-first) (short-from 0 (steps_of w))

    -- n steps reach t1
    pub sample-end : sample_at w (steps_of w) ≡ w.t1
    unfolding sample_at steps_of
    sample-end =
        let x = w.t1 - w.t0 + (w.step - 1) in
        omega (arith, good.window, good.some, div-add-mod' x w.step, mod-lt x good.some)

    -- so t1 is the last sample
    pub samples-end : last_of w.t0 (samples w) ≡ w.t1
    unfolding samples
    samples-end = ap (λ (a : ℕ). last_of a (samples w)) sample-first ∙ samples-last 0 (steps_of w) ∙ ap (sample_at w) (zero-add (steps_of w)) ∙ sample-end
