-- Each end that the window does not cut says why: the answers at its two instants differ, and so does what tells them.
use Prim.Native.Nat.{ℕ, suc, ◌+◌, ◌-◌, ◌<◌}
use mathlib.Core.Path.{◌≡◌, refl, sym, ap, ◌∙◌}
use mathlib.Core.Logic.{◌≢◌, ◌⊎◌, inl, inr}
use mathlib.Core.Bool.{Bool, true, false, not, ◌||◌, beq, true≢false}
use native.Mathlib.Omega.{arith}
use borrow.Author.Tests.{ne_eqb}
use lib.ListN.{length, get_or}
use Rattle.geometry.specs.declared.Sight.{Sight}
use Rattle.finder.specs.declared.Window.{Window}
use Rattle.finder.specs.Samples.{Good, steps_of, sample_at}
use Rattle.finder.specs.Spans.{Span, span, list_of}
use Rattle.finder.specs.Flags.{differ, flags_of, has, Why}
use Rattle.finder.specs.Fits.{Changes}
use Rattle.finder.proofs.OneStep.{beq_true}
use Rattle.finder.proofs.Edged.{beq_differ}
use Rattle.finder.proofs.Flags.{flags_say}
use Rattle.finder.proofs.Listed.{list-first, list-last}

-- how g tells of the answers f to a question: where it tells the same they are the same; to question 1 hidden is the answer, and no up is told
pub record Tells (question : ℕ) (f : ℕ → Bool) (g : ℕ → Sight) : Type 0 where
  pub same : (a b : ℕ) → (g a).hidden ≡ (g b).hidden → (g a).up ≡ (g b).up → f a ≡ f b
  pub hidden : question ≡ 1 → (t : ℕ) → f t ≡ (g t).hidden
  pub no_up : question ≡ 1 → (t : ℕ) → (g t).up ≡ false

-- the instant before
back : {t e : ℕ} → t ≡ e + 1 → t - 1 ≡ e
back p = omega arith

module _ (question : ℕ) (f : ℕ → Bool) (g : ℕ → Sight) (tells : Tells question f g) where
  -- between two instants whose answers differ
  module _ (a b : ℕ) (d : f a ≢ f b) where
    one-differs : (differ (g a).hidden (g b).hidden || differ (g a).up (g b).up) ≡ true
    one-differs = by (beq (g a).hidden (g b).hidden) (beq (g a).up (g b).up) refl refl
      where
        by : (x y : Bool) → beq (g a).hidden (g b).hidden ≡ x → beq (g a).up (g b).up ≡ y → (not x || not y) ≡ true
        by true true p q = absurd (d (tells.same a b (beq_true _ _ p) (beq_true _ _ q)))
        by true false p q = refl
        by false y p q = refl

    hidden_only : question ≡ 1 → (differ (g a).hidden (g b).hidden ≡ true) × (differ (g a).up (g b).up ≡ false)
    hidden_only q =
        let unlike : (g b).hidden ≢ (g a).hidden = λ e. d (tells.hidden q a ∙ sym e ∙ sym (tells.hidden q b)) in
        (ap not (beq_differ (g b).hidden (g a).hidden unlike), rw (tells.no_up q a, tells.no_up q b))

    why-between : Why question (differ (g a).hidden (g b).hidden) (differ (g a).up (g b).up)
    why-between = (one-differs, hidden_only)

  module _ (w : Window) (good : Good w) (j : ℕ) (below : j < length (list_of f w)) where
    abbrev one : Span
    one = get_or (list_of f w) j (span 0 0)

    abbrev flags : ℕ
    flags = flags_of g w one

    first-differs : w.t0 < one.first → f (one.first - 1) ≢ f one.first
    first-differs above = by (list-first w good f j below)
      where
        by : (one.first ≡ w.t0) ⊎ ((i : ℕ) × (i < steps_of w) × ((e : ℕ) × (one.first ≡ e + 1) × Changes f false true (sample_at w i) (sample_at w (suc i)) e)) → f (one.first - 1) ≢ f one.first
        by (inl e) = absurd (omega arith)
        by (inr k) = let c = k.2 in λ same. true≢false (sym c.2.after ∙ ap f (sym c.1) ∙ sym same ∙ ap f (back c.1) ∙ c.2.before)

    last-differs : one.last < w.t1 → f one.last ≢ f (one.last + 1)
    last-differs under = by (list-last w good f j below)
      where
        by : (one.last ≡ w.t1) ⊎ ((i : ℕ) × (i < steps_of w) × Changes f true false (sample_at w i) (sample_at w (suc i)) one.last) → f one.last ≢ f (one.last + 1)
        by (inl e) = absurd (omega arith)
        by (inr k) = λ same. true≢false (sym k.2.before ∙ same ∙ k.2.after)

    -- a first above t0
    pub first-why : w.t0 < one.first → Why question (has 4 flags) (has 8 flags)
    first-why above =
        rw ((flags_say g w one).first-hidden, (flags_say g w one).first-up, ne_eqb one.first w.t0 (λ e. omega arith))
        (why-between (one.first - 1) one.first (first-differs above))

    -- a last below t1
    pub last-why : one.last < w.t1 → Why question (has 16 flags) (has 32 flags)
    last-why under =
        rw ((flags_say g w one).last-hidden, (flags_say g w one).last_up, ne_eqb one.last w.t1 (λ e. omega arith))
        (why-between one.last (one.last + 1) (last-differs under))
