-- The neighbours at which a step changes lie in it and answer as its ends: by the laws of halving.
use Prim.Native.Nat.{ℕ, ◌+◌, ◌≤◌, ◌<◌}
use mathlib.Core.Path.{◌≡◌, refl, ap}
use mathlib.Core.Logic.{◌≢◌}
use mathlib.Core.Bool.{Bool, true, false, beq, true≢false}
use native.Mathlib.Omega.{arith}
use Rattle.halving.specs.declared.Edge.{Edge}
use Rattle.halving.proofs.Laws as halving
use Rattle.finder.specs.Samples.{longest_step}
use Rattle.finder.specs.Spans.{same_as, edge}
use Rattle.finder.proofs.OneStep.{beq_refl, beq_true}

beq_false : (x y z : Bool) → beq x y ≡ false → y ≢ z → x ≡ z
beq_false true true z e h = absurd (true≢false e)
beq_false false false z e h = absurd (true≢false e)
beq_false true false true e h = refl
beq_false true false false e h = absurd (h refl)
beq_false false true false e h = refl
beq_false false true true e h = absurd (h refl)

pub beq_differ : (x y : Bool) → x ≢ y → beq y x ≡ false
beq_differ true true h = absurd (h refl)
beq_differ true false h = refl
beq_differ false true h = refl
beq_differ false false h = absurd (h refl)

-- neighbours within the step that answer as its ends
pub record Edged (f : ℕ → Bool) (a b : ℕ) (e : Edge) : Type 0 where
  pub next : e.high ≡ e.low + 1
  pub from : a ≤ e.low
  pub to : e.low < b
  pub low : f e.low ≡ f a
  pub high : f (e.low + 1) ≡ f b

pub edged : (f : ℕ → Bool) (a b : ℕ) → a ≤ b → b ≤ a + longest_step → f a ≢ f b → Edged f a b (edge f a b)
unfolding edge
edged f a b h wide d =
    go _ (halving.ends (same_as f a) 20 a b 0 below wide)
    (halving.differ (same_as f a) 20 a b 0 (record { low_moves = beq_refl (f a); high-stays = beq_differ (f a) (f b) d }))
  where
    below : a < b
    below = let ne : a ≢ b = λ e. d (ap f e) in omega arith

    go : (e : Edge) → halving.Ends a b e → halving.Differ (same_as f a) e.low e.high → Edged f a b e
    go e k m =
        let low : f e.low ≡ f a = beq_true (f e.low) (f a) m.low_moves in
        let high : f e.high ≡ f b = beq_false (f e.high) (f a) (f b) m.high-stays d in
        record { next = k.neighbours; from = k.from; to = omega (arith, k.neighbours, k.to); low = low; high = rw (← k.neighbours) high }
