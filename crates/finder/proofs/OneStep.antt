-- What one step closes, opens and asks, by the answers at its two ends.
use Prim.Native.Nat.{ℕ, ◌≤◌}
use mathlib.Core.Path.{◌≡◌, refl, sym}
use mathlib.Core.List.{[], ◌∷◌}
use mathlib.Core.Bool.{Bool, true, false, beq, and-not_self, not-and_self}
use native.Mathlib.Omega.{arith}
use lib.ListN.{length}
use Rattle.halving.specs.declared.Edge.{Edge}
use Rattle.halving.proofs.Laws.{counted, asked-middles}
use Rattle.finder.specs.Spans.{span, same_as, edge, closed_in, first_after}
use Rattle.finder.specs.Asked.{middles_in}

-- ---- two answers

pub beq_refl : (x : Bool) → beq x x ≡ true
beq_refl true = refl
beq_refl false = refl

pub beq_true : (x y : Bool) → beq x y ≡ true → x ≡ y
beq_true true true e = refl
beq_true true false e = sym e
beq_true false true e = e
beq_true false false e = refl

-- ---- what a step closes and opens

module _ (f : ℕ → Bool) (first a b : ℕ) where
  pub closed_same : f a ≡ f b → closed_in f first a b ≡ []
  unfolding closed_in
  closed_same e = rw (e, and-not_self)

  pub first-same : f a ≡ f b → first_after f first a b ≡ first
  unfolding first_after
  first-same e = rw (e, not-and_self)

  pub closed_ends : f a ≡ true → f b ≡ false → closed_in f first a b ≡ span first (edge f a b).low ∷ []
  unfolding closed_in
  closed_ends p q = rw (p, q)

  pub first_ends : f a ≡ true → f b ≡ false → first_after f first a b ≡ first
  unfolding first_after
  first_ends p q = rw p

  pub closed_begins : f a ≡ false → f b ≡ true → closed_in f first a b ≡ []
  unfolding closed_in
  closed_begins p q = rw p

  pub first-begins : f a ≡ false → f b ≡ true → first_after f first a b ≡ (edge f a b).high
  unfolding first_after
  first-begins p q = rw (p, q)

-- ---- what a step asks beside its sample

module _ (f : ℕ → Bool) (a b : ℕ) where
  -- nothing where its ends agree
  pub middles-same : same_as f a b ≡ true → length (middles_in f a b) ≡ 0
  unfolding middles_in
  middles-same e = rw e

  -- as many middles as the search counts where they differ
  pub middles-differ : same_as f a b ≡ false → (edge f a b).asked ≡ length (middles_in f a b)
  unfolding middles_in edge
  middles-differ d = rw d (omega (arith, asked-middles (same_as f a) 20 a b 0))

  pub edge-most : (edge f a b).asked ≤ 20
  unfolding edge
  edge-most = omega (arith, (counted (same_as f a) 20 a b 0).most)

  pub found-most : (e : Edge) → e ≡ edge f a b → e.asked ≤ 20
  found-most e found = rw found edge-most
