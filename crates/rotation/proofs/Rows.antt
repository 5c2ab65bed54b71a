-- Bounds, entry by entry: of a turn and a direction all are within one, of a row P or Q two within two and one within one.
use mathlib.Core.Path.{◌≡◌}
use mathlib.Core.List.{List}
use Prim.Native.Nat.{ℕ, zero, suc, ◌*◌, ◌<◌}
use native.Mathlib.Omega.{arith}
use lib.Dec.{lit≤}
use lib.IntN.{ℤ}
use Rattle.fixed.specs.Scaled.{one, at, dot_of}
use Rattle.fixed.specs.Within.{Within, Small, Entries}
use Rattle.fixed.proofs.Within.{small, scaled-within, small-scaled, add-within, wider}
use Rattle.sine.proofs.Laws.{sine-small, cosine-small}
use Rattle.rotation.specs.CosSin.{CosSin, UnitTurn}
use Rattle.rotation.specs.Rotation.{turn_of, direction_of, row_p, row_q, rotation_of_of, row_of}

pub turn-unit : (θ : ℕ) → UnitTurn (turn_of θ)
unfolding turn_of
turn-unit θ = record { cos = cosine-small θ; sin = sine-small θ }

-- what `turn_of` gave
pub made-unit : {r : CosSin} (θ : ℕ) → r ≡ turn_of θ → UnitTurn r
made-unit θ e = rw e (turn-unit θ)

pub direction-entries : {α δ : CosSin} → UnitTurn α → UnitTurn δ → Entries (direction_of α δ) one
unfolding direction_of
direction-entries hα hδ = record { e₀ = small-scaled hδ.cos hα.cos; e₁ = small-scaled hδ.cos hα.sin; e₂ = hδ.sin }

-- the entries of a row P or Q: two of at most two, and one of at most one
pub record Row (v : List ℤ) : Type 0 where
  pub e₀ : Within (at v 0) (2 * one)
  pub e₁ : Within (at v 1) (2 * one)
  pub e₂ : Small (at v 2)

pub row-entries : {v : List ℤ} → Row v → Entries v (2 * one)
row-entries h = record { e₀ = h.e₀; e₁ = h.e₁; e₂ = wider h.e₂ (lit≤ tt) }

-- so the sum of its entries each ∘ a direction's is at most five
pub row-dot : {v e : List ℤ} → Row v → Entries e one → Within (dot_of v e) (5 * one)
unfolding dot_of
row-dot h k =
    add-within
    (add-within (scaled-within (2 * one) h.e₀ k.e₀ (lit≤ tt)) (scaled-within (2 * one) h.e₁ k.e₁ (lit≤ tt)))
    (small-scaled h.e₂ k.e₂)

-- P and Q are rows 0 and 1
pub plane_row : {ω Ω i : CosSin} → UnitTurn ω → UnitTurn Ω → UnitTurn i → (k : ℕ) → k < 2 → Row (row_of (rotation_of_of ω Ω i) k)
unfolding rotation_of_of row_p row_q
plane_row hω hΩ hi zero h = record { e₀ = search small; e₁ = search small; e₂ = search small }
plane_row hω hΩ hi (suc zero) h = record { e₀ = search small; e₁ = search small; e₂ = search small }
plane_row hω hΩ hi (suc (suc k)) h = absurd (omega arith)
