-- How far from 0 a signed number is at most. Records, so that the number and the bound are inferred from a fact in hand.
use Rattle.std.specs.Prelude.{List, ◌≡◌, ℕ, ◌≤◌, ℤ, nat_abs}
use Rattle.fixed.specs.Scaled.{one, at}

-- z is at most n away from 0
pub record Within (z : ℤ) (n : ℕ) : Type 0 where
  pub within : nat_abs z ≤ n

-- at most one away from 0
abbrev pub Small : ℤ → Type 0
Small z = Within z one

-- r is v, and at most n away from 0
pub record Is (r v : ℤ) (n : ℕ) : Type 0 where
  pub is : r ≡ v
  pub bound : Within r n

-- each of the three is at most n away from 0
pub record Entries (v : List ℤ) (n : ℕ) : Type 0 where
  pub e₀ : Within (at v 0) n
  pub e₁ : Within (at v 1) n
  pub e₂ : Within (at v 2) n
