-- The whole square root q of n: q² ≤ n < (q + 1)² (document 01, "Place in the orbit").
use Rattle.std.specs.Prelude.{Bool, true, false, ℕ, zero, suc, ◌+◌, ◌*◌, ◌≤◌, ◌<◌, leb}

-- what makes q the root of n. There is one such q, and `root_of n` is it (proofs/Roots.antt)
pub record Root (n q : ℕ) : Type 0 where
  pub low : q * q ≤ n
  pub high : n < (q + 1) * (q + 1)

-- the same number or the next
abbrev pub next : Bool → ℕ → ℕ
next true q = q + 1
next false q = q

-- from n to n + 1 the root goes on by one where the next square is reached
unfoldable pub root_of : ℕ → ℕ
root_of zero = 0
root_of (suc n) = next (leb ((root_of n + 1) * (root_of n + 1)) (suc n)) (root_of n)
