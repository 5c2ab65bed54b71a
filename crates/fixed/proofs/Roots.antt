-- There is one whole square root, and `root_of` is it.
use mathlib.Core.Path.{◌≡◌}
use mathlib.Core.Bool.{Bool, true, false, not}
use Prim.Native.Nat.{ℕ, zero, suc, ◌+◌, ◌*◌, ◌≤◌, ◌<◌}
use native.Mathlib.Nat.{le_antisymm, mul-le-mul, not-le_of_lt, lt_of_not-le, lt_of_le_of_lt, le_trans}
use native.Mathlib.Omega.{arith}
use lib.Dec.{T, leb, leb→le, nleb→lt, lit<, lit≤}
use Rattle.fixed.specs.Root.{Root, root_of, next}

-- a root is no larger than another: else its square were above n
no_larger : {n p q : ℕ} → Root n p → Root n q → p ≤ q
no_larger {n} {p} {q} h k =
    let below : p < q + 1 = lt_of_not-le (λ le. not-le_of_lt k.high (le_trans (mul-le-mul le le) h.low)) in
    omega arith

pub root_unique : {n p q : ℕ} → Root n p → Root n q → p ≡ q
root_unique h k = le_antisymm (no_larger h k) (no_larger k h)

-- from n to n + 1 the root stays or takes one step
step : (t : Bool) {n q : ℕ} → Root n q → (T t → (q + 1) * (q + 1) ≤ suc n) → (T (not t) → suc n < (q + 1) * (q + 1)) → Root (suc n) (next t q)
step true {n} {q} h f g = record { low = f tt; high = grown }
  where
    grown : suc n < (q + 1 + 1) * (q + 1 + 1)
    grown = omega (arith, mul-le-mul {n₁ = q + 1} {m₁ = q + 1} {n₂ = q + 1} {m₂ = q + 1 + 1} (omega arith) (omega arith))
step false {n} {q} h f g = record { low = omega arith; high = g tt }

pub root_is : (n : ℕ) → Root n (root_of n)
unfolding root_of
root_is zero = record { low = lit≤ tt; high = lit< tt }
root_is (suc n) =
    step (leb ((root_of n + 1) * (root_of n + 1)) (suc n)) (root_is n)
    (leb→le ((root_of n + 1) * (root_of n + 1)) (suc n))
    (nleb→lt ((root_of n + 1) * (root_of n + 1)) (suc n))

pub root-le : (n b : ℕ) → n ≤ b * b → root_of n ≤ b
root-le n b h =
    let below : root_of n < b + 1 = lt_of_not-le (λ le. not-le_of_lt (lt_of_le_of_lt h (square-lt b)) (le_trans (mul-le-mul le le) (root_is n).low)) in
    omega arith
  where
    square-lt : (b : ℕ) → b * b < (b + 1) * (b + 1)
    square-lt b = omega arith
