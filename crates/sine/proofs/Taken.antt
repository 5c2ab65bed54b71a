-- What the series takes away is no more than what it adds, at any angle a/b of at most two: each term is at most the one before it.
-- So the minus of the table's rule is not cut off at 0, whatever the number of segments.
use mathlib.Core.Path.{◌≡◌}
use Prim.Native.Nat.{ℕ, suc, ◌+◌, ◌-◌, ◌*◌, ◌/◌, ◌^◌, ◌≤◌}
use native.Mathlib.Nat.{le_trans, le_of_eq, mul-le-mul, mul-le-mul_left, mul-le-mul_right, mul_assoc, mul_comm, mul_left_comm, pow-succ'}
use native.Mathlib.Omega.{arith}
use lib.Dec.{lit≤}
use Rattle.sine.specs.Table.{π, π-unit, factorial, term, added, taken}

module _ (a b : ℕ) (h : a ≤ 2 * b) where
  -- two factors a more, two factors b less, and a number that is at most a fourth
  smaller : (m n c d : ℕ) → 4 * c ≤ d → a ^ suc (suc m) * b ^ n * c ≤ a ^ m * b ^ suc (suc n) * d
  smaller m n c d k =
      le_trans (le_of_eq left) (le_trans (mul-le-mul_left (a ^ m * b ^ n) squares) (le_of_eq right))
    where
      squares : a * a * c ≤ b * b * d
      squares = le_trans (mul-le-mul_right c (mul-le-mul h h)) (le_trans (omega arith) (mul-le-mul_left (b * b) k))

      left : a ^ suc (suc m) * b ^ n * c ≡ a ^ m * b ^ n * (a * a * c)
      left = simp (pow-succ', mul_assoc, mul_comm, mul_left_comm)

      right : a ^ m * b ^ n * (b * b * d) ≡ a ^ m * b ^ suc (suc n) * d
      right = simp (pow-succ', mul_assoc, mul_comm, mul_left_comm)

  falls : (i : ℕ) → i ≤ 10 → 4 * (factorial 23 / factorial (suc (suc (2 * i + 1)))) ≤ factorial 23 / factorial (2 * i + 1) → term a b (i + 1) ≤ term a b i
  unfolding term
  falls i l k =
      let more : 2 * (i + 1) + 1 ≡ suc (suc (2 * i + 1)) = omega arith in
      let less : 22 - 2 * i ≡ suc (suc (22 - 2 * (i + 1))) = omega arith in
      rw (more, less) (smaller (2 * i + 1) (22 - 2 * (i + 1)) _ _ k)

  pub taken-le : taken a b ≤ added a b
  unfolding taken added factorial
  taken-le =
      omega (
        arith,
        falls 0 (lit≤ tt) (lit≤ tt),
        falls 2 (lit≤ tt) (lit≤ tt),
        falls 4 (lit≤ tt) (lit≤ tt),
        falls 6 (lit≤ tt) (lit≤ tt),
        falls 8 (lit≤ tt) (lit≤ tt),
        falls 10 (lit≤ tt) (lit≤ tt),
      )

-- at entry k of a table with n segments
pub entry-taken_le : (n k : ℕ) → k ≤ n → taken (k * π) (2 * n * π-unit) ≤ added (k * π) (2 * n * π-unit)
entry-taken_le n k h = taken-le (k * π) (2 * n * π-unit) (le_trans (mul-le-mul_right π h) (omega arith))
