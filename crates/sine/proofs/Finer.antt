-- A finer table keeps the entries of a coarser one: with c times as many segments, entry c·k of the finer is entry k of the coarser, being at the same angle.
use mathlib.Core.Path.{◌≡◌}
use Prim.Native.Nat.{ℕ, zero, suc, ◌+◌, ◌-◌, ◌*◌, ◌/◌, ◌^◌, ◌≤◌, ◌<◌}
use native.Mathlib.Nat.{mul_assoc, mul_comm, mul_left_comm, mul-add, mul-sub, mul-pos, mul-div-mul_left, pow-zero, pow-succ'}
use native.Mathlib.Omega.{arith}
use lib.Dec.{lit≤, lit<}
use lib.Pow.{pow-add}
use Rattle.nearest.specs.Nearest.{nearest}
use Rattle.sine.specs.Table.{π, π-unit, factorial, term, added, taken, scaled_sine, entry_of}

power_pos : (c n : ℕ) → 0 < c → 0 < c ^ n
power_pos c zero h = rw pow-zero (lit< tt)
power_pos c (suc n) h = rw pow-succ' (mul-pos h (power_pos c n h))

mul-pow : (c a n : ℕ) → (c * a) ^ n ≡ c ^ n * a ^ n
mul-pow c a zero = simp pow-zero
mul-pow c a (suc n) = simp (pow-succ', mul-pow c a n, mul_assoc, mul_left_comm)

nearest-same : (c n d : ℕ) → 0 < c → nearest (c * n) (c * d) ≡ nearest n d
nearest-same c n d h =
    let over : 2 * (c * n) + c * d ≡ c * (2 * n + d) = simp (mul-add, mul_left_comm) in
    let under : 2 * (c * d) ≡ c * (2 * d) = mul_left_comm 2 c d in
    rw (over, under) (mul-div-mul_left (2 * n + d) (2 * d) h)

-- every second term from p on: from 0 on those that are added, from 1 on those that are taken away
abbrev six : (ℕ → ℕ) → ℕ → ℕ
six f p = f p + f (p + 2) + f (p + 4) + f (p + 6) + f (p + 8) + f (p + 10)

module _ (c a b : ℕ) where
  same-term : (i : ℕ) → i ≤ 11 → term (c * a) (c * b) i ≡ c ^ 23 * term a b i
  unfolding term
  same-term i h =
      let m = 2 * i + 1 in
      let n = 22 - 2 * i in
      let f = factorial 23 / factorial m in
      let all : m + n ≡ 23 = omega arith in
      let apart : c ^ m * a ^ m * (c ^ n * b ^ n) * f ≡ c ^ m * c ^ n * (a ^ m * b ^ n * f) = simp (mul_assoc, mul_comm, mul_left_comm) in
      rw (mul-pow c a m, mul-pow c b n, apart, ← pow-add c m n, all)

  same-six : (p : ℕ) → p ≤ 1 → six (term (c * a) (c * b)) p ≡ c ^ 23 * six (term a b) p
  same-six p h =
      simp (
        same-term p (omega arith),
        same-term (p + 2) (omega arith),
        same-term (p + 4) (omega arith),
        same-term (p + 6) (omega arith),
        same-term (p + 8) (omega arith),
        same-term (p + 10) (omega arith),
        mul-add,
      )

  same-added : added (c * a) (c * b) ≡ c ^ 23 * added a b
  unfolding added
  same-added = same-six 0 (lit≤ tt)

  same_taken : taken (c * a) (c * b) ≡ c ^ 23 * taken a b
  unfolding taken
  same_taken = same-six 1 (lit≤ tt)

  -- the sum depends on the angle alone, and not on how its fraction is written
  same-angle : 0 < c → scaled_sine (c * a) (c * b) ≡ scaled_sine a b
  unfolding scaled_sine
  same-angle h =
      let d = added a b - taken a b in
      let over : 2 ^ 30 * (c ^ 23 * added a b - c ^ 23 * taken a b) ≡ c ^ 23 * (2 ^ 30 * d) = rw (← mul-sub (c ^ 23) (added a b) (taken a b)) (mul_left_comm (2 ^ 30) (c ^ 23) d) in
      let under : (c * b) ^ 23 * factorial 23 ≡ c ^ 23 * (b ^ 23 * factorial 23) = rw (mul-pow c b 23) (mul_assoc (c ^ 23) (b ^ 23) (factorial 23)) in
      rw (same-added, same_taken, over, under) (nearest-same (c ^ 23) (2 ^ 30 * d) (b ^ 23 * factorial 23) (power_pos c 23 h))

pub finer_keeps : (c n k : ℕ) → 0 < c → entry_of (c * n) (c * k) ≡ entry_of n k
unfolding entry_of
finer_keeps c n k h =
    let over : c * k * π ≡ c * (k * π) = mul_assoc c k π in
    let under : 2 * (c * n) * π-unit ≡ c * (2 * n * π-unit) = simp (mul_assoc, mul_comm, mul_left_comm) in
    rw (over, under) (same-angle c (k * π) (2 * n * π-unit) h)
