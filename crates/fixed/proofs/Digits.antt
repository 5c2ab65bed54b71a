-- The whole square root by digits: a turn keeps what is known of the digits found, and when none is to come they are the root. By cases on how many are to come.
use mathlib.Core.Path.{◌≡◌}
use Prim.Native.Nat.{ℕ, zero, suc, ◌+◌, ◌*◌, ◌-◌, ◌/◌, ◌≤◌, ◌<◌, ◌^◌}
use native.Mathlib.Nat.{mul-one, mul-le-mul, pow-zero, pow-suc}
use native.Mathlib.Omega.{arith}
use lib.Pow.{pow_pos}
use Rattle.fixed.specs.Root.{Root}

-- q is the root but for its digits below u, so n lies from q² up to, not with, (q + u)²; at u = 1 that is `Root`. The next digit is u / 2: `root` is twice its
-- product with q, and `bit` its square
pub record Digits (n rest root bit u q : ℕ) : Type 0 where
  pub left : q * q + rest ≡ n
  pub high : n < (q + u) * (q + u)
  pub product : root ≡ q * u
  pub square : bit ≡ u * u / 4
  pub room : root + u * u ≤ 2 ^ 64

digit_one : {n rest root bit u q : ℕ} → Digits n rest root bit (u * 2) q → root + bit ≤ rest → Digits n (rest - (root + bit)) ((root + bit + bit) / 2) (bit / 4) u (q + u)
digit_one d h = record { left = omega arith; high = omega arith; product = omega arith; square = omega arith; room = omega arith }

digit_zero : {n rest root bit u q : ℕ} → Digits n rest root bit (u * 2) q → rest < root + bit → Digits n rest (root / 2) (bit / 4) u q
digit_zero d h = record { left = omega arith; high = omega arith; product = omega arith; square = omega arith; room = omega arith }

all_digits : {n rest root bit q : ℕ} → Digits n rest root bit 1 q → Root n root
all_digits d = rw (d.product, mul-one) (record { low = omega arith; high = d.high })

-- what the loop keeps: k digits are to come
abbrev pub Partway : ℕ → ℕ → ℕ → ℕ → Type 0
Partway n rest root bit = (k : ℕ) × (q : ℕ) × Digits n rest root bit (2 ^ k) q

pub takes : {n rest root bit : ℕ} → Partway n rest root bit → 0 < bit → root + bit ≤ rest → Partway n (rest - (root + bit)) ((root + bit + bit) / 2) (bit / 4)
takes (zero, q, d) p h = absurd (omega arith)
takes (suc k, q, d) p h = (k, q + 2 ^ k, digit_one (rw pow-suc at d) h)

pub passes : {n rest root bit : ℕ} → Partway n rest root bit → 0 < bit → rest < root + bit → Partway n rest (root / 2) (bit / 4)
passes (zero, q, d) p h = absurd (omega arith)
passes (suc k, q, d) p h = (k, q, digit_zero (rw pow-suc at d) h)

pub ends : {n rest root bit : ℕ} → Partway n rest root bit → bit ≤ 0 → Root n root
ends (zero, q, d) h = all_digits (rw pow-zero at d)
ends (suc k, q, d) h = absurd (omega (arith, (rw pow-suc at d).square, mul-le-mul (pow_pos k) (pow_pos k)))
