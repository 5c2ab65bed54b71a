-- The nearest whole number to a fraction: by a division and a halving, the same for the same fraction, and rising with it.
use mathlib.Core.Path.{◌≡◌, sym, ap, ◌∙◌}
use Prim.Native.Nat.{ℕ, ◌+◌, ◌*◌, ◌/◌, ◌^◌, ◌≤◌, ◌<◌}
use native.Mathlib.Nat.{mul_comm, mul_assoc, mul_left_comm, mul-pos, mul-le-mul_right, div-div-eq-div-mul, add-div_right}
use native.Mathlib.Omega.{arith}
use lib.Dec.{lit<}
use lib.Ieee.{Float}
use lib.Ieee.Nearest.{div_same, div_mono}
use lib.Ieee.Positive.{num, den, den_pos}
use Rattle.nearest.specs.Nearest.{nearest, nearest_of, UpTo}

-- an exact half goes up
pub half-goes_up : (n : ℕ) → nearest (2 * n + 1) 2 ≡ n + 1
half-goes_up n = omega arith

pub nearest-halved : (n d : ℕ) → 0 < d → nearest n d ≡ (2 * n / d + 1) / 2
nearest-halved n d h = rw (mul_comm 2 d, ← div-div-eq-div-mul (2 * n + d) d 2, add-div_right (2 * n) h)

-- n / d is a / z
pub nearest-is : (p q n d a z : ℕ) → 0 < q → 0 < d → 0 < z → n * z ≡ a * d → nearest (n * p) (d * q) ≡ (2 * (a * p) / z / q + 1) / 2
nearest-is p q n d a z Q D Z h =
    nearest-halved (n * p) (d * q) (mul-pos D Q)
    ∙ ap (λ (k : ℕ). (k + 1) / 2)
    (div_same (2 * (n * p)) (d * q) (2 * (a * p)) (z * q) (mul-pos D Q) (mul-pos Z Q) cross ∙ sym (div-div-eq-div-mul (2 * (a * p)) z q))
  where
    left : 2 * (n * p) * (z * q) ≡ n * z * (2 * p * q)
    left = simp (mul_assoc, mul_comm, mul_left_comm)

    right : a * d * (2 * p * q) ≡ 2 * (a * p) * (d * q)
    right = simp (mul_assoc, mul_comm, mul_left_comm)

    cross : 2 * (n * p) * (z * q) ≡ 2 * (a * p) * (d * q)
    cross = left ∙ ap (λ (k : ℕ). k * (2 * p * q)) h ∙ right

-- a larger fraction has no smaller nearest number
pub nearest_mono : (p q n d a b : ℕ) → 0 < q → 0 < d → 0 < b → n * b ≤ a * d → nearest (n * p) (d * q) ≤ nearest (a * p) (b * q)
nearest_mono p q n d a b Q D B h =
    div_mono (2 * (n * p) + d * q) (2 * (d * q)) (2 * (a * p) + b * q) (2 * (b * q))
    (mul-pos (lit< tt) (mul-pos D Q))
    (mul-pos (lit< tt) (mul-pos B Q))
    (omega (arith, mul-le-mul_right (p * q) h))

-- of two floats
pub nearest_of_mono : (p q : ℕ) (x y : Float) → 0 < q → num x * den y ≤ num y * den x → nearest_of p q x ≤ nearest_of p q y
unfolding nearest_of
nearest_of_mono p q x y Q h = nearest_mono p q (num x) (den x) (num y) (den y) Q (den_pos x) (den_pos y) h

-- of a float of at most 2 ^ w
pub nearest_of-le : (w p q : ℕ) (x : Float) → 0 < q → UpTo w x → nearest_of p q x ≤ nearest (2 ^ w * p) (1 * q)
unfolding nearest_of
nearest_of-le w p q x Q u = nearest_mono p q (num x) (den x) (2 ^ w) 1 Q (den_pos x) (lit< tt) (omega (arith, u.size_is))
