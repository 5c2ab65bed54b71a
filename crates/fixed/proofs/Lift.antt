-- Signed numbers lifted by c, so that they are whole numbers from 0 on: floors, products, sums and orders become those of ℕ. By cases on the sign.
use mathlib.Core.Path.{◌≡◌, refl, sym, subst, ◌∙◌}
use mathlib.Core.Bool.{Bool, true, false, cond}
use Prim.Native.Nat.{ℕ, zero, suc, ◌+◌, ◌-◌, ◌*◌, ◌/◌, ◌≤◌, ◌<◌}
use native.Mathlib.Nat.{mul-add, mul-sub, mul_assoc}
use native.Mathlib.Omega.{arith}
use borrow.Author.Tests.{ltb-true, ltb-false, leb-true, leb-false, le-leb, lt-leb}
use lib.Dec.{T, ltb, leb, leb→le}
use lib.IntN.{ℤ, pos, negsuc, neg_ℤ, sub_ℕ, ◌+ℤ◌, ◌-ℤ◌, ◌*ℤ◌, *ℤ_comm}
use lib.Signed.{le_z, ◌≤ℤ◌}
use Rattle.fixed.specs.Floor.{floor_div_of}
use Rattle.fixed.specs.Scaled.{one, ◌∘◌}
use Rattle.fixed.specs.Within.{Within}

-- z + c, and 0 where that is below 0
abbrev pub up : ℕ → ℤ → ℕ
up c (pos n) = c + n
up c (negsuc n) = c - suc n

pub up_neg : (c n : ℕ) → up c (neg_ℤ (pos n)) ≡ c - n
up_neg c zero = omega arith
up_neg c (suc n) = refl

-- ---- a scaled product, lifted

up-floor : (c : ℕ) (z : ℤ) → up c (floor_div_of z one) ≡ up (c * one) z / one
up-floor c (pos n) = omega arith
up-floor c (negsuc n) = omega arith

up-mul : (a c : ℕ) (z : ℤ) → up (a * c) (pos a *ℤ z) ≡ a * up c z
up-mul a c (pos n) = rw mul-add
up-mul a c (negsuc n) = up_neg (a * c) (a * suc n) ∙ rw mul-sub

pub up-scaled : (a c : ℕ) (z : ℤ) → up (a * c) (pos a ∘ z) ≡ a * up (c * one) z / one
unfolding ◌∘◌
up-scaled a c z = up-floor (a * c) (pos a *ℤ z) ∙ rw (mul_assoc, up-mul)

-- the other factor is the whole number
pub scaled-up : (z : ℤ) (a c : ℕ) → up (a * c) (z ∘ pos a) ≡ a * up (c * one) z / one
unfolding ◌∘◌
scaled-up z a c = rw *ℤ_comm (up-floor (a * c) (pos a *ℤ z) ∙ rw (mul_assoc, up-mul))

-- ---- sums and differences, lifted

pub up_more : {c : ℕ} {z : ℤ} (n : ℕ) → Within z c → up (c + n) z ≡ up c z + n
up_more {c} {z = pos m} n h = omega arith
up_more {c} {z = negsuc m} n h = omega arith

up_subℕ : (c m n : ℕ) → n ≤ c + m → up c (sub_ℕ m n) ≡ c + m - n
up_subℕ c m n h = on (ltb m n) refl
  where
    on : (t : Bool) → ltb m n ≡ t → up c (cond t (negsuc (n - suc m)) (pos (m - n))) ≡ c + m - n
    on true e = omega (arith, ltb-true m n e)
    on false e = omega (arith, ltb-false m n e)

pub up-add : {c : ℕ} {z : ℤ} (n : ℕ) → Within z c → up c (z +ℤ pos n) ≡ up c z + n
up-add {c} {z = pos m} n h = omega arith
up-add {c} {z = negsuc m} n h = up_subℕ c n (suc m) (omega arith) ∙ omega arith

-- m − z and z together are m
pub up-sub : {c : ℕ} {z : ℤ} (m : ℕ) → Within z c → up c (pos m -ℤ z) + up c z ≡ m + c + c
up-sub {c} {z = pos zero} m h = omega arith
up-sub {c} {z = pos (suc n)} m h = omega (arith, up_subℕ c m (suc n) (omega arith))
up-sub {c} {z = negsuc n} m h = omega arith

-- ---- orders

both : (m n a b : ℕ) → (m ≤ n → a ≤ b) → (n < m → b < a) → leb m n ≡ leb a b
both m n a b h k = on (leb m n) refl
  where
    on : (t : Bool) → leb m n ≡ t → t ≡ leb a b
    on true e = sym (le-leb a b (h (leb-true m n e)))
    on false e = sym (lt-leb a b (k (leb-false m n e)))

-- the test of two numbers is that of the lifted ones
ordered : {c : ℕ} {y z : ℤ} → Within y c → Within z c → le_z y z ≡ leb (up c y) (up c z)
ordered {c} {y = pos m} {z = pos n} h k = both m n (c + m) (c + n) (λ l. omega arith) (λ l. omega arith)
ordered {c} {y = pos m} {z = negsuc n} h k = sym (lt-leb (c + m) (c - suc n) (omega arith))
ordered {c} {y = negsuc m} {z = pos n} h k = sym (le-leb (c - suc m) (c + n) (omega arith))
ordered {c} {y = negsuc m} {z = negsuc n} h k = both n m (c - suc m) (c - suc n) (λ l. omega arith) (λ l. omega arith)

module _ {c : ℕ} {y z : ℤ} (h : Within y c) (k : Within z c) where
  pub le_up : y ≤ℤ z → up c y ≤ up c z
  le_up l = leb→le (up c y) (up c z) (subst T (ordered h k) l.le)

  pub up_le : up c y ≤ up c z → le_z y z ≡ true
  up_le l = ordered h k ∙ le-leb (up c y) (up c z) l

  pub above-up : le_z y z ≡ false → up c z < up c y
  above-up t = leb-false (up c y) (up c z) (sym (ordered h k) ∙ t)

  pub up_above : up c z < up c y → le_z y z ≡ false
  up_above l = ordered h k ∙ lt-leb (up c y) (up c z) l
