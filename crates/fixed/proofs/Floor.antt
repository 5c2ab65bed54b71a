-- The floor is the floor, below 0 too: d times it is at most z, and d times the next number is above z. By cases on z's sign.
use mathlib.Core.Path.{◌≡◌, refl}
use Prim.Native.Nat.{ℕ, zero, suc, ◌*◌, ◌/◌, ◌≤◌, ◌<◌}
use native.Mathlib.Nat.{mul-div-le, lt-mul-div-succ}
use native.Mathlib.Numerals.{add-one}
use native.Mathlib.Omega.{arith}
use lib.Dec.{le→leb, lt→ltb}
use lib.IntN.{ℤ, pos, negsuc, neg_ℤ, suc_ℤ, ◌*ℤ◌}
use lib.Signed.{shr_z, ◌≤ℤ◌, ◌<ℤ◌, le_z_yes, lt_z_yes}
use Rattle.fixed.specs.Floor.{floor_div_of}

neg-below : (m n : ℕ) → n < m → neg_ℤ (pos m) ≤ℤ negsuc n
neg-below zero n h = absurd (omega arith)
neg-below (suc m) n h = le_z_yes (le→leb n m (omega arith))

neg-above : (m n : ℕ) → m ≤ n → negsuc n <ℤ neg_ℤ (pos m)
neg-above zero n h = lt_z_yes tt
neg-above (suc m) n h = lt_z_yes (lt→ltb m n h)

pub floor-low : (z : ℤ) (d : ℕ) → 0 < d → (pos d *ℤ floor_div_of z d) ≤ℤ z
floor-low (pos n) d h = le_z_yes (le→leb (d * (n / d)) n (mul-div-le n d))
floor-low (negsuc n) d h = neg-below (d * suc (n / d)) n (rw (← add-one (n / d)) (lt-mul-div-succ n h))

pub floor-high : (z : ℤ) (d : ℕ) → 0 < d → z <ℤ (pos d *ℤ suc_ℤ (floor_div_of z d))
floor-high (pos n) d h = lt_z_yes (lt→ltb n (d * suc (n / d)) (rw (← add-one (n / d)) (lt-mul-div-succ n h)))
floor-high (negsuc n) d h = next (n / d) (mul-div-le n d)
  where
    next : (q : ℕ) → d * q ≤ n → negsuc n <ℤ (pos d *ℤ suc_ℤ (negsuc q))
    next zero k = lt_z_yes tt
    next (suc q) k = neg-above (d * suc q) n k

-- a shift that copies the sign is the floor
pub shift_floors : (z : ℤ) (d : ℕ) → shr_z z d ≡ floor_div_of z d
shift_floors (pos n) d = refl
shift_floors (negsuc n) d = refl
