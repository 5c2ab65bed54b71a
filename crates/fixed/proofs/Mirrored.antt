-- The mirror −1 − z takes a number below 0 to one that is not, and the floor goes with it. By cases on z's sign.
use mathlib.Core.Path.{◌≡◌, refl}
use mathlib.Core.Bool.{true, false}
use Prim.Native.Nat.{ℕ, ◌<◌}
use native.Mathlib.Omega.{arith}
use borrow.Author.Tests.{ltb-true, leb-false}
use lib.Dec.{T}
use lib.IntN.{ℤ, pos, negsuc, nat_abs}
use lib.Signed.{lt_z, le_z, non_neg}
use Rattle.fixed.specs.Floor.{floor_div_of, mirror_of}

pub mirror_non_neg : (z : ℤ) → lt_z z (pos 0) ≡ true → T (non_neg (mirror_of z))
mirror_non_neg (pos n) e = absurd (let h = ltb-true n 0 e in omega arith)
mirror_non_neg (negsuc n) e = tt

pub test_non_neg : (z : ℤ) → lt_z z (pos 0) ≡ false → T (non_neg z)
test_non_neg (pos n) e = tt
test_non_neg (negsuc n) e = absurd (let h : ◌≡◌ {A = ℕ} 0 1 = cc in omega arith)

-- above 0, by the test that failed
pub test_above : (z : ℤ) → le_z z (pos 0) ≡ false → T (non_neg z) × (0 < nat_abs z)
test_above (pos n) e = (tt, leb-false n 0 e)
test_above (negsuc n) e = absurd (let h : ◌≡◌ {A = ℕ} 0 1 = cc in omega arith)

pub floor-mirror : (z : ℤ) (d : ℕ) → mirror_of (floor_div_of (mirror_of z) d) ≡ floor_div_of z d
floor-mirror (pos n) d = refl
floor-mirror (negsuc n) d = refl
