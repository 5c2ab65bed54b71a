-- What the machine holds of a number that `i64::from` gave, and of a sum with a constant.
use mathlib.Core.Path.{◌≡◌}
use Prim.Native.Nat.{ℕ, ◌+◌, ◌≤◌, ◌^◌}
use native.Mathlib.Nat.{le_refl}
use lib.Dec.{T, ltb}
use lib.IntN.{ℤ, pos, ◌+ℤ◌}
use Rattle.fixed.specs.Within.{Within, Is}
use Rattle.fixed.proofs.Machine.{loc, held, called, plain, sum}

pub natural : {r : ℤ} {m n : ℕ} → r ≡ pos m → m ≤ n → T (ltb n (2 ^ 63)) → Is (loc r) (pos m) n
natural e h t = held (called e (record { within = h })) t

pub more : (n : ℕ) {x v : ℤ} {m : ℕ} → Is x v m → Is (x +ℤ pos n) (v +ℤ pos n) (m + n)
more n h = let constant : Within (pos n) n = record { within = le_refl n } in sum h (plain constant)
