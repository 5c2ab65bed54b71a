-- What the machine holds of a signed number: each operation's law takes `Is` of the operands to `Is` of the result.
use mathlib.Core.Path.{◌≡◌, refl, sym, ap, ◌∙◌}
use mathlib.Core.Bool.{Bool}
use Prim.Native.Nat.{ℕ, ◌+◌, ◌*◌, ◌≤◌, ◌<◌, ◌^◌}
use native.Mathlib.Nat.{lt_of_le_of_lt}
use lib.Dec.{T, leb, ltb, leb→le, ltb→lt}
use lib.IntN.{ℤ, pos, neg_ℤ, ◌+ℤ◌, ◌-ℤ◌, ◌*ℤ◌, +ℤ_idl}
use lib.Signed.{mag, lt_z, le_z}
use mir.Syntax.{w64}
use mir.Val.{SFits, to_z, of_z}
use mir.Facts.{to_z-of_z, to_z_pos}
use Rattle.fixed.specs.Scaled.{one, ◌∘◌}
use Rattle.fixed.specs.Within.{Within, Is}
use Rattle.fixed.proofs.Within.{neg-within, add-within, sub_within, mul-within, scaled-within, fits}

-- a signed local holds bits, so an operand v reads as  to_z w64 (of_z w64 v)
abbrev pub loc : ℤ → ℤ
loc v = to_z w64 (of_z w64 v)

-- ---- `Is x v n`: the term x of a goal is the number v. A proof builds one along the code's own steps: `fit` of it answers a need, and
-- `.is` the return

pub plain : {v : ℤ} {n : ℕ} → Within v n → Is v v n
plain h = record { is = refl; bound = h }

pub fit : {x v : ℤ} {n : ℕ} → Is x v n → T (ltb n (2 ^ 63)) → SFits w64 x
fit {x} {v} {n} h t = fits h.bound (ltb→lt n (2 ^ 63) t)

-- what a call gave, by its contract and a law
pub called : {r v : ℤ} {n : ℕ} → r ≡ v → Within v n → Is r v n
called e h = record { is = e; bound = rw e h }

-- an unsigned number cast to a signed one
pub cast : {m n : ℕ} → m ≤ n → T (ltb n (2 ^ 63)) → Is (to_z w64 m) (pos m) n
cast {m} {n} h t = called (to_z_pos w64 (lt_of_le_of_lt h (ltb→lt n (2 ^ 63) t))) (record { within = h })

-- stored in a local and read back
pub held : {x v : ℤ} {n : ℕ} → Is x v n → T (ltb n (2 ^ 63)) → Is (loc x) v n
held h t = let same = to_z-of_z (fit h t) in record { is = same ∙ h.is; bound = rw same h.bound }

-- an operand
pub operand : {v : ℤ} {n : ℕ} → Within v n → T (ltb n (2 ^ 63)) → Is (loc v) v n
operand h t = held (plain h) t

pub back : {v : ℤ} {n : ℕ} → Within v n → T (ltb n (2 ^ 63)) → loc v ≡ v
back h t = (operand h t).is

-- a call's result, read back from its range
pub got : (z : ℤ) → mag z < 2 ^ 63 → loc z ≡ z
got z h = to_z-of_z {w = w64} (record { sfits = h })

-- what a test of a local against a number tells of what the local holds
pub told : {z : ℤ} {t : Bool} (k : ℤ) → SFits w64 z → lt_z (loc z) k ≡ t → lt_z z k ≡ t
told k f e = ap (λ (v : ℤ). lt_z v k) (sym (to_z-of_z f)) ∙ e

-- the test of what stands for two numbers is the test of the numbers
pub compared : {x v y w : ℤ} → x ≡ v → y ≡ w → le_z x y ≡ le_z v w
compared e f = cc

pub compared_less : {x v y w : ℤ} → x ≡ v → y ≡ w → lt_z x y ≡ lt_z v w
compared_less e f = cc

-- ---- the operations

pub sum : {x y v w : ℤ} {m n : ℕ} → Is x v m → Is y w n → Is (x +ℤ y) (v +ℤ w) (m + n)
sum h k = record { is = cc; bound = add-within h.bound k.bound }

pub difference : {x y v w : ℤ} {m n : ℕ} → Is x v m → Is y w n → Is (x -ℤ y) (v -ℤ w) (m + n)
difference h k = record { is = cc; bound = sub_within h.bound k.bound }

pub product : {x y v w : ℤ} {m n : ℕ} → Is x v m → Is y w n → Is (x *ℤ y) (v *ℤ w) (m * n)
product h k = record { is = cc; bound = mul-within h.bound k.bound }

pub negation : {x v : ℤ} {n : ℕ} → Is x v n → Is (pos 0 -ℤ x) (neg_ℤ v) n
negation {x} h = let same = +ℤ_idl (neg_ℤ x) in record { is = same ∙ ap neg_ℤ h.is; bound = rw same (neg-within h.bound) }

-- what a call of `scaled` gives, within a stated number
pub scaled-is : {r x y v w : ℤ} {m n : ℕ} (k : ℕ) → r ≡ x ∘ y → Is x v m → Is y w n → T (leb (m * n) (k * one)) → Is r (v ∘ w) k
scaled-is {m = m} {n = n} k e h i t = record { is = cc; bound = rw e (scaled-within k h.bound i.bound (leb→le (m * n) (k * one) t)) }

-- what a call of `unit` gives
pub unit-is : {r x y v w : ℤ} → Is r (x ∘ y) one → x ≡ v → y ≡ w → Is r (v ∘ w) one
unit-is h e f = record { is = cc; bound = h.bound }

-- ---- for `search (rules, bounded)`: what an operation on two bounded numbers asks. The bounds are found among the facts in hand

pub product-fits : (a b : ℤ) (m n : ℕ) → Within a m → Within b n → T (ltb (m * n) (2 ^ 63)) → SFits w64 (a *ℤ b)
product-fits a b m n h k t = fits (mul-within h k) (ltb→lt (m * n) (2 ^ 63) t)

pub sum_fits : (a b : ℤ) (m n : ℕ) → Within a m → Within b n → T (ltb (m + n) (2 ^ 63)) → SFits w64 (a +ℤ b)
sum_fits a b m n h k t = fits (add-within h k) (ltb→lt (m + n) (2 ^ 63) t)

pub difference-fits : (a b : ℤ) (m n : ℕ) → Within a m → Within b n → T (ltb (m + n) (2 ^ 63)) → SFits w64 (a -ℤ b)
difference-fits a b m n h k t = fits (sub_within h k) (ltb→lt (m + n) (2 ^ 63) t)

pub ruleset bounded = (product-fits, sum_fits, difference-fits)
