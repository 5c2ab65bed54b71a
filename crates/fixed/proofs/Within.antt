-- Bounds of signed numbers by their distance from 0, in ℕ: each law takes `Within` of the parts to `Within` of the whole.
use mathlib.Core.Path.{◌≡◌, refl}
use mathlib.Core.Bool.{Bool, true, false, not, cond}
use mathlib.Core.List.{List}
use Prim.Native.Nat.{ℕ, zero, suc, ◌+◌, ◌*◌, ◌-◌, ◌≤◌, ◌<◌, ◌^◌}
use native.Mathlib.Nat.{le_trans, le_refl, le_of_eq, le-suc, lt_of_le_of_lt, mul-le-mul, div-le_of_le-mul, div-lt_iff_lt-mul}
use native.Mathlib.Omega.{arith}
use lib.Dec.{T, ltb, ltb→lt, lit<, lit≤}
use lib.IntN.{ℤ, pos, negsuc, nat_abs, neg_ℤ, sub_ℕ, ◌+ℤ◌, ◌-ℤ◌, ◌*ℤ◌, *ℤ-zero, zero-*ℤ}
use lib.Signed.{mag}
use mir.Syntax.{w64}
use mir.Val.{SFits}
use Rattle.fixed.specs.Floor.{floor_div_of}
use Rattle.fixed.specs.Scaled.{one, ◌∘◌, dot_of}
use Rattle.fixed.specs.Within.{Within, Small, Entries}

-- ---- distances from 0

abs_neg : (a : ℤ) → nat_abs (neg_ℤ a) ≡ nat_abs a
abs_neg (pos zero) = refl
abs_neg (pos (suc n)) = refl
abs_neg (negsuc n) = refl

abs-cond : (t : Bool) (x y : ℤ) (n : ℕ) → (T t → nat_abs x ≤ n) → (T (not t) → nat_abs y ≤ n) → nat_abs (cond t x y) ≤ n
abs-cond true x y n f g = f tt
abs-cond false x y n f g = g tt

abs-sub : (a b : ℕ) → nat_abs (sub_ℕ a b) ≤ a + b
abs-sub a b =
    abs-cond (ltb a b) (negsuc (b - suc a)) (pos (a - b)) (a + b)
    (λ t. let h : a < b = ltb→lt a b t in omega arith)
    (λ t. omega arith)

abs-add : (a b : ℤ) → nat_abs (a +ℤ b) ≤ nat_abs a + nat_abs b
abs-add (pos a) (pos b) = le_refl (a + b)
abs-add (pos a) (negsuc b) = abs-sub a (suc b)
abs-add (negsuc a) (pos b) = le_trans (abs-sub b (suc a)) (omega arith)
abs-add (negsuc a) (negsuc b) = omega arith

abs-mul : (a b : ℤ) → nat_abs (a *ℤ b) ≡ nat_abs a * nat_abs b
abs-mul (pos a) (pos b) = refl
abs-mul (pos a) (negsuc b) = abs_neg (pos (a * suc b))
abs-mul (negsuc a) (pos b) = abs_neg (pos (suc a * b))
abs-mul (negsuc a) (negsuc b) = refl

abs-floor : (z : ℤ) (d n : ℕ) → 0 < d → nat_abs z ≤ n * d → nat_abs (floor_div_of z d) ≤ n
abs-floor (pos m) d n h k = div-le_of_le-mul d (le_trans k (omega arith))
abs-floor (negsuc m) d n h k = (div-lt_iff_lt-mul h).1 k

mag_abs : (z : ℤ) → mag z ≤ nat_abs z
mag_abs (pos n) = le_refl n
mag_abs (negsuc n) = le-suc n

-- ---- the laws: from the parts to the whole

pub neg-within : {a : ℤ} {m : ℕ} → Within a m → Within (neg_ℤ a) m
neg-within {a} h = record { within = le_trans (le_of_eq (abs_neg a)) h.within }

pub add-within : {a b : ℤ} {m n : ℕ} → Within a m → Within b n → Within (a +ℤ b) (m + n)
add-within {a} {b} h k = record { within = le_trans (abs-add a b) (omega arith) }

pub sub_within : {a b : ℤ} {m n : ℕ} → Within a m → Within b n → Within (a -ℤ b) (m + n)
sub_within h k = add-within h (neg-within k)

pub mul-within : {a b : ℤ} {m n : ℕ} → Within a m → Within b n → Within (a *ℤ b) (m * n)
mul-within {a} {b} h k = record { within = le_trans (le_of_eq (abs-mul a b)) (mul-le-mul h.within k.within) }

-- at numerals the last premise is `lit≤ tt`
pub floor-within : {z : ℤ} {m : ℕ} (d n : ℕ) → Within z m → 0 < d → m ≤ n * d → Within (floor_div_of z d) n
floor-within {z} d n h p k = record { within = abs-floor z d n p (le_trans h.within k) }

-- no quotient is further from 0 than what is divided
pub quotient-within : {z : ℤ} {m : ℕ} (d : ℕ) → Within z m → 0 < d → Within (floor_div_of z d) m
quotient-within {z = z} {m = m} zero h p = elim p [ ]
quotient-within {m = m} (suc d) h p = floor-within (suc d) m h p (omega arith)

pub scaled-within : {a b : ℤ} {m n : ℕ} (k : ℕ) → Within a m → Within b n → m * n ≤ k * one → Within (a ∘ b) k
unfolding ◌∘◌
scaled-within k h i j = floor-within one k (mul-within h i) (lit< tt) j

pub small-scaled : {a b : ℤ} → Small a → Small b → Small (a ∘ b)
small-scaled h k = scaled-within one h k (lit≤ tt)

-- two numbers of at most one make at most two, added or taken away
pub two-added : {a b : ℤ} → Small a → Small b → Within (a +ℤ b) (2 * one)
two-added h k = add-within h k

pub two-taken : {a b : ℤ} → Small a → Small b → Within (a -ℤ b) (2 * one)
two-taken h k = sub_within h k

-- for `search small`: what is made of numbers of at most one, whatever the signs and the order
pub ruleset small = (neg-within, small-scaled, two-added, two-taken)

pub dot-within : {p e : List ℤ} {m n : ℕ} (k : ℕ) → Entries p m → Entries e n → m * n ≤ k * one → Within (dot_of p e) (k + k + k)
unfolding dot_of
dot-within k h i t =
    add-within
    (add-within (scaled-within k h.e₀ i.e₀ t) (scaled-within k h.e₁ i.e₁ t))
    (scaled-within k h.e₂ i.e₂ t)

pub wider : {z : ℤ} {m n : ℕ} → Within z m → m ≤ n → Within z n
wider h k = record { within = le_trans h.within k }

pub wider-entries : {v : List ℤ} {m n : ℕ} → Entries v m → m ≤ n → Entries v n
wider-entries h k = record { e₀ = wider h.e₀ k; e₁ = wider h.e₁ k; e₂ = wider h.e₂ k }

pub fits : {z : ℤ} {n : ℕ} → Within z n → n < 2 ^ 63 → SFits w64 z
fits {z} h k = record { sfits = lt_of_le_of_lt (mag_abs z) (lt_of_le_of_lt h.within k) }

-- nothing times anything
pub scaled-zero : (a : ℤ) → a ∘ pos 0 ≡ pos 0
unfolding ◌∘◌
scaled-zero a = rw *ℤ-zero

pub zero-scaled : (b : ℤ) → pos 0 ∘ b ≡ pos 0
unfolding ◌∘◌
zero-scaled b = rw zero-*ℤ
