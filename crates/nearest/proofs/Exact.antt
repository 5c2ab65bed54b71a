-- The exact size of a float, read off its bits, and the conversions by it.
use mathlib.Core.Path.{◌≡◌, refl, sym, ap, ◌∙◌, subst}
use mathlib.Core.Bool.{Bool, true, false, not, cond}
use Prim.Native.Nat.{ℕ, zero, suc, ◌+◌, ◌-◌, ◌*◌, ◌/◌, ◌%◌, ◌^◌, ◌≤◌, ◌<◌}
use native.Mathlib.Nat.{le_of_eq, le_trans, lt_of_lt_of_le, lt_of_not-le, lt_irrefl, mod-lt, mul_assoc, mul_left_comm, mul_right_comm, mul-le-mul_right, le-add_right, le_of_mul-le-mul_right, eq_of_mul-eq-mul_right, mul-one, add-sub_of_le, div-one}
use native.Mathlib.Omega.{arith}
use lib.Dec.{T, eqb, leb, lit<}
use lib.Pow.{pow-add, pow_pos, pow-lt, shr-shr, shl-shr}
use lib.Ieee.{Float, nan, inf, fin, binary64, odd, of_fields, of_bits, to_bits, fits, is_nan}
use lib.Ieee.Exact.{HasValue, odd_sign}
use lib.Ieee.Bits.{of_bits-to_bits}
use lib.Ieee.Scale.{finite}
use lib.Ieee.Positive.{num, den, den_pos}
use Rattle.nearest.specs.Nearest.{nearest_of, UpTo}
use Rattle.nearest.specs.Pattern.{digits_in, shift_in, digits_of, shift_of, exponent_of}
use Rattle.nearest.proofs.Nearest.{nearest-is}

-- ---- a float's size from its fields

cross : (x : Float) (s : Bool) (a c : ℕ) → HasValue x s a c → num x * c ≡ a * den x
cross nan s a c h = absurd h
cross (inf t) s a c h = absurd h
cross (fin t m e) s a c h = h.1

pub pow_le_back : (i p : ℕ) → 2 ^ i ≤ 2 ^ p → i ≤ p
pow_le_back i p h = go (lt_of_not-le (λ (g : suc p ≤ i). lt_irrefl (2 ^ p) (lt_of_lt_of_le (pow-lt g) h)))
  where
    go : i < suc p → i ≤ p
    go l = omega arith

-- q * 2 ^ j / 2 ^ 1074 is q / 2 ^ (1074 - j)
lowered : (n d q j : ℕ) → j ≤ 1074 → n * 2 ^ 1074 ≡ q * 2 ^ j * d → n * 2 ^ (1074 - j) ≡ q * d
lowered n d q j l h =
    eq_of_mul-eq-mul_right (2 ^ j) (pow_pos j) (n * 2 ^ (1074 - j)) (q * d)
    (mul_assoc n (2 ^ (1074 - j)) (2 ^ j)
    ∙ ap (λ (k : ℕ). n * k) (sym (pow-add 2 (1074 - j) j) ∙ ap (λ (k : ℕ). 2 ^ k) whole)
    ∙ h
    ∙ mul_right_comm q (2 ^ j) d)
  where
    whole : 1074 - j + j ≡ 1074
    whole = omega arith

-- a size of at most 2 ^ w bounds the exponent
bounded : (w n d q j : ℕ) → 0 < d → 2 ^ 52 ≤ q → n ≤ 2 ^ w * d → n * 2 ^ 1074 ≡ q * 2 ^ j * d → 52 + j ≤ w + 1074
bounded w n d q j D Q h v =
    pow_le_back (52 + j) (w + 1074)
    (le_trans (le_of_eq (pow-add 2 52 j))
    (le_trans (mul-le-mul_right (2 ^ j) Q)
    (le_trans (le_of_mul-le-mul_right (le_trans (le_of_eq (sym v)) (le_trans (mul-le-mul_right (2 ^ 1074) h) (le_of_eq (mul_right_comm (2 ^ w) d (2 ^ 1074))))) D)
    (le_of_eq (sym (pow-add 2 w 1074))))))

-- x is a / 2 ^ z in size, and z is at least 52 - w
abbrev pub Sized : ℕ → Float → ℕ → ℕ → Type 0
Sized w x a z = (num x * 2 ^ z ≡ a * den x) × (52 ≤ w + z)

sized_odd : (w : ℕ) (s : Bool) (q j : ℕ) → w ≤ 21 → 2 ^ 52 ≤ q → num (odd 53 s q j 1074) ≤ 2 ^ w * den (odd 53 s q j 1074) → Sized w (odd 53 s q j 1074) q (1074 - j)
sized_odd w s q j W Q g =
    let v = odd 53 s q j 1074 in
    let e : num v * 2 ^ 1074 ≡ q * 2 ^ j * den v = cross v s (q * 2 ^ j) (2 ^ 1074) (odd_sign 53 s q j 1074) in
    let b : 52 + j ≤ w + 1074 = bounded w (num v) (den v) q j (den_pos v) Q g e in
    (lowered (num v) (den v) q j (omega arith) e, omega arith)

-- the exponent of a finite float is not the largest
kept : (w : ℕ) (s : Bool) (v : Float) (q z : ℕ) (a b : Bool) → (num v ≤ 2 ^ w * den v → Sized w v q z)
    → T (finite (cond a (cond b (inf s) nan) v)) → num (cond a (cond b (inf s) nan) v) ≤ 2 ^ w * den (cond a (cond b (inf s) nan) v)
    → Sized w (cond a (cond b (inf s) nan) v) q z
kept w s v q z true true f r g = absurd r
kept w s v q z true false f r g = absurd r
kept w s v q z false b f r g = f g

sized_fields : (w : ℕ) (s : Bool) (f t : ℕ) → w ≤ 21 → T (finite (of_fields binary64 s f t)) → num (of_fields binary64 s f t) ≤ 2 ^ w * den (of_fields binary64 s f t)
    → Sized w (of_fields binary64 s f t) (digits_in f t) (shift_in f)
unfolding of_fields
sized_fields w s zero t W p h =
    let v = odd 53 s t 0 1074 in
    (cross v s (t * 1) (2 ^ 1074) (odd_sign 53 s t 0 1074) ∙ ap (λ (k : ℕ). k * den v) (mul-one t), omega arith)
sized_fields w s (suc j) t W p h =
    kept w s (odd 53 s (2 ^ 52 + t) j 1074) (2 ^ 52 + t) (1074 - j) (eqb (suc j) 2047) (eqb t 0) (sized_odd w s (2 ^ 52 + t) j W (le-add_right (2 ^ 52) t)) p h

sized-bits : (w b : ℕ) → w ≤ 21 → UpTo w (of_bits binary64 b) → Sized w (of_bits binary64 b) (digits_of b) (shift_of b)
unfolding of_bits digits_of shift_of
sized-bits w b W h = sized_fields w (leb (2 ^ 63) b) (exponent_of b) (b % 2 ^ 52) W h.finite_is h.size_is

-- a float that the format holds, and its pattern
pub sized : (w : ℕ) (x : Float) → w ≤ 21 → T (fits binary64 x) → UpTo w x → Sized w x (digits_of (to_bits binary64 x)) (shift_of (to_bits binary64 x))
sized w x W F h =
    let b = to_bits binary64 x in
    subst (λ (y : Float). Sized w y (digits_of b) (shift_of b)) (of_bits-to_bits binary64 x F)
    (sized-bits w b W (subst (λ (y : Float). UpTo w y) (sym (of_bits-to_bits binary64 x F)) h))

-- ---- what the conversions cite

-- of an `f64`: the format holds it
pub held : {b : Bool} → b ≡ true → T b
held e = subst T (sym e) tt

pub digits_lead : (f t : ℕ) → (f ≡ 0 → ⊥) → 2 ^ 52 + t ≡ digits_in f t
digits_lead zero t h = absurd (h refl)
digits_lead (suc j) t h = refl

pub shift_lead : (f : ℕ) → (f ≡ 0 → ⊥) → 1075 - f ≡ shift_in f
shift_lead zero h = absurd (h refl)
shift_lead (suc j) h = omega arith

pub no_nan : (x : Float) → T (finite x) → T (not (is_nan x))
unfolding is_nan
no_nan nan h = absurd h
no_nan (inf s) h = absurd h
no_nan (fin s m e) h = tt

pub digits_lt : (b : ℕ) → digits_of b < 2 ^ 53
unfolding digits_of
digits_lt b = go (exponent_of b) (b % 2 ^ 52) (mod-lt b (pow_pos 52))
  where
    go : (f t : ℕ) → t < 2 ^ 52 → digits_in f t < 2 ^ 53
    go zero t h = omega arith
    go (suc j) t h = omega arith

shift-down : (a j z : ℕ) → j ≤ z → a * 2 ^ j / 2 ^ z ≡ a / 2 ^ (z - j)
shift-down a j z h =
    ap (λ (k : ℕ). a * 2 ^ j / 2 ^ k) (sym (add-sub_of_le h)) ∙ sym (shr-shr (a * 2 ^ j) j (z - j)) ∙ ap (λ (k : ℕ). k / 2 ^ (z - j)) (shl-shr a j)

module _ (w : ℕ) (x : Float) (W : w ≤ 21) (F : T (fits binary64 x)) (S : UpTo w x) where
  abbrev a : ℕ
  a = digits_of (to_bits binary64 x)

  abbrev z : ℕ
  z = shift_of (to_bits binary64 x)

  -- what is dropped is at least this many binary digits
  pub dropped : 52 ≤ w + z
  dropped = (sized w x W F S).1

  pub by_whole : (p : ℕ) → (a * (2 * p) / 2 ^ z + 1) / 2 ≡ nearest_of p 1 x
  unfolding nearest_of
  by_whole p =
      sym (nearest-is p 1 (num x) (den x) a (2 ^ z) (lit< tt) (den_pos x) (pow_pos z) (sized w x W F S).0 ∙ rw (div-one, mul_left_comm 2 a p))

  pub by_power : (j q : ℕ) → 0 < q → w + j < 52 → (a / 2 ^ (z - (1 + j)) / q + 1) / 2 ≡ nearest_of (2 ^ j) q x
  unfolding nearest_of
  by_power j q Q h =
      sym
      (nearest-is (2 ^ j) q (num x) (den x) a (2 ^ z) Q (den_pos x) (pow_pos z) (sized w x W F S).0
      ∙ ap (λ (k : ℕ). (k / q + 1) / 2) (ap (λ (k : ℕ). k / 2 ^ z) doubled ∙ shift-down a (1 + j) z (omega (arith, dropped))))
    where
      doubled : 2 * (a * 2 ^ j) ≡ a * 2 ^ (1 + j)
      doubled = mul_left_comm 2 a (2 ^ j) ∙ ap (λ (k : ℕ). a * k) (sym (pow-add 2 1 j))
