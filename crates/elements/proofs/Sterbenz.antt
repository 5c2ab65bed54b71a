-- For e from 1/2 to 1 the float 1 − e is exact: its size is (den e − num e) / den e, where e's is num e / den e.
use mathlib.Core.Path.{◌≡◌, refl, sym, ap, ◌∙◌, subst}
use mathlib.Core.Bool.{Bool, true, false, ◌&&◌}
use Prim.Native.Nat.{ℕ, zero, suc, ◌+◌, ◌-◌, ◌*◌, ◌^◌, ◌%◌, ◌≤◌, ◌<◌}
use native.Mathlib.Nat.{lt_of_lt_of_le, mul_assoc, mul-one, one-mul, lt_irrefl}
use native.Mathlib.Omega.{arith}
use borrow.Author.Tests.{le-ltb}
use lib.IntN.{ℤ, pos, negsuc}
use lib.Dec.{T, leb, ltb, eqb, leb→le, ltb→lt, lit≤}
use lib.Pow.{pow-add, pow_pos, pow_mono, shl_lt}
use lib.Ieee.{Float, nan, inf, fin, binary64, up, down, round, sum, add, neg, sub, le, fits}
use lib.Ieee.Fits.{and_r}
use lib.Ieee.Exact.{HasValue, round_exact}
use lib.Ieee.Positive.{num, den, positive, between, le→cross, le_trans_positive}
use Rattle.nearest.specs.Nearest.{decimal, number}
use Rattle.nearest.proofs.Exact.{pow_le_back}
use Rattle.elements.specs.Field.{eccentricity_in}

-- ---- the sum is one rounding of the exact difference
pub less_is : (m : ℕ) (e : ℤ) → m * up e ≤ down e → sub binary64 (fin false 1 (pos 0)) (fin false m e) ≡ round binary64 false (down e - m * up e) (down e)
unfolding sub add neg sum
less_is m e h = simp (mul-one, one-mul, le-ltb (down e) (m * up e) h)

-- ---- and the rounding changes nothing
exact : (n d k : ℕ) → d ≡ 2 ^ k → k ≤ 1074 → d - n < 2 ^ 53 → HasValue (round binary64 false (d - n) d) false (d - n) d
exact n d k D K Q =
    let j = 1074 - k in
    round_exact binary64 false (d - n) d (d - n) j (subst (λ (z : ℕ). 0 < z) (sym D) (pow_pos k)) Q
    (lt_of_lt_of_le (shl_lt 53 j Q) (pow_mono wide))
    (ap (λ (z : ℕ). (d - n) * z) (ap (λ (z : ℕ). 2 ^ z) whole ∙ pow-add 2 j k) ∙ sym (mul_assoc (d - n) (2 ^ j) (2 ^ k)) ∙ ap (λ (z : ℕ). (d - n) * 2 ^ j * z) (sym D))
  where
    wide : 53 + (1074 - k) ≤ 2098
    wide = omega arith

    whole : 1074 ≡ 1074 - k + k
    whole = omega arith

both : (a b c d : Bool) → T (a && b && c && d) → T b × T c
both false b c d h = absurd h
both true false c d h = absurd h
both true true false d h = absurd h
both true true true d h = (tt, tt)

-- a value above zero that the format holds is below 2 ^ 53 over at most 2 ^ 1074
held : (m : ℕ) (e : ℤ) → 0 < m → T (fits binary64 (fin false m e)) → (m < 2 ^ 53) × (down e ≤ 2 ^ 1074)
unfolding fits
held zero e p h = absurd (lt_irrefl 0 p)
held (suc m) e p h =
    let z = both (eqb (suc m % 2) 1) (ltb (suc m) (2 ^ 53)) (leb (down e) (2 ^ 1074)) (ltb (suc m * up e) (2 ^ 1024 * down e)) h in
    (ltb→lt (suc m) (2 ^ 53) z.0, leb→le (down e) (2 ^ 1074) z.1)

difference : (m : ℕ) (e : ℤ) → m < 2 ^ 53 → down e ≤ 2 ^ 1074 → down e ≤ m * up e * 2 → m * up e ≤ down e → HasValue (round binary64 false (down e - m * up e) (down e)) false (down e - m * up e) (down e)
difference m (pos k) M D lo hi = exact (m * 2 ^ k) 1 0 refl (lit≤ tt) (omega arith)
difference m (negsuc k) M D lo hi = exact (m * 1) (2 ^ suc k) (suc k) refl (pow_le_back (suc k) 1074 D) (omega arith)

one_less : (e : Float) → T (fits binary64 e) → T (le (decimal 1 2) e) → T (le e (number 1)) → HasValue (sub binary64 (number 1) e) false (den e - num e) (den e)
unfolding decimal round
one_less e F lo hi = go e F (between (decimal 1 2) e (number 1) tt tt lo hi) (le→cross (decimal 1 2) e tt (between (decimal 1 2) e (number 1) tt tt lo hi) lo) (le→cross e (number 1) (between (decimal 1 2) e (number 1) tt tt lo hi) tt hi)
  where
    go : (e : Float) → T (fits binary64 e) → T (positive e) → 1 * den e ≤ num e * 2 → num e * 1 ≤ 1 * den e → HasValue (sub binary64 (fin false 1 (pos 0)) e) false (den e - num e) (den e)
    go nan F p l h = absurd p
    go (inf s) F p l h = absurd p
    go (fin true m x) F p l h = absurd p
    go (fin false m x) F p l h =
        let g : m * up x ≤ down x = omega arith in
        let k = held m x (ltb→lt 0 m p) F in
        subst (λ (v : Float). HasValue v false (down x - m * up x) (down x)) (sym (less_is m x g)) (difference m x k.0 k.1 (omega arith) g)

-- so it is for every accepted eccentricity from 0.5 on that is a binary64
pub exact-from_half : (e : Float) → T (fits binary64 e) → T (le (decimal 1 2) e) → T (eccentricity_in e) → HasValue (sub binary64 (number 1) e) false (den e - num e) (den e)
unfolding decimal round le
exact-from_half e F lo t =
    let hi : T (le e (decimal 95 100)) = and_r (le (number 0) e) (le e (decimal 95 100)) t in
    let p : T (positive e) = between (decimal 1 2) e (decimal 95 100) tt tt lo hi in
    one_less e F lo (le_trans_positive e (decimal 95 100) (number 1) p tt tt hi tt)
