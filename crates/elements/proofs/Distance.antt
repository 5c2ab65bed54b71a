-- The closest distance of accepted fields is a finite number above 0, so refusal 5 returns one: both factors lie between numbers above 0.
use mathlib.Core.Path.{◌≡◌, sym, subst}
use mathlib.Core.Bool.{true, false}
use Prim.Native.Nat.{ℕ, ◌*◌, ◌-◌, ◌≤◌, ◌<◌}
use native.Mathlib.Nat.{mul-one, one-mul, add-zero}
use native.Mathlib.Omega.{arith}
use lib.IntN.{ℤ, pos}
use lib.Dec.{T, eqb, eqb→eq, lit<}
use lib.Ieee.{Float, nan, inf, fin, binary64, up, down, round, sum, add, neg, sub, mul, le, lt, eq}
use lib.Ieee.Fits.{down_pos, and_l, and_r}
use lib.Ieee.Order.{round_mono}
use lib.Ieee.Positive.{positive, between, mul_mono}
use Rattle.nearest.specs.Nearest.{decimal, number}
use Rattle.elements.specs.Field.{axis_in, eccentricity_in}
use Rattle.elements.specs.Closest.{closest_of}
use Rattle.elements.proofs.Range.{Ranged, eccentricity_range}
use Rattle.elements.proofs.Sterbenz.{less_is}

-- no less than 1/25, and no more than 1
abbrev FromTo : Float → Type 0
FromTo y = T (le (decimal 1 25) y) × T (le y (number 1))

rounded-from_to : (n d : ℕ) → 0 < d → d ≤ n * 25 → n ≤ d → FromTo (round binary64 false n d)
unfolding decimal
rounded-from_to n d D lo hi =
    (round_mono binary64 1 25 n d (lit< tt) D (omega arith), round_mono binary64 n d 1 1 D (lit< tt) (omega arith))

-- 1 − e where e is minus zero
less_minus_zero : (m : ℕ) (x : ℤ) → m * up x ≡ 0 → sub binary64 (fin false 1 (pos 0)) (fin true m x) ≡ round binary64 false (down x) (down x)
unfolding sub add neg sum
less_minus_zero m x h = simp (h, mul-one, one-mul, add-zero)

no_size : (m : ℕ) (x : ℤ) → T (le (fin false 0 (pos 0)) (fin true m x)) → m * up x ≡ 0
unfolding le lt eq
no_size m x l =
    let same : 0 * 1 * down x ≡ m * up x * 1 = eqb→eq (0 * 1 * down x) (m * up x * 1) (and_l (eqb (0 * 1 * down x) (m * up x * 1)) (eqb (0 * 1 * down x) 0) l) in
    omega arith

less_from_to : (e : Float) → T (eccentricity_in e) → FromTo (sub binary64 (number 1) e)
unfolding decimal round
less_from_to e t = go e (eccentricity_range e t) (and_l (le (number 0) e) (le e (decimal 95 100)) t)
  where
    go : (e : Float) → Ranged 0 e (decimal 95 100) → T (le (number 0) e) → FromTo (sub binary64 (fin false 1 (pos 0)) e)
    go nan n l = absurd n.up_to.finite_is
    go (inf s) n l = absurd n.up_to.finite_is
    go (fin false m x) n l =
        let size : m * up x * 4503599627370496 ≤ 4278419646001971 * down x = n.no_larger in
        subst FromTo (sym (less_is m x (omega arith))) (rounded-from_to (down x - m * up x) (down x) (down_pos x) (omega arith) (omega arith))
    go (fin true m x) n l =
        subst FromTo (sym (less_minus_zero m x (no_size m x l))) (rounded-from_to (down x) (down x) (down_pos x) (omega arith) (omega arith))

pub distance_positive : (a e : Float) → T (axis_in a) → T (eccentricity_in e) → T (positive (closest_of a e))
unfolding closest_of decimal round mul
distance_positive a e A E =
    let y = sub binary64 (number 1) e in
    let k = less_from_to e E in
    let lo = and_l (le (number 100) a) (le a (number 250000)) A in
    let hi = and_r (le (number 100) a) (le a (number 250000)) A in
    let p : T (positive a) = between (number 100) a (number 250000) tt tt lo hi in
    let q : T (positive y) = between (decimal 1 25) y (number 1) tt tt k.0 k.1 in
    between (mul binary64 (number 100) (decimal 1 25)) (mul binary64 a y) (mul binary64 (number 250000) (number 1)) tt tt
    (mul_mono binary64 (number 100) a (decimal 1 25) y tt p tt q lo k.0)
    (mul_mono binary64 a (number 250000) y (number 1) p tt q tt hi k.1)
