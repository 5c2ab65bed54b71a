-- A float from one number to another is no larger than the larger of them, so it is small enough for each conversion: by the cases of the comparison.
use mathlib.Core.Path.{◌≡◌, sym}
use mathlib.Core.Bool.{Bool, true, false, ◌&&◌, ◌||◌}
use Prim.Native.Nat.{ℕ, ◌*◌, ◌^◌, ◌≤◌, ◌<◌}
use native.Mathlib.Nat.{le_of_eq, le_of_lt}
use native.Mathlib.Omega.{arith}
use lib.IntN.{ℤ}
use lib.Dec.{T, ltb, eqb, ltb→lt, eqb→eq, lit≤}
use lib.Ieee.{Float, nan, inf, fin, up, down, lt, eq, le, neg, round}
use lib.Ieee.Fits.{down_pos, and_i, and_l, and_r}
use lib.Ieee.Positive.{num, den, through}
use Rattle.nearest.specs.Nearest.{UpTo, nearest_of, decimal, number}
use Rattle.nearest.proofs.Nearest.{nearest_of_mono}
use Rattle.elements.specs.Field.{within, below, axis_in, eccentricity_in, inclination_in, turn_in, period_in, radius_in, latitude_in, elevation_in}

-- x is no larger in size than h, and small enough for a conversion that takes up to 2 ^ w
pub record Ranged (w : ℕ) (x h : Float) : Type 0 where
  pub no_larger : num x * den h ≤ num h * den x
  pub up_to : UpTo w x

-- nearest is monotone
pub at_most : (p q : ℕ) {w : ℕ} {x h : Float} → 0 < q → Ranged w x h → nearest_of p q x ≤ nearest_of p q h
at_most p q {x = x} {h = h} Q r = nearest_of_mono p q x h Q r.no_larger

-- ---- between two numbers, the upper one the larger in size

-- a ≤ b, from the two tests that `le` makes of two sizes of one sign
under : (a b : ℕ) (q : Bool) → (T q → a ≡ b) → T (ltb a b || (q && true)) → a ≤ b
under a b q f h = go (ltb a b) q (λ t. ltb→lt a b t) f h
  where
    go : (p q : Bool) → (T p → a < b) → (T q → a ≡ b) → T (p || (q && true)) → a ≤ b
    go true q f g h = le_of_lt (f tt)
    go false true f g h = le_of_eq (g tt)
    go false false f g h = absurd h

lt→le : (x y : Float) → T (lt x y) → T (le x y)
unfolding le
lt→le x y h = or_l (lt x y) (eq x y) h
  where
    or_l : (a b : Bool) → T a → T (a || b)
    or_l true b t = tt
    or_l false b t = absurd t

module _ (w l h : ℕ) (k d : ℤ) (L : l * up k * down d ≤ h * up d * down k) (H : h * up d ≤ 2 ^ w * down d) where
  -- of the size m·2^e
  ranged : (s : Bool) (m : ℕ) (e : ℤ) → m * up e * down d ≤ h * up d * down e → Ranged w (fin s m e) (fin false h d)
  ranged s m e c =
      let size = through (m * up e) (h * up d) (2 ^ w) (down e) (down d) 1 (down_pos d) c (omega arith) in
      record { no_larger = c; up_to = record { finite_is = tt; size_is = omega arith } }

  -- from what it is to the lower end's
  by_lower : (m : ℕ) (e : ℤ) → m * up e * down k ≤ l * up k * down e → Ranged w (fin true m e) (fin false h d)
  by_lower m e a = ranged true m e (through (m * up e) (l * up k) (h * up d) (down e) (down k) (down d) (down_pos k) a L)

  between : (s : Bool) (x : Float) → T (le (fin s l k) x) → T (le x (fin false h d)) → Ranged w x (fin false h d)
  unfolding le lt eq
  between s nan a b = absurd a
  between s (inf true) a b = absurd a
  between s (inf false) a b = absurd b
  between s (fin false m e) a b =
      let A = m * up e * down d in
      let B = h * up d * down e in
      ranged false m e (under A B (eqb A B) (eqb→eq A B) b)
  between true (fin true m e) a b =
      let A = m * up e * down k in
      let B = l * up k * down e in
      by_lower m e (under A B (eqb B A) (λ z. sym (eqb→eq B A z)) a)
  between false (fin true m e) a b =
      let A = m * up e * down k in
      let B = l * up k * down e in
      by_lower m e (le_of_eq (sym (eqb→eq B A (and_l (eqb B A) (eqb B 0) a))))

  within-ranged : (s : Bool) (x : Float) → T (within (fin s l k) (fin false h d) x) → Ranged w x (fin false h d)
  within-ranged s x t =
      let a = le (fin s l k) x in
      let b = le x (fin false h d) in
      between s x (and_l a b t) (and_r a b t)

-- what is below an end is up to it
below-within : (low high x : Float) → T (below low high x) → T (within low high x)
below-within low high x t =
    and_i (le low x) (le x high) (and_l (le low x) (lt x high) t) (lt→le x high (and_r (le low x) (lt x high) t))

-- ---- the ranges of the fields

pub axis_range : (x : Float) → T (axis_in x) → Ranged 21 x (number 250000)
unfolding decimal round
axis_range x h = within-ranged 21 _ _ _ _ (lit≤ tt) (lit≤ tt) false x h

pub eccentricity_range : (x : Float) → T (eccentricity_in x) → Ranged 0 x (decimal 95 100)
unfolding decimal round
eccentricity_range x h = within-ranged 0 _ _ _ _ (lit≤ tt) (lit≤ tt) false x h

pub inclination_range : (x : Float) → T (inclination_in x) → Ranged 9 x (number 180)
unfolding decimal round
inclination_range x h = within-ranged 9 _ _ _ _ (lit≤ tt) (lit≤ tt) false x h

pub turn_range : (x : Float) → T (turn_in x) → Ranged 9 x (number 360)
unfolding decimal round
turn_range x h = within-ranged 9 _ _ _ _ (lit≤ tt) (lit≤ tt) false x (below-within (number 0) (number 360) x h)

pub period_range : (x : Float) → T (period_in x) → Ranged 21 x (number 2000000)
unfolding decimal round
period_range x h = within-ranged 21 _ _ _ _ (lit≤ tt) (lit≤ tt) false x h

pub radius_range : (x : Float) → T (radius_in x) → Ranged 21 x (number 100000)
unfolding decimal round
radius_range x h = within-ranged 21 _ _ _ _ (lit≤ tt) (lit≤ tt) false x h

pub latitude_range : (x : Float) → T (latitude_in x) → Ranged 9 x (number 90)
unfolding decimal round neg
latitude_range x h = within-ranged 9 _ _ _ _ (lit≤ tt) (lit≤ tt) true x h

pub elevation_range : (x : Float) → T (elevation_in x) → Ranged 9 x (number 90)
unfolding decimal round
elevation_range x h = within-ranged 9 _ _ _ _ (lit≤ tt) (lit≤ tt) false x h
