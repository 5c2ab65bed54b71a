-- The laws of the sine that its callers cite: the table rises, and not too fast; a reading lies between its neighbours; no sine passes one.
use mathlib.Core.Path.{◌≡◌, refl, ap, subst, subst⁻¹, sym}
use mathlib.Core.Logic.{⊎_elim}
use mathlib.Core.Bool.{Bool, true, false, cond, ◌&&◌}
use Prim.Native.Nat.{ℕ, zero, suc, ◌+◌, ◌-◌, ◌*◌, ◌/◌, ◌%◌, ◌≤◌, ◌<◌}
use native.Mathlib.Nat.{le_trans, mul-le-mul_left, div-le_of_le-mul, mul_comm, eq-or-lt_of_le}
use native.Mathlib.Omega.{arith}
use borrow.Author.Tests.{eq-eqb, ne_eqb}
use lib.Dec.{T, eqb, ltb, leb, leb→le}
use lib.IntN.{pos, neg_ℤ, nat_abs}
use mir.Facts.{and_yes}
use Rattle.fixed.specs.Within.{Small}
use Rattle.angle.specs.Turn.{quarter_turn, add_of}
use Rattle.sine.specs.Table.{entry_of, scaled_sine, added, taken, term, factorial}
use Rattle.sine.specs.Sine.{segments, segment, entry_at, quadrant_of, fold_of, way_of, reading_of, sine_of, cosine_of}
use Rattle.sine.proofs.Along.{each, at-most_last}

-- ---- the table

-- a segment does not fall, and rises by at most 8/5 of its units: a quarter turn has as many as one has, so a sine's slope is at most π/2
steady : ℕ → ℕ → Bool
steady x y = leb x y && leb (5 * (y - x)) (8 * segment)

-- all segments are so: one computed test
tested : (k : ℕ) → k < segments → T (steady (entry_at k) (entry_at (k + 1)))
unfolding steady entry_of scaled_sine added taken term factorial
tested = each steady entry_at segments tt

-- it never falls
pub rising : (k : ℕ) → k < segments → entry_at k ≤ entry_at (k + 1)
unfolding steady
rising k h = leb→le _ _ (and_yes (leb (entry_at k) (entry_at (k + 1))) _ (tested k h)).0

-- it rises by at most 8/5
pub gentle : (k : ℕ) → k < segments → 5 * (entry_at (k + 1) - entry_at k) ≤ 8 * segment
unfolding steady
gentle k h = leb→le _ _ (and_yes (leb (entry_at k) (entry_at (k + 1))) _ (tested k h)).1

last : entry_at segments ≡ quarter_turn
unfolding entry_of scaled_sine added taken term factorial
last = refl

pub entry-le : (k : ℕ) → k ≤ segments → entry_at k ≤ quarter_turn
entry-le k h = subst (λ (m : ℕ). entry_at k ≤ m) last (at-most_last entry_at segments rising k h)

-- ---- the reading

-- part of the way from a to b is at most the way
pub part-le : (a b r : ℕ) → r ≤ segment → (b - a) * r / segment ≤ b - a
part-le a b r h = div-le_of_le-mul segment (subst (λ (m : ℕ). (b - a) * r ≤ m) (mul_comm (b - a) segment) (mul-le-mul_left (b - a) h))

pub reading-end : reading_of quarter_turn ≡ entry_at segments
unfolding reading_of
reading-end = refl

pub reading-inside : (g : ℕ) → g < quarter_turn → reading_of g ≡ way_of (entry_at (g / segment)) (entry_at (g / segment + 1)) (g % segment)
unfolding reading_of
reading-inside g h = rw (ne_eqb g quarter_turn (λ e. omega arith))

-- each reading lies between the two neighbouring entries
pub record Between (low reading high : ℕ) : Type 0 where
  pub above : low ≤ reading
  pub below : reading ≤ high

pub reading-between : (g : ℕ) → g < quarter_turn → Between (entry_at (g / segment)) (reading_of g) (entry_at (g / segment + 1))
unfolding way_of
reading-between g h =
    let k = g / segment in
    let is = reading-inside g h in
    record {
      above = omega arith;
      below = omega (arith, rising k (omega arith), part-le (entry_at k) (entry_at (k + 1)) (g % segment) (omega arith));
    }

pub reading-le : (g : ℕ) → g ≤ quarter_turn → reading_of g ≤ quarter_turn
reading-le g h =
    ⊎_elim
    (λ e. subst (λ (m : ℕ). reading_of m ≤ quarter_turn) (sym e) (omega (arith, reading-end, last)))
    (λ l. le_trans (reading-between g l).below (entry-le (g / segment + 1) (omega arith)))
    (eq-or-lt_of_le h)

pub reading_0 : reading_of 0 ≡ 0
unfolding reading_of way_of entry_of scaled_sine added taken term factorial
reading_0 = refl

-- ---- the sine

pub sine_0 : sine_of 0 ≡ pos 0
unfolding sine_of fold_of
sine_0 = ap pos reading_0

cond-le : (b : Bool) (x y m : ℕ) → x ≤ m → y ≤ m → cond b x y ≤ m
cond-le true x y m h k = h
cond-le false x y m h k = k

-- g = f for even j
pub fold_even : (θ : ℕ) → quadrant_of θ % 2 ≡ 0 → fold_of θ ≡ θ % quarter_turn
unfolding fold_of
fold_even θ even = rw (eq-eqb (quadrant_of θ % 2) 0 even)

-- g = 2^30 − f for odd j
pub fold_odd : (θ : ℕ) → (quadrant_of θ % 2 ≡ 0 → ⊥) → fold_of θ ≡ quarter_turn - θ % quarter_turn
unfolding fold_of
fold_odd θ odd = rw (ne_eqb (quadrant_of θ % 2) 0 odd)

pub fold-le : (θ : ℕ) → fold_of θ ≤ quarter_turn
unfolding fold_of
fold-le θ = cond-le (eqb (quadrant_of θ % 2) 0) (θ % quarter_turn) (quarter_turn - θ % quarter_turn) quarter_turn (omega arith) (omega arith)

signed : (b : Bool) (q : ℕ) → nat_abs (cond b (pos q) (neg_ℤ (pos q))) ≡ q
signed true q = refl
signed false zero = refl
signed false (suc q) = refl

-- no sine passes one
pub sine-small : (θ : ℕ) → Small (sine_of θ)
unfolding sine_of
sine-small θ =
    record { within = subst⁻¹ (λ (m : ℕ). m ≤ quarter_turn) (signed (ltb (quadrant_of θ) 2) (reading_of (fold_of θ))) (reading-le (fold_of θ) (fold-le θ)) }

pub cosine-small : (θ : ℕ) → Small (cosine_of θ)
unfolding cosine_of
cosine-small θ = sine-small (add_of θ quarter_turn)
