-- How fast a sine can rise: over d units by at most 8/5·d, and one unit for the floor. From the table's segments to a quarter turn, and by folding to the turn.
use mathlib.Core.Path.{◌≡◌, refl, sym}
use mathlib.Core.Logic.{⊎_elim}
use mathlib.Core.Bool.{Bool, true, false, cond}
use Prim.Native.Nat.{ℕ, ◌+◌, ◌-◌, ◌*◌, ◌/◌, ◌%◌, ◌≤◌, ◌<◌, min}
use native.Mathlib.Nat.{le_refl, mul-le-mul_left, mul-le-mul_right, mul-add, mul_assoc, div-add-mod, eq-or-lt_of_le}
use native.Mathlib.Omega.{arith}
use lib.Dec.{eqb, ltb}
use borrow.Author.Tests.{ltb-true, ltb-false, eqb-true, eqb-false, lt-ltb, le-ltb}
use Rattle.fixed.proofs.Lift.{up, up_neg}
use Rattle.angle.specs.Turn.{turn, quarter_turn}
use Rattle.sine.specs.Sine.{segments, segment, entry_at, quadrant_of, fold_of, way_of, reading_of, sine_of}
use Rattle.sine.proofs.Along.{at-most_last}
use Rattle.sine.proofs.Laws.{rising, gentle, entry-le, reading-end, reading-inside, reading-between, reading-le, reading_0, sine_0}

-- ---- along the table

entries_climb : (k l : ℕ) → k ≤ l → l ≤ segments → entry_at k ≤ entry_at l
entries_climb k l h m = at-most_last entry_at l (λ j g. rising j (omega arith)) k h

entries_rise : (k l : ℕ) → k ≤ l → l ≤ segments → 5 * entry_at l ≤ 5 * entry_at k + 8 * segment * (l - k)
entries_rise k l h m =
    omega (
      arith,
      entry-le k (omega arith),
      entry-le l m,
      at-most_last (λ (j : ℕ). 8 * segment * j + 5 * (quarter_turn - entry_at j)) l
          (λ j g. omega (arith, gentle j (omega arith), entry-le j (omega arith), entry-le (j + 1) (omega arith))) k h,
    )

-- ---- in one segment: parts of its rise, at r and at s units

module _ (rise : ℕ) (h : 5 * rise ≤ 8 * segment) where
  part : (t : ℕ) → 5 * (rise * t) ≤ 8 * segment * t
  part t = rw (← mul_assoc) (mul-le-mul_right t h)

  part-start : (r : ℕ) → 5 * (rise * r / segment) ≤ 8 * r
  part-start r = omega (arith, part r)

  part_rise : (r s : ℕ) → 5 * (rise * s / segment) ≤ 5 * (rise * r / segment) + 8 * (s - r) + 5
  part_rise r s =
      let apart : s ≤ r + (s - r) = omega arith in
      omega (arith, rw mul-add at (mul-le-mul_left rise apart), part (s - r))

-- ---- in the first quarter turn

-- inside it, or at its end
placed : {P : Type 0} (g : ℕ) → g ≤ quarter_turn → (g < quarter_turn → P) → (g ≡ quarter_turn → P) → P
placed g h inside end = ⊎_elim end inside (eq-or-lt_of_le h)

reading-above : (g : ℕ) → g ≤ quarter_turn → entry_at (g / segment) ≤ reading_of g
reading-above g h = placed g h (λ l. (reading-between g l).above) (λ e. rw (e, reading-end) (le_refl (entry_at segments)))

reading-start : (g : ℕ) → g ≤ quarter_turn → 5 * reading_of g ≤ 5 * entry_at (g / segment) + 8 * (g % segment)
unfolding way_of
reading-start g h =
    placed g h (λ l. omega (arith, reading-inside g l, part-start _ (gentle (g / segment) (omega arith)) (g % segment)))
    (λ e. rw (e, reading-end) (omega arith))

reading_stop : (g : ℕ) → g < quarter_turn → 5 * entry_at (g / segment + 1) ≤ 5 * reading_of g + 8 * (segment - g % segment) + 5
unfolding way_of
reading_stop g h = omega (arith, reading-inside g h, part_rise _ (gentle (g / segment) (omega arith)) (g % segment) segment)

reading-same : (g h : ℕ) → g < quarter_turn → g / segment ≡ h / segment → 5 * reading_of h ≤ 5 * reading_of g + 8 * (h - g) + 5
unfolding way_of
reading-same g h l e =
    rw (reading-inside g l, reading-inside h (omega arith), ← e)
    (omega (arith, part_rise _ (gentle (g / segment) (omega arith)) (g % segment) (h % segment)))

on-either_side : {P : Type 0} (a b : ℕ) → (a < b → P) → (b ≤ a → P) → P
on-either_side {P} a b h k = on (ltb a b) refl
  where
    on : (t : Bool) → ltb a b ≡ t → P
    on true e = h (ltb-true a b e)
    on false e = k (ltb-false a b e)

-- two readings, in either order
reading_rise : (g h : ℕ) → g ≤ quarter_turn → h ≤ quarter_turn → 5 * reading_of h ≤ 5 * reading_of g + 8 * (h - g) + 5
reading_rise g h m n =
    on-either_side (g / segment) (h / segment)
    (λ l. omega (arith, reading_stop g (omega arith), entries_rise (g / segment + 1) (h / segment) (omega arith) (omega arith), reading-start h n))
    (λ l. ⊎_elim (λ e. placed g m (λ i. reading-same g h i (sym e)) (λ i. let same : h ≡ g = omega arith in rw same (omega arith)))
    (λ k. omega (arith, (reading-between h (omega arith)).below, entries_climb (h / segment + 1) (g / segment) (omega arith) (omega arith), reading-above g m))
    (eq-or-lt_of_le l))

-- ---- in the turn

abbrev half_turn : ℕ
half_turn = 2 * quarter_turn

-- the place in the first quarter that is read at θ, in half j of the turn
bend : ℕ → ℕ → ℕ
bend j θ = min (θ - j * half_turn) (j * half_turn + half_turn - θ)

fold-bend : (j θ : ℕ) → θ / half_turn ≡ j → fold_of θ ≡ bend j θ
unfolding fold_of bend
fold-bend j θ h = on (eqb (quadrant_of θ % 2) 0) refl
  where
    half : quadrant_of θ / 2 ≡ j
    half = omega arith

    on : (t : Bool) → eqb (quadrant_of θ % 2) 0 ≡ t → cond t (θ % quarter_turn) (quarter_turn - θ % quarter_turn) ≡ min (θ - j * half_turn) (j * half_turn + half_turn - θ)
    on true e =
        let quadrant : quadrant_of θ ≡ 2 * j = omega (arith, half, eqb-true (quadrant_of θ % 2) 0 e) in
        omega (arith, div-add-mod θ quarter_turn)
    on false e =
        let quadrant : quadrant_of θ ≡ 2 * j + 1 = omega (arith, half, eqb-false (quadrant_of θ % 2) 0 e) in
        omega (arith, div-add-mod θ quarter_turn)

bend-le : (j θ : ℕ) → bend j θ ≤ quarter_turn
unfolding bend
bend-le j θ = omega arith

-- two such places of one half of the turn are no further apart than the angles
bend-near : (j θ d : ℕ) → j * half_turn ≤ θ → θ + d ≤ j * half_turn + half_turn → (bend j (θ + d) ≤ bend j θ + d) × (bend j θ ≤ bend j (θ + d) + d)
unfolding bend
bend-near j θ d k l = omega arith

-- the lifted sine in the two halves of the turn; its end belongs to the second
up_first : (c θ : ℕ) → θ < half_turn → up c (sine_of (θ % turn)) ≡ c + reading_of (bend 0 θ)
unfolding sine_of
up_first c θ h =
    let here : θ % turn ≡ θ = omega arith in
    let low : quadrant_of θ < 2 = omega arith in
    rw (here, lt-ltb (quadrant_of θ) 2 low, fold-bend 0 θ (omega arith))

inside : (c θ : ℕ) → half_turn ≤ θ → θ < turn → up c (sine_of (θ % turn)) ≡ c - reading_of (bend 1 θ)
unfolding sine_of
inside c θ h l =
    let here : θ % turn ≡ θ = omega arith in
    let high : 2 ≤ quadrant_of θ = omega arith in
    rw (here, le-ltb (quadrant_of θ) 2 high, fold-bend 1 θ (omega arith)) (up_neg c (reading_of (bend 1 θ)))

at-end : (c : ℕ) → up c (sine_of 0) ≡ c - reading_of (bend 1 turn)
unfolding bend
at-end c = rw sine_0 (omega (arith, reading_0))

up_second : (c θ : ℕ) → half_turn ≤ θ → θ ≤ turn → up c (sine_of (θ % turn)) ≡ c - reading_of (bend 1 θ)
up_second c θ h l = ⊎_elim (λ e. rw e (at-end c)) (λ k. inside c θ h k) (eq-or-lt_of_le l)

-- a sine, lifted by one or more, rises over d units by at most 8/5·d and one
pub sine_rise : (c θ φ : ℕ) → quarter_turn ≤ c → θ ≤ φ → φ ≤ turn → 5 * up c (sine_of (φ % turn)) ≤ 5 * up c (sine_of (θ % turn)) + 8 * (φ - θ) + 5
sine_rise c θ φ k h l =
    on-either_side φ half_turn
    (λ f. rw (up_first c θ (omega arith), up_first c φ f)
    (omega (arith, reading_rise (bend 0 θ) (bend 0 φ) (bend-le 0 θ) (bend-le 0 φ), near 0 (omega arith) (omega arith))))
    (λ f. on-either_side θ half_turn
    (λ t. rw (up_first c θ t, up_second c φ f l) (omega arith))
    (λ t. rw (up_second c θ t (omega arith), up_second c φ f l)
    (omega (arith, reading-le (bend 1 θ) (bend-le 1 θ), reading_rise (bend 1 φ) (bend 1 θ) (bend-le 1 φ) (bend-le 1 θ), near 1 t l))))
  where
    far : θ + (φ - θ) ≡ φ
    far = omega arith

    near : (j : ℕ) → j * half_turn ≤ θ → φ ≤ j * half_turn + half_turn → (bend j φ ≤ bend j θ + (φ - θ)) × (bend j θ ≤ bend j φ + (φ - θ))
    near j t m = rw far at (bend-near j θ (φ - θ) t (omega arith))
