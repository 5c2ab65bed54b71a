-- How many intervals a list has at most, and how many instants are asked: by induction over the samples.
use Prim.Native.Nat.{ℕ, ◌+◌, ◌*◌, ◌≤◌}
use mathlib.Core.Path.{◌≡◌, refl}
use mathlib.Core.List.{List, [], ◌∷◌}
use mathlib.Core.Bool.{Bool, true, false, cond, not, ◌&&◌}
use native.Mathlib.Omega.{arith}
use lib.ListN.{length, length-append}
use Rattle.finder.specs.declared.Window.{Window}
use Rattle.finder.specs.Samples.{ceil_div, steps_of, samples}
use Rattle.finder.specs.Spans.{span, same_as, edge, closed_in, first_after, ended, walk, list_of}
use Rattle.finder.specs.Asked.{middles_in, asked_after, instants_of, changes_in, changes_of}
use Rattle.finder.proofs.OneStep.{edge-most, middles-same, middles-differ}
use Rattle.finder.proofs.Samples.{length-samples}

-- ---- intervals

one_if : Bool → ℕ
one_if true = 1
one_if false = 0

one_if_most : (x : Bool) → one_if x ≤ 1
unfolding one_if
one_if_most true = omega arith
one_if_most false = omega arith

-- a step closes an interval only from yes to no
closed_most : (f : ℕ → Bool) (first a b : ℕ) → 2 * length (closed_in f first a b) + one_if (f b) ≤ 1 + one_if (f a)
unfolding one_if closed_in
closed_most f first a b = by (f a) (f b)
  where
    by : (x y : Bool) → 2 * length (cond (x && not y) (span first (edge f a b).low ∷ []) []) + one_if y ≤ 1 + one_if x
    by true true = omega arith
    by true false = omega arith
    by false true = omega arith
    by false false = omega arith

ended-most : (was : Bool) (first a : ℕ) → 2 * length (ended was first a) ≤ 1 + one_if was
unfolding one_if
ended-most true first a = omega arith
ended-most false first a = omega arith

walk-most : (f : ℕ → Bool) (first a : ℕ) (ts : List ℕ) → 2 * length (walk f first a ts) ≤ length ts + 1 + one_if (f a)
unfolding walk
walk-most f first a [] = omega (arith, ended-most (f a) first a)
walk-most f first a (b ∷ ts) =
    rw length-append (omega (arith, closed_most f first a b, walk-most f (first_after f first a b) b ts))

-- at most ceil((n+1)/2) intervals, n steps
pub list-most : (f : ℕ → Bool) (w : Window) → length (list_of f w) ≤ ceil_div (steps_of w + 1) 2
unfolding list_of samples
list-most f w =
    omega
    (arith, walk-most f w.t0 w.t0 (samples w), length-samples w 1 (steps_of w), one_if_most (f w.t0))

-- ---- instants

-- a step asks at most 20 middles, and none where its ends agree
middles-few : (f : ℕ → Bool) (a b : ℕ) → length (middles_in f a b) ≤ 20 * cond (same_as f a b) 0 1
middles-few f a b = by (same_as f a b) refl
  where
    by : (t : Bool) → same_as f a b ≡ t → length (middles_in f a b) ≤ 20 * cond t 0 1
    by true e = omega (arith, middles-same f a b e)
    by false e = omega (arith, edge-most f a b, middles-differ f a b e)

asked-few : (f : ℕ → Bool) (a : ℕ) (ts : List ℕ) → length (asked_after f a ts) ≤ length ts + 20 * changes_in f a ts
unfolding asked_after changes_in
asked-few f a [] = omega arith
asked-few f a (b ∷ ts) = rw length-append (omega (arith, middles-few f a b, asked-few f b ts))

-- the samples, and 20 at most for each step whose ends differ
pub instants-most : (f : ℕ → Bool) (w : Window) → length (instants_of f w) ≤ steps_of w + 1 + 20 * changes_of f w
unfolding instants_of changes_of samples
instants-most f w = omega (arith, asked-few f w.t0 (samples w), length-samples w 1 (steps_of w))

changes-most : (f : ℕ → Bool) (a : ℕ) (ts : List ℕ) → changes_in f a ts ≤ length ts
unfolding changes_in
changes-most f a [] = omega arith
changes-most f a (b ∷ ts) = omega (arith, one-most (same_as f a b), changes-most f b ts)
  where
    one-most : (t : Bool) → cond t 0 1 ≤ 1
    one-most true = omega arith
    one-most false = omega arith

-- so at most 21 a step, and one
pub instants-few : (f : ℕ → Bool) (w : Window) → length (instants_of f w) ≤ 1 + 21 * steps_of w
unfolding changes_of samples
instants-few f w = omega (arith, instants-most f w, changes-most f w.t0 (samples w), length-samples w 1 (steps_of w))
