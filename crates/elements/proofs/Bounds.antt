-- The bounds of accepted elements in whole numbers: nearest is monotone, and then the ends of the ranges.
use mathlib.Core.Path.{◌≡◌, refl, sym}
use native.Mathlib.Nat.{le_trans, le_of_eq}
use lib.Dec.{T, lit<}
use lib.Ieee.{Float, round, le}
use lib.Ieee.Fits.{and_l, and_r}
use lib.Ieee.Positive.{positive, between, le→cross}
use Prim.Native.Nat.{◌≤◌}
use Rattle.nearest.specs.Nearest.{metres_of, milliseconds_of, eccentricity_of, most_eccentric, nearest_of, decimal, number}
use Rattle.nearest.proofs.Nearest.{nearest_of_mono}
use Rattle.elements.specs.Field.{period_in}
use Rattle.elements.specs.Accepted.{Accepted}
use Rattle.elements.specs.Rounding.{wholes_of, most_axis, most_radius, Bounded}
use Rattle.elements.specs.declared.reading.Elements.{Elements}
use Rattle.elements.proofs.Range.{at_most, axis_range, eccentricity_range, period_range, radius_range}

-- ---- the ends, computed

axis-most : metres_of (number 250000) ≡ most_axis
unfolding decimal round nearest_of
axis-most = refl

eccentricity-most : eccentricity_of (decimal 95 100) ≡ most_eccentric
unfolding decimal round nearest_of
eccentricity-most = refl

period-least : milliseconds_of (number 60) ≡ 60000
unfolding decimal round nearest_of
period-least = refl

period-most : milliseconds_of (number 2000000) ≡ 2000000000
unfolding decimal round nearest_of
period-most = refl

radius-most : metres_of (number 100000) ≡ most_radius
unfolding decimal round nearest_of
radius-most = refl

-- ---- the period-least period is not 0

no_shorter : (x : Float) → T (period_in x) → milliseconds_of (number 60) ≤ milliseconds_of x
unfolding decimal round
no_shorter x t =
    let a = le (number 60) x in
    let b = le x (number 2000000) in
    let p : T (positive x) = between (number 60) x (number 2000000) tt tt (and_l a b t) (and_r a b t) in
    nearest_of_mono 1000 1 (number 60) x (lit< tt) (le→cross (number 60) x tt p (and_l a b t))

pub bounded : (e : Elements) → Accepted e → Bounded (wholes_of e)
unfolding wholes_of
bounded e a =
    record {
      axis = le_trans (at_most 1000 1 (lit< tt) (axis_range e.axis a.axis_in_lem)) (le_of_eq axis-most);
      eccentricity = le_trans (at_most _ 1 (lit< tt) (eccentricity_range e.eccentricity a.eccentricity_in_lem)) (le_of_eq eccentricity-most);
      short = le_trans (le_of_eq (sym period-least)) (no_shorter e.period a.period_in_lem);
      long = le_trans (at_most 1000 1 (lit< tt) (period_range e.period a.period_in_lem)) (le_of_eq period-most);
      radius = le_trans (at_most 1000 1 (lit< tt) (radius_range e.radius a.radius_in_lem)) (le_of_eq radius-most);
    }
