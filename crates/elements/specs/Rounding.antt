-- The elements in whole numbers (document 01, "From floats to whole numbers").
use Rattle.std.specs.Prelude.{ℕ, ◌≤◌, Float}
use Rattle.nearest.specs.Nearest.{metres_of, milliseconds_of, eccentricity_of, most_eccentric}
use Rattle.angle.specs.Turn.{degrees_of}
use Rattle.angle.specs.declared.Angle.{Angle}
use Rattle.elements.specs.declared.reading.Elements.{Elements}
use Rattle.elements.specs.declared.rounding.Wholes.{Wholes}

-- an angle in degrees
abbrev pub angle_of : Float → Angle
angle_of x = record { units = degrees_of x }

-- lengths in metres, the period in ms, e in units of 2^-30, angles in units of 2^-32 turns
unfoldable pub wholes_of : Elements → Wholes
wholes_of e =
    record {
      axis = metres_of e.axis;
      eccentricity = eccentricity_of e.eccentricity;
      inclination = angle_of e.inclination;
      node = angle_of e.node;
      periapsis = angle_of e.periapsis;
      period = milliseconds_of e.period;
      radius = metres_of e.radius;
      ascension = angle_of e.ascension;
      declination = angle_of e.declination;
      latitude = angle_of e.latitude;
      longitude = angle_of e.longitude;
      greenwich = angle_of e.greenwich;
      elevation = angle_of e.elevation;
    }

-- the longest semimajor axis and the largest planet radius, in metres (document 01, fields 1 and 7)
abbrev pub most_axis : ℕ
most_axis = 250000000

abbrev pub most_radius : ℕ
most_radius = 100000000

-- the bounds of accepted elements in whole numbers (proofs/Bounds.antt)
pub record Bounded (w : Wholes) : Type 0 where
  pub axis : w.axis ≤ most_axis
  pub eccentricity : w.eccentricity ≤ most_eccentric
  pub short : 60000 ≤ w.period
  pub long : w.period ≤ 2000000000
  pub radius : w.radius ≤ most_radius
