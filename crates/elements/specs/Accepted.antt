-- What holds of elements that were read: every field is accepted, and the closest distance is above R (document 01, "What the desk feeds and gets").
use Rattle.std.specs.Prelude.{T}
use Rattle.std.specs.Float.Ieee.{lt}
use Rattle.elements.specs.Field.{axis_in, eccentricity_in, inclination_in, turn_in, period_in, radius_in, latitude_in, elevation_in}
use Rattle.elements.specs.Closest.{closest_of}
use Rattle.elements.specs.declared.reading.Elements.{Elements}

pub record Accepted (e : Elements) : Type 0 where
  pub axis_in_lem : T (axis_in e.axis)
  pub eccentricity_in_lem : T (eccentricity_in e.eccentricity)
  pub inclination_in_lem : T (inclination_in e.inclination)
  pub node_in : T (turn_in e.node)
  pub periapsis_in : T (turn_in e.periapsis)
  pub period_in_lem : T (period_in e.period)
  pub radius_in_lem : T (radius_in e.radius)
  pub ascension_in : T (turn_in e.ascension)
  pub declination_in : T (latitude_in e.declination)
  pub latitude_in_lem : T (latitude_in e.latitude)
  pub longitude_in : T (turn_in e.longitude)
  pub greenwich_in : T (turn_in e.greenwich)
  pub elevation_in_lem : T (elevation_in e.elevation)
  pub clear : T (lt e.radius (closest_of e.axis e.eccentricity))
