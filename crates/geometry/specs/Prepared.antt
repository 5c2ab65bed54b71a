-- What is fixed for a job (document 01, "Place in the orbit" and "Hidden and visible"): the ellipse, the far body, the station.
use Rattle.std.specs.Prelude.{List, ◌*◌, ◌-◌, ◌^◌, ℤ, pos}
use Rattle.fixed.specs.Scaled.{◌∘◌, dot_of}
use Rattle.fixed.specs.Root.{root_of}
use Rattle.angle.specs.Turn.{add_of}
use Rattle.sine.specs.Sine.{sine_of}
use Rattle.elements.specs.declared.rounding.Wholes.{Wholes}
use Rattle.rotation.specs.Rotation.{turn_of, direction_of, rotation_of_of, row_of}
use Rattle.geometry.specs.declared.Ellipse.{Ellipse}
use Rattle.geometry.specs.declared.Body.{Body}
use Rattle.geometry.specs.declared.Station.{Station}
use Rattle.geometry.specs.declared.Orbit.{Orbit}

-- a∘q, with q the whole square root of 2^60 − e². An e is below one (`Eccentricity`), so ℕ's minus cuts nothing off (`square-below`
-- in proofs/Bounds.antt)
unfoldable pub minor_of : Wholes → ℤ
minor_of w =
    let e = w.eccentricity in
    let q = root_of (2 ^ 60 - e * e) in
    pos w.axis ∘ pos q

-- a, e, a∘q, p and R²
unfoldable pub ellipse_of : Wholes → Ellipse
ellipse_of w = record {
  axis = pos w.axis;
  eccentricity = w.eccentricity;
  minor = minor_of w;
  period = w.period;
  radius2 = w.radius * w.radius;
}

-- the rotation of ω, Ω and i: three rows of three numbers, built once for a job
unfoldable pub rotation_for : Wholes → List (List ℤ)
rotation_for w = rotation_of_of (turn_of w.periapsis.units) (turn_of w.node.units) (turn_of w.inclination.units)

-- body direction (Ex, Ey, Ez)
unfoldable pub toward_of : Wholes → List ℤ
toward_of w = direction_of (turn_of w.ascension.units) (turn_of w.declination.units)

-- Ep is the sum of P's entries each ∘ E's; Eq likewise. P and Q are rows 0 and 1 of the rotation
unfoldable pub body_of : Wholes → Body
body_of w =
    let m = rotation_for w in
    let E = toward_of w in
    record { p = dot_of (row_of m 0) E; q = dot_of (row_of m 1) E; toward = E }

-- the turn of the latitude, longitude + Greenwich, and the sine of field 13
unfoldable pub station_of : Wholes → Station
station_of w = record {
  latitude = turn_of w.latitude.units;
  meridian = record { units = add_of w.longitude.units w.greenwich.units };
  least = sine_of w.elevation.units;
}

-- the three together: all that an instant's answer needs beside the instant
unfoldable pub orbit_of : Wholes → Orbit
orbit_of w = record { ellipse = ellipse_of w; body = body_of w; station = station_of w }
