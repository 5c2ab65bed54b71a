-- What a `Sky` keeps, and what a place of it is: the orbit's numbers are as small as those of accepted elements (`orbit_sound` in
-- proofs/Bounds.antt gives it of what `Sky::new` made). No rule of document 01.
use Rattle.std.specs.Prelude.{ℕ, ◌*◌, ◌≤◌}
use Rattle.fixed.specs.Scaled.{one}
use Rattle.fixed.specs.Within.{Within, Small, Entries}
use Rattle.elements.specs.Rounding.{most_axis, most_radius}
use Rattle.kepler.specs.Kepler.{Period, Eccentricity}
use Rattle.rotation.specs.CosSin.{UnitTurn}
use Rattle.geometry.specs.declared.Ellipse.{Ellipse}
use Rattle.geometry.specs.declared.Body.{Body}
use Rattle.geometry.specs.declared.Station.{Station}
use Rattle.geometry.specs.declared.Orbit.{Orbit}
use Rattle.geometry.specs.declared.Place.{Place}

-- the farthest d: five times the X of at most 2a, and five times the Y of at most a
abbrev pub deepest : ℕ
deepest = 15 * most_axis

-- a and a∘q of at most the longest a, e and the period as Kepler's search asks, R² of at most the largest R's
pub record SoundEllipse (l : Ellipse) : Type 0 where
  pub axis : Within l.axis most_axis
  pub eccentricity : Eccentricity l.eccentricity
  pub minor : Within l.minor most_axis
  pub period : Period l.period
  pub radius : l.radius2 ≤ most_radius * most_radius

-- Ep and Eq of at most five, E's entries of at most one
pub record SoundBody (b : Body) : Type 0 where
  pub p : Within b.p (5 * one)
  pub q : Within b.q (5 * one)
  pub toward : Entries b.toward one

-- the latitude's turn and the sine of field 13, of at most one
pub record SoundStation (s : Station) : Type 0 where
  pub latitude : UnitTurn s.latitude
  pub least : Small s.least

-- its three parts are sound
pub record SoundOrbit (o : Orbit) : Type 0 where
  pub ellipse : SoundEllipse o.ellipse
  pub body : SoundBody o.body
  pub station : SoundStation o.station

-- a place of a sound orbit
pub record InOrbit (o : Orbit) (a : Place) : Type 0 where
  pub orbit : SoundOrbit o
  pub x : Within a.x (2 * most_axis)
  pub y : Within a.y most_axis
