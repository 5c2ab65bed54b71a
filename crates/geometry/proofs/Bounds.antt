-- Bounds, part by part: what is fixed for a job is as small as the whole numbers make it, and so is a place, d, and the station's rise.
use mathlib.Core.Path.{◌≡◌, sym, subst}
use Prim.Native.Nat.{ℕ, ◌+◌, ◌*◌, ◌-◌, ◌^◌, ◌≤◌, ◌<◌}
use native.Mathlib.Nat.{le_trans, mul-le-mul}
use native.Mathlib.Omega.{arith}
use lib.Dec.{lit≤, lit<}
use lib.IntN.{pos}
use Rattle.fixed.specs.Scaled.{one, dot_of}
use Rattle.fixed.specs.Within.{Within, Small, Entries}
use Rattle.fixed.specs.Root.{root_of}
use Rattle.fixed.proofs.Within.{small, scaled-within, add-within, dot-within}
use Rattle.fixed.proofs.Roots.{root-le}
use Rattle.sine.proofs.Laws.{sine-small, cosine-small}
use Rattle.elements.specs.declared.rounding.Wholes.{Wholes}
use Rattle.elements.specs.Rounding.{most_axis, Bounded}
use Rattle.kepler.specs.Kepler.{Eccentricity}
use Rattle.rotation.specs.Rotation.{row_of}
use Rattle.rotation.proofs.Rows.{turn-unit, Row, direction-entries, row-dot, plane_row}
use Rattle.geometry.specs.declared.Orbit.{Orbit}
use Rattle.geometry.specs.declared.Place.{Place}
use Rattle.geometry.specs.Sound.{deepest, SoundEllipse, SoundBody, SoundStation, SoundOrbit, InOrbit}
use Rattle.geometry.specs.Prepared.{minor_of, ellipse_of, rotation_for, toward_of, body_of, station_of, orbit_of}
use Rattle.geometry.specs.Placed.{anomaly_of, place_of}
use Rattle.geometry.specs.Hidden.{depth_of}
use Rattle.geometry.specs.Visible.{τOf, zenith_of}

-- ---- what is fixed for a job

-- a root of at most one squared is at most one: q is
pub root-small : (n : ℕ) → n ≤ 2 ^ 60 → Small (pos (root_of n))
root-small n h = record { within = root-le n one h }

-- e is below one, so its square is below that of one, and nothing is cut off 2^60 − e²
pub square-below : (e : ℕ) → Eccentricity e → e * e < 2 ^ 60
square-below e h = omega (arith, mul-le-mul h h)

minor-within : {w : Wholes} → Bounded w → Within (minor_of w) most_axis
unfolding minor_of
minor-within {w} h =
    scaled-within {a = pos w.axis} most_axis (record { within = h.axis }) (root-small (2 ^ 60 - w.eccentricity * w.eccentricity) (omega arith)) (lit≤ tt)

ellipse_sound : {w : Wholes} → Bounded w → SoundEllipse (ellipse_of w)
unfolding ellipse_of
ellipse_sound h =
    record {
      axis = record { within = h.axis };
      eccentricity = h.eccentricity;
      minor = minor-within h;
      period = omega arith;
      radius = mul-le-mul h.radius h.radius;
    }

pub toward-entries : (w : Wholes) → Entries (toward_of w) one
unfolding toward_of
toward-entries w = direction-entries (turn-unit w.ascension.units) (turn-unit w.declination.units)

-- rows P and Q
pub row_within : (w : Wholes) (k : ℕ) → k < 2 → Row (row_of (rotation_for w) k)
unfolding rotation_for
row_within w k h = plane_row (turn-unit w.periapsis.units) (turn-unit w.node.units) (turn-unit w.inclination.units) k h

body_sound : (w : Wholes) → SoundBody (body_of w)
unfolding body_of
body_sound w =
    record {
      p = row-dot (row_within w 0 (lit< tt)) (toward-entries w);
      q = row-dot (row_within w 1 (lit< tt)) (toward-entries w);
      toward = toward-entries w;
    }

station_sound : (w : Wholes) → SoundStation (station_of w)
unfolding station_of
station_sound w = record { latitude = turn-unit w.latitude.units; least = sine-small w.elevation.units }

pub orbit_sound : {w : Wholes} → Bounded w → SoundOrbit (orbit_of w)
unfolding orbit_of
orbit_sound {w} h = record { ellipse = ellipse_sound h; body = body_sound w; station = station_sound w }

-- and so is what `Sky::new` is given as its orbit
pub prepared : {w : Wholes} {o : Orbit} → Bounded w → o ≡ orbit_of w → SoundOrbit o
prepared h e = subst SoundOrbit (sym e) (orbit_sound h)

-- ---- at an instant

place_sound : {o : Orbit} → SoundOrbit o → (t : ℕ) → InOrbit o (place_of o t)
unfolding place_of
place_sound {o} h t =
    let e-small : Small (pos o.ellipse.eccentricity) = record { within = le_trans h.ellipse.eccentricity (lit≤ tt) } in
    record {
      orbit = h;
      x = scaled-within {n = 2 * one} (2 * most_axis) h.ellipse.axis (search (small, cosine-small)) (lit≤ tt);
      y = scaled-within most_axis h.ellipse.minor (sine-small (anomaly_of o t)) (lit≤ tt);
    }

-- what `Sky::place` gave may be handed to `Sky::depth`: the law for callers
pub placed : {o : Orbit} {a : Place} (t : ℕ) → SoundOrbit o → a ≡ place_of o t → InOrbit o a
placed {o = o} t h e = subst (InOrbit o) (sym e) (place_sound h t)

pub depth-within : {o : Orbit} {a : Place} → InOrbit o a → Within (depth_of o a) deepest
unfolding depth_of
depth-within h =
    add-within
    (scaled-within (10 * most_axis) h.x h.orbit.body.p (lit≤ tt))
    (scaled-within (5 * most_axis) h.y h.orbit.body.q (lit≤ tt))

pub zenith-entries : {o : Orbit} → SoundOrbit o → (t : ℕ) → Entries (zenith_of o t) one
unfolding zenith_of
zenith-entries {o} h t = direction-entries (turn-unit (τOf o t)) h.station.latitude

-- u's entries each ∘ E's
pub rise_within : {o : Orbit} → SoundOrbit o → (t : ℕ) → Within (dot_of (zenith_of o t) o.body.toward) (one + one + one)
rise_within h t = dot-within one (zenith-entries h t) h.body.toward (lit≤ tt)
