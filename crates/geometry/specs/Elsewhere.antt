-- Other stations and other turns, for the law that question 1 uses neither (document 02, wish 2: question 1's lists don't change).
use Rattle.std.specs.Prelude.{ℕ}
use Rattle.angle.specs.Turn.{negate_of, add_of}
use Rattle.geometry.specs.declared.Station.{Station}
use Rattle.geometry.specs.declared.Orbit.{Orbit}
use Rattle.geometry.specs.Visible.{term_at}

-- the orbit with another station
abbrev pub seen_from : Station → Orbit → Orbit
seen_from s o = record { ellipse = o.ellipse; body = o.body; station = s }

-- the station as it is at t by another turn, whose term there is `term`: its meridian has that more, and its own term less (`turned_τ` in proofs/Elsewhere.antt)
abbrev pub turned_by : ℕ → ℕ → Station → Station
turned_by term t s = record {
  latitude = s.latitude;
  meridian = record { units = add_of (add_of s.meridian.units term) (negate_of (term_at t)) };
  least = s.least;
}
