-- The place at an instant (document 01, "Place in the orbit").
use Rattle.std.specs.Prelude.{ℕ, pos, ◌-ℤ◌}
use Rattle.fixed.specs.Scaled.{◌∘◌}
use Rattle.sine.specs.Sine.{sine_of, cosine_of}
use Rattle.kepler.specs.Kepler.{phase_of, kepler_of}
use Rattle.geometry.specs.declared.Orbit.{Orbit}
use Rattle.geometry.specs.declared.Place.{Place}

-- M
unfoldable pub mean_of : Orbit → ℕ → ℕ
mean_of o t = phase_of o.ellipse.period t

-- E, of M
unfoldable pub anomaly_of : Orbit → ℕ → ℕ
anomaly_of o t = kepler_of o.ellipse.eccentricity (mean_of o t)

-- X = a∘(cos E − e), Y = (a∘q)∘sin E. Source 002's equation (9) prints cos E + e; its listing, X=A*(DCOS(E)-EPS), has minus
unfoldable pub place_of : Orbit → ℕ → Place
place_of o t =
    let l = o.ellipse in
    let E = anomaly_of o t in
    record { x = l.axis ∘ (cosine_of E -ℤ pos l.eccentricity); y = l.minor ∘ sine_of E }
