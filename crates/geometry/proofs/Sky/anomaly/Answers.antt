-- `Sky::anomaly` meets its contract: it is that of M.
use mathlib.Core.Path.{ap, ◌∙◌}
use Prim.Native.Nat.{ℕ}
use Rattle.kepler.specs.Kepler.{kepler_of}
use Rattle.geometry.specs.Placed.{mean_of, anomaly_of}
use Rattle.geometry.proofs.Sky.anomaly.Goals as goal

pub returns : goal.returns
unfolding anomaly_of mean_of
returns c = rw (← c.self.view_is) (c.eccentric.ensures ∙ ap (λ (M : ℕ). kepler_of c.self.inside.orbit.ellipse.eccentricity M) c.phase-m.ensures)
