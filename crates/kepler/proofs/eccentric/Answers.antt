-- `kepler::eccentric` meets its contract: what is left of the search, made in the cell that is sure, ends where the whole one does.
use mathlib.Core.Path.{◌≡◌}
use Prim.Native.Nat.{◌<◌}
use native.Mathlib.Omega.{arith}
use Rattle.angle.specs.Turn.{turn}
use Rattle.kepler.specs.Kepler.{kepler_of}
use Rattle.kepler.proofs.Shortcut.{found}
use Rattle.kepler.proofs.eccentric.Goals as goal
use Rattle.kepler.proofs.eccentric.Goals.{After-halve-edge}

edge_is : (c : After-halve-edge) → (c.halve-edge.result.low ≡ kepler_of c.args.e c.args.m.units) × (c.halve-edge.result.low < turn)
edge_is c =
    let on = c.sure_cell-c.ensures.1 in
    found on (c.halve-edge.ensures _ (omega (arith, on.wide)))

pub overflow_cast-units : goal.overflow_cast-units
overflow_cast-units c = record { fits = omega (arith, (edge_is (goal.at.overflow_cast-units c).After-halve-edge).1) }

pub returns : goal.returns
returns c = (edge_is (goal.at.returns c).After-halve-edge).0
