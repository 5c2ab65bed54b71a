-- `Equation::moves` meets its contract: both sides of the test are the numbers that they stand for.
use Prim.Native.Nat.{◌≤◌}
use native.Mathlib.Omega.{arith}
use Rattle.fixed.proofs.Machine.{held, compared}
use Rattle.angle.specs.Turn.{turn}
use Rattle.kepler.specs.Kepler.{reached}
use Rattle.kepler.proofs.Stored.{natural}
use Rattle.kepler.proofs.EquationSearch.moves.Goals as goal

pub returns : goal.returns
unfolding reached
returns c =
    let small : c.args.self.now.mean.units ≤ turn = omega arith in
    compared (held c.k.ensures tt).is (natural c.from.ensures small tt).is
