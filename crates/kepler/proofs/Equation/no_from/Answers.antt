-- `Equation::no_from` meets its contract: from a turn on there is nothing, and else by the law that K falls by at most 2.
use mathlib.Core.Path.{sym, ◌∙◌}
use native.Mathlib.Nat.{le_of_lt}
use native.Mathlib.Omega.{arith}
use lib.Dec.{lit≤}
use Rattle.fixed.proofs.Machine.{held, compared_less}
use Rattle.kepler.proofs.Keeps.{no_from}
use Rattle.kepler.specs.Shortcut.{InTurn}
use Rattle.kepler.proofs.Stored.{natural, more}
use Rattle.kepler.proofs.Equation.no_from.Goals as goal

pub returns-else-high-eq-TURN : goal.returns-else-high-eq-TURN
returns-else-high-eq-TURN c t =
    let q = c.args.self.now in
    let below : InTurn q.mean.units = omega arith in
    let left = held (more _ (natural c.from-mean.ensures (le_of_lt below) tt)) tt in
    no_from q.eccentricity q.bounded _ _ below (lit≤ tt) (lit≤ tt) _ (sym (compared_less left.is (held c.k.ensures tt).is) ∙ t)
