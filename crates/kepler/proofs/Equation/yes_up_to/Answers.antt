-- `Equation::yes_up_to` meets its contract: up to 0 there is nothing, and else by the law that K falls by at most 2.
use mathlib.Core.Path.{sym, ◌∙◌}
use native.Mathlib.Nat.{le_of_lt}
use native.Mathlib.Omega.{arith}
use lib.Dec.{lit≤}
use Rattle.fixed.proofs.Machine.{held, compared}
use Rattle.kepler.proofs.Keeps.{yes_up_to}
use Rattle.kepler.specs.Shortcut.{InTurn}
use Rattle.kepler.proofs.Stored.{natural, more}
use Rattle.kepler.proofs.Equation.yes_up_to.Goals as goal

pub returns-else-low-eq0 : goal.returns-else-low-eq0
returns-else-low-eq0 c t =
    let q = c.args.self.now in
    let below : InTurn q.mean.units = omega arith in
    let left = held (more _ (held c.k.ensures tt)) tt in
    yes_up_to q.eccentricity q.bounded _ _ below (lit≤ tt) (lit≤ tt) _ c.requires (sym (compared left.is (natural c.from-mean.ensures (le_of_lt below) tt).is) ∙ t)
