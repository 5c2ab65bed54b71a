-- `Equation::sure_cell` meets its contract: the first cell whose ends settle all outside, or the turn.
use borrow.Author.Rules.{rules}
use Rattle.kepler.proofs.Shortcut.{goes_on, whole}
use Rattle.kepler.proofs.Equation.sure_cell.Goals as goal

pub returns-then-no_from : goal.returns-then-no_from
returns-then-no_from c =
    let lower = c.yes_up_to.ensures c.if-yes_up_to.true in
    let upper = c.no_from.ensures c.if-no_from.true in
    (_, goes_on c.args.g _ c.ranges.g.fits (search rules) c.cell-c.ensures _ _ lower upper)

pub returns : goal.returns
returns c = (32, whole _ _)
