-- `instants::show` is safe: what was read is accepted, so its whole numbers are bounded.
use Rattle.std.proofs.Common.{sym, subst}
use Rattle.elements.specs.Rounding.{Bounded}
use Rattle.elements.proofs.Exactly.{read-accepted, read_whole}
use Rattle.elements.proofs.Bounds.{bounded}
use Rattle.instants.proofs.show.Goals as goal

pub rounded-requires : goal.rounded-requires
rounded-requires g c = read-accepted _ _ (sym c.in-Ok.ensures)

pub new-sky-requires : goal.new-sky-requires
new-sky-requires g c = subst Bounded (sym c.rounded.ensures) (bounded _ (read-accepted _ _ (sym c.in-Ok.ensures)))

pub lines-requires : goal.lines-requires
lines-requires g c = read_whole _ _ (sym c.in-Ok.ensures)
