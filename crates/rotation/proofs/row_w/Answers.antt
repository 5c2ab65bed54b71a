-- `rotation::row_w` meets its contract, entry by entry: what is read back is what was stored.
use Rattle.fixed.proofs.Machine.{held, back, negation}
use Rattle.rotation.specs.Rotation.{row_w}
use Rattle.rotation.proofs.Stored.{two, entries}
use Rattle.rotation.proofs.row_w.Goals as goal

pub returns : goal.returns
unfolding row_w
returns c =
    let Ω = c.node.invariant in
    let i = c.incl.invariant in
    rw (← c.node.view_is, ← c.incl.view_is)
    (entries (row_w _ _) (two c.unit.ensures Ω.sin i.sin).is (held (negation (two c.unit-2.ensures Ω.cos i.sin)) tt).is (back i.cos tt))
