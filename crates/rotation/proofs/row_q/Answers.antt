-- `rotation::row_q` meets its contract, entry by entry: what is read back is what was stored.
use Rattle.fixed.proofs.Machine.{held, sum, difference, negation}
use Rattle.rotation.specs.Rotation.{row_q}
use Rattle.rotation.proofs.Stored.{two, three, entries}
use Rattle.rotation.proofs.row_q.Goals as goal

pub returns : goal.returns
unfolding row_q
returns c =
    let ω = c.peri.invariant in
    let Ω = c.node.invariant in
    let i = c.incl.invariant in
    rw (← c.peri.view_is, ← c.node.view_is, ← c.incl.view_is)
    (entries (row_q _ _ _)
    (held (difference (held (negation (two c.unit.ensures ω.sin Ω.cos)) tt) (three c.triple.ensures ω.cos Ω.sin i.cos)) tt).is
    (held (sum (held (negation (two c.unit-2.ensures ω.sin Ω.sin)) tt) (three c.triple-2.ensures ω.cos Ω.cos i.cos)) tt).is
    (two c.unit-3.ensures ω.cos i.sin).is)
