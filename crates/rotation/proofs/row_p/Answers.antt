-- `rotation::row_p` meets its contract, entry by entry: what is read back is what was stored.
use Rattle.fixed.proofs.Machine.{held, sum, difference}
use Rattle.rotation.specs.Rotation.{row_p}
use Rattle.rotation.proofs.Stored.{two, three, entries}
use Rattle.rotation.proofs.row_p.Goals as goal

pub returns : goal.returns
unfolding row_p
returns c =
    let ω = c.peri.invariant in
    let Ω = c.node.invariant in
    let i = c.incl.invariant in
    rw (← c.peri.view_is, ← c.node.view_is, ← c.incl.view_is)
    (entries (row_p _ _ _)
    (held (difference (two c.unit.ensures ω.cos Ω.cos) (three c.triple.ensures ω.sin Ω.sin i.cos)) tt).is
    (held (sum (two c.unit-2.ensures ω.cos Ω.sin) (three c.triple-2.ensures ω.sin Ω.cos i.cos)) tt).is
    (two c.unit-3.ensures ω.sin i.sin).is)
