-- `rotation::direction` meets its contract, entry by entry: what is read back is what was stored.
use Rattle.fixed.proofs.Machine.{back}
use Rattle.rotation.specs.Rotation.{direction_of}
use Rattle.rotation.proofs.Stored.{two, entries}
use Rattle.rotation.proofs.direction.Goals as goal

pub returns : goal.returns
unfolding direction_of
returns c =
    let α = c.ascension.invariant in
    let δ = c.declination.invariant in
    rw (← c.ascension.view_is, ← c.declination.view_is)
    (entries (direction_of _ _) (two c.unit.ensures δ.cos α.cos).is (two c.unit-2.ensures δ.cos α.sin).is (back δ.sin tt))
