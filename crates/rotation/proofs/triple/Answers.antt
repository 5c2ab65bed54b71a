-- `rotation::triple` meets its contract: two products of numbers of at most one, from the left.
use Rattle.fixed.proofs.Machine.{held, back, unit-is}
use Rattle.rotation.proofs.Stored.{two}
use Rattle.rotation.proofs.triple.Goals as goal

pub returns : goal.returns
returns c =
    let inner = two c.unit.ensures c.requires.0 c.requires.1 in
    held (unit-is c.unit-2.ensures inner.is (back c.requires.2 tt)) tt
