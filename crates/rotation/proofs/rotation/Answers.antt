-- `rotation::rotation` meets its contract, row by row.
use Rattle.rotation.specs.Rotation.{rotation_of_of}
use Rattle.rotation.proofs.Stored.{row}
use Rattle.rotation.proofs.rotation.Goals as goal

pub returns : goal.returns
unfolding rotation_of_of
returns c = row c.row_p.ensures c.row_q.ensures c.row_w.ensures
