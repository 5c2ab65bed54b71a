-- The contracts of the public functions, as the check reads them off the source, leave one answer only: each is an equation.
use Rattle.determined.specs.Determined.{OneResult, OneList, by_value}
use Rattle.interval.proofs.write.Kinds as write
use Rattle.interval.proofs.write.Reads as write-reads
use Rattle.interval.proofs.read.Kinds as read
use Rattle.interval.proofs.read.Reads as read-reads

pub write_only : OneList 1 write.ps write.r (λ κs s. s.0.now) write-reads.Post
write_only κs a x y s t p q = by_value _ p q

pub read_only : OneResult 1 read.ps read.r read-reads.Post
read_only κs a x y s t p q = by_value _ p q
