-- The contracts of the public functions, as the check reads them off the source, leave one answer and one lent summary only: each is an equation.
use Rattle.determined.specs.Determined.{OneResult, OneList, by_value}
use Rattle.days.proofs.FaultFromRefusal.from.Kinds as from
use Rattle.days.proofs.FaultFromRefusal.from.Reads as from-reads
use Rattle.days.proofs.told.Kinds as told
use Rattle.days.proofs.told.Reads as told-reads
use Rattle.days.proofs.summary.Kinds as summary
use Rattle.days.proofs.summary.Reads as summary-reads
use Rattle.days.proofs.append.Kinds as append
use Rattle.days.proofs.append.Reads as append-reads

-- the job's own refusal as the reason
pub from_only : OneResult 0 from.ps from.r from-reads.Post
from_only κs a x y s t p q = by_value _ p q

pub told_only : OneResult 0 told.ps told.r told-reads.Post
told_only κs a x y s t p q = by_value _ p q

pub summary_only : OneResult 3 summary.ps summary.r summary-reads.Post
summary_only κs a x y s t p q = by_value _ p.0 q.0

pub summary-bytes_only : OneList 3 summary.ps summary.r (λ κs s. s.1.1.0.now) summary-reads.Post
summary-bytes_only κs a x y s t p q = by_value _ p.1 q.1

pub append_only : OneResult 4 append.ps append.r append-reads.Post
append_only κs a x y s t p q = by_value _ p.0 q.0

pub append-bytes_only : OneList 4 append.ps append.r (λ κs s. s.1.1.1.0.now) append-reads.Post
append-bytes_only κs a x y s t p q = by_value _ p.1 q.1
