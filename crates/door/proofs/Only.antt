-- The contracts of the door, as the check reads them off the source, leave one answer, one lent buffer and one answer's bytes only: each is an equation.
use Rattle.determined.specs.Determined.{OneResult, OneList, by_value}
use Rattle.door.proofs.AnswerFromResultFoundRefusal.from.Kinds as from-outcome
use Rattle.door.proofs.AnswerFromResultFoundRefusal.from.Reads as from-outcome-reads
use Rattle.door.proofs.AnswerFromResultUsizeFault.from.Kinds as from-totals
use Rattle.door.proofs.AnswerFromResultUsizeFault.from.Reads as from-totals-reads
use Rattle.door.proofs.quechotzal_list.Kinds as quechotzal-list
use Rattle.door.proofs.quechotzal_list.Reads as quechotzal-list-reads
use Rattle.door.proofs.quechotzal_days.Kinds as quechotzal-days
use Rattle.door.proofs.quechotzal_days.Reads as quechotzal-days-reads
use Rattle.door.proofs.quechotzal_append.Kinds as quechotzal-append
use Rattle.door.proofs.quechotzal_append.Reads as quechotzal-append-reads

-- what came of a job, in numbers
pub from-outcome_only : OneResult 0 from-outcome.ps from-outcome.r from-outcome-reads.Post
from-outcome_only κs a x y s t p q = by_value _ p q

-- and of its totals
pub from-totals_only : OneResult 0 from-totals.ps from-totals.r from-totals-reads.Post
from-totals_only κs a x y s t p q = by_value _ p q

pub quechotzal_list_only : OneResult 3 quechotzal-list.ps quechotzal-list.r quechotzal-list-reads.Post
quechotzal_list_only κs a x y s t p q = by_value _ p.0 q.0

pub quechotzal_list_bytes_only : OneList 3 quechotzal-list.ps quechotzal-list.r (λ κs s. s.1.0.now) quechotzal-list-reads.Post
quechotzal_list_bytes_only κs a x y s t p q = by_value _ p.1.0 q.1.0

pub quechotzal_list_answer_only : OneList 3 quechotzal-list.ps quechotzal-list.r (λ κs s. s.1.1.0.now) quechotzal-list-reads.Post
quechotzal_list_answer_only κs a x y s t p q = by_value _ p.1.1.0 q.1.1.0

pub quechotzal_days_only : OneResult 4 quechotzal-days.ps quechotzal-days.r quechotzal-days-reads.Post
quechotzal_days_only κs a x y s t p q = by_value _ p.0 q.0

pub quechotzal_days_bytes_only : OneList 4 quechotzal-days.ps quechotzal-days.r (λ κs s. s.1.1.0.now) quechotzal-days-reads.Post
quechotzal_days_bytes_only κs a x y s t p q = by_value _ p.1.0 q.1.0

pub quechotzal_days_answer_only : OneList 4 quechotzal-days.ps quechotzal-days.r (λ κs s. s.1.1.1.0.now) quechotzal-days-reads.Post
quechotzal_days_answer_only κs a x y s t p q = by_value _ p.1.1.0 q.1.1.0

pub quechotzal_append_only : OneResult 5 quechotzal-append.ps quechotzal-append.r quechotzal-append-reads.Post
quechotzal_append_only κs a x y s t p q = by_value _ p.0 q.0

pub quechotzal_append_bytes_only : OneList 5 quechotzal-append.ps quechotzal-append.r (λ κs s. s.1.1.1.0.now) quechotzal-append-reads.Post
quechotzal_append_bytes_only κs a x y s t p q = by_value _ p.1.0 q.1.0

pub quechotzal_append_answer_only : OneList 5 quechotzal-append.ps quechotzal-append.r (λ κs s. s.1.1.1.1.0.now) quechotzal-append-reads.Post
quechotzal_append_answer_only κs a x y s t p q = by_value _ p.1.1.0 q.1.1.0
