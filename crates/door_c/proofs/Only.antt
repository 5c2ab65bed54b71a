-- The contracts of the door's exports, as the check reads them off the source, leave one answer, one lent buffer and one answer's bytes only: each is an equation.
use Rattle.determined.specs.Determined.{OneResult, OneList, by_value}
use Rattle.door_c.proofs.quechotzal_list.Kinds as quechotzal-list
use Rattle.door_c.proofs.quechotzal_list.Reads as quechotzal-list-reads
use Rattle.door_c.proofs.quechotzal_days.Kinds as quechotzal-days
use Rattle.door_c.proofs.quechotzal_days.Reads as quechotzal-days-reads
use Rattle.door_c.proofs.quechotzal_append.Kinds as quechotzal-append
use Rattle.door_c.proofs.quechotzal_append.Reads as quechotzal-append-reads

pub quechotzal_list_only : OneResult 3 quechotzal-list.ps quechotzal-list.r quechotzal-list-reads.Post
quechotzal_list_only κs a x y s t p q = by_value _ p.0 q.0

pub quechotzal_list_bytes_only : OneList 3 quechotzal-list.ps quechotzal-list.r (λ κs s. s.1.0.now) quechotzal-list-reads.Post
quechotzal_list_bytes_only κs a x y s t p q = by_value _ p.1.0 q.1.0

pub quechotzal_list_answer_only : OneList 3 quechotzal-list.ps quechotzal-list.r (λ κs s. s.1.1.0.now) quechotzal-list-reads.Post
quechotzal_list_answer_only κs a x y s t p q = by_value _ p.1.1.0 q.1.1.0

pub quechotzal_days_only : OneResult 4 quechotzal-days.ps quechotzal-days.r quechotzal-days-reads.Post
quechotzal_days_only κs a x y s t p q = by_value _ p.0 q.0

pub quechotzal_days_bytes_only : OneList 4 quechotzal-days.ps quechotzal-days.r (λ κs s. s.1.1.0.now) quechotzal-days-reads.Post
quechotzal_days_bytes_only κs a x y s t p q = by_value _ p.1.0 q.1.0

pub quechotzal_days_answer_only : OneList 4 quechotzal-days.ps quechotzal-days.r (λ κs s. s.1.1.1.0.now) quechotzal-days-reads.Post
quechotzal_days_answer_only κs a x y s t p q = by_value _ p.1.1.0 q.1.1.0

pub quechotzal_append_only : OneResult 5 quechotzal-append.ps quechotzal-append.r quechotzal-append-reads.Post
quechotzal_append_only κs a x y s t p q = by_value _ p.0 q.0

pub quechotzal_append_bytes_only : OneList 5 quechotzal-append.ps quechotzal-append.r (λ κs s. s.1.1.1.0.now) quechotzal-append-reads.Post
quechotzal_append_bytes_only κs a x y s t p q = by_value _ p.1.0 q.1.0

pub quechotzal_append_answer_only : OneList 5 quechotzal-append.ps quechotzal-append.r (λ κs s. s.1.1.1.1.0.now) quechotzal-append-reads.Post
quechotzal_append_answer_only κs a x y s t p q = by_value _ p.1.1.0 q.1.1.0
