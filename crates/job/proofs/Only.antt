-- The contracts of the public functions, as the check reads them off the source, leave one answer and one lent list only: each is an equation.
use Rattle.determined.specs.Determined.{OneResult, OneList, by_value}
use Rattle.job.proofs.list.Kinds as list
use Rattle.job.proofs.list.Reads as list-reads
use Rattle.job.proofs.admit.Kinds as admit
use Rattle.job.proofs.admit.Reads as admit-reads
use Rattle.job.proofs.job_number.Kinds as job-number
use Rattle.job.proofs.job_number.Reads as job-number-reads
use Rattle.job.proofs.closing.Kinds as closing
use Rattle.job.proofs.closing.Reads as closing-reads
use Rattle.job.proofs.reply.Kinds as reply
use Rattle.job.proofs.reply.Reads as reply-reads

pub list_only : OneResult 2 list.ps list.r list-reads.Post
list_only κs a x y s t p q = by_value _ p.0 q.0

pub list-bytes_only : OneList 2 list.ps list.r (λ κs s. s.1.0.now) list-reads.Post
list-bytes_only κs a x y s t p q = by_value _ p.1 q.1

pub admit_only : OneResult 1 admit.ps admit.r admit-reads.Post
admit_only κs a x y s t p q = by_value _ p q

pub job-number_only : OneResult 1 job-number.ps job-number.r job-number-reads.Post
job-number_only κs a x y s t p q = by_value _ p q

pub closing_only : OneResult 0 closing.ps closing.r closing-reads.Post
closing_only κs a x y s t p q = by_value _ p q

pub reply_only : OneResult 2 reply.ps reply.r reply-reads.Post
reply_only κs a x y s t p q = by_value _ p.0 q.0

pub reply-bytes_only : OneList 2 reply.ps reply.r (λ κs s. s.1.0.now) reply-reads.Post
reply-bytes_only κs a x y s t p q = by_value _ p.1 q.1
