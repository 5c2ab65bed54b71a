-- The contracts of the public functions, as the check reads them off the source, leave one answer only: each is an equation.
use Rattle.determined.specs.Determined.{OneResult, OneList, by_value}
use Rattle.finder.proofs.steps.Kinds as steps
use Rattle.finder.proofs.steps.Reads as steps-reads
use Rattle.finder.proofs.list.Kinds as list
use Rattle.finder.proofs.list.Reads as list-reads
use Rattle.finder.proofs.SteadySearch.moves.Kinds as moves
use Rattle.finder.proofs.SteadySearch.moves.Reads as moves-reads

pub steps_only : OneResult 0 steps.ps steps.r steps-reads.Post
steps_only κs a x y s t p q = by_value _ p q

pub list_only : OneResult 3 list.ps list.r list-reads.Post
list_only κs a x y s t p q = by_value _ p.0 q.0

-- and every byte of the lent list
pub list-bytes_only : OneList 3 list.ps list.r (λ κs s. s.1.1.1.0.now) list-reads.Post
list-bytes_only κs a x y s t p q = by_value _ p.1 q.1

-- what the search in a step asks
pub moves_only : OneResult 2 moves.ps moves.r moves-reads.Post
moves_only κs a x y s t p q = by_value _ p q
