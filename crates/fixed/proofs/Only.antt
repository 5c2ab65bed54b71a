-- The contracts of the public functions, as the check reads them off the source, leave one answer only: each is an equation.
use Rattle.determined.specs.Determined.{OneResult, by_value}
use Rattle.fixed.proofs.floor_div.Kinds as floor-div
use Rattle.fixed.proofs.floor_div.Reads as floor-div-reads
use Rattle.fixed.proofs.scaled.Kinds as scaled
use Rattle.fixed.proofs.scaled.Reads as scaled-reads
use Rattle.fixed.proofs.unit.Kinds as unit
use Rattle.fixed.proofs.unit.Reads as unit-reads
use Rattle.fixed.proofs.dot.Kinds as dot
use Rattle.fixed.proofs.dot.Reads as dot-reads
use Rattle.fixed.proofs.whole_root.Kinds as whole-root
use Rattle.fixed.proofs.whole_root.Reads as whole-root-reads

pub floor-div_only : OneResult 0 floor-div.ps floor-div.r floor-div-reads.Post
floor-div_only κs a x y s t p q = by_value _ p q

pub scaled_only : OneResult 0 scaled.ps scaled.r scaled-reads.Post
scaled_only κs a x y s t p q = by_value _ p q

pub unit_only : OneResult 0 unit.ps unit.r unit-reads.Post
unit_only κs a x y s t p q = by_value _ p.is q.is

pub dot_only : OneResult 0 dot.ps dot.r dot-reads.Post
dot_only κs a x y s t p q = by_value _ p q

pub whole-root_only : OneResult 0 whole-root.ps whole-root.r whole-root-reads.Post
whole-root_only κs a x y s t p q = by_value _ p q
