-- The contracts of the public functions, as the check reads them off the source, leave one answer only: each is an equation, an
-- angle's of its units, and an angle is its units.
use Rattle.determined.specs.Determined.{OneResult, by_value}
use Rattle.angle.proofs.Only.{by_units}
use Rattle.kepler.proofs.phase.Kinds as phase
use Rattle.kepler.proofs.phase.Reads as phase-reads
use Rattle.kepler.proofs.eccentric.Kinds as eccentric
use Rattle.kepler.proofs.eccentric.Reads as eccentric-reads
use Rattle.kepler.proofs.EquationSearch.moves.Kinds as moves
use Rattle.kepler.proofs.EquationSearch.moves.Reads as moves-reads

pub phase_only : OneResult 0 phase.ps phase.r phase-reads.Post
phase_only κs a x y s t p q = by_units x y (by_value _ p q)

pub eccentric_only : OneResult 1 eccentric.ps eccentric.r eccentric-reads.Post
eccentric_only κs a x y s t p q = by_units x y (by_value _ p q)

-- what the search asks
pub moves_only : OneResult 2 moves.ps moves.r moves-reads.Post
moves_only κs a x y s t p q = by_value _ p q
