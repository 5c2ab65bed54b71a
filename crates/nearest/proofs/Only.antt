-- The contracts of the public functions, as the check reads them off the source, leave one answer only: each is an equation.
use Rattle.determined.specs.Determined.{OneResult, by_value}
use Rattle.nearest.proofs.thousandths.Kinds as thousandths
use Rattle.nearest.proofs.thousandths.Reads as thousandths-reads
use Rattle.nearest.proofs.metres.Kinds as metres
use Rattle.nearest.proofs.metres.Reads as metres-reads
use Rattle.nearest.proofs.milliseconds.Kinds as milliseconds
use Rattle.nearest.proofs.milliseconds.Reads as milliseconds-reads
use Rattle.nearest.proofs.eccentricity.Kinds as eccentricity
use Rattle.nearest.proofs.eccentricity.Reads as eccentricity-reads
use Rattle.nearest.proofs.angle_units.Kinds as angle-units
use Rattle.nearest.proofs.angle_units.Reads as angle-units-reads

pub thousandths_only : OneResult 0 thousandths.ps thousandths.r thousandths-reads.Post
thousandths_only κs a x y s t p q = by_value _ p q

pub metres_only : OneResult 0 metres.ps metres.r metres-reads.Post
metres_only κs a x y s t p q = by_value _ p q

pub milliseconds_only : OneResult 0 milliseconds.ps milliseconds.r milliseconds-reads.Post
milliseconds_only κs a x y s t p q = by_value _ p q

pub eccentricity_only : OneResult 0 eccentricity.ps eccentricity.r eccentricity-reads.Post
eccentricity_only κs a x y s t p q = by_value _ p q

pub angle-units_only : OneResult 0 angle-units.ps angle-units.r angle-units-reads.Post
angle-units_only κs a x y s t p q = by_value _ p q
