-- The contracts of the public functions, as the check reads them off the source, leave one answer only: each is an equation of
-- units, and an angle is its units.
use Rattle.std.proofs.Common.{◌≡◌, ℕ, ap}
use Rattle.determined.specs.Determined.{OneResult, by_value}
use Rattle.angle.specs.declared.Angle.{Angle}
use Rattle.angle.proofs.Angle.negate.Kinds as negate
use Rattle.angle.proofs.Angle.negate.Reads as negate-reads
use Rattle.angle.proofs.Angle.add.Kinds as add
use Rattle.angle.proofs.Angle.add.Reads as add_reads
use Rattle.angle.proofs.Angle.from_degrees.Kinds as from-degrees
use Rattle.angle.proofs.Angle.from_degrees.Reads as from-degrees-reads

pub by_units : (x y : Angle) → x.units ≡ y.units → x ≡ y
by_units x y e = ap (λ (u : ℕ). record { units = u }) e

pub negate_only : OneResult 0 negate.ps negate.r negate-reads.Post
negate_only κs a x y s t p q = by_units x y (by_value _ p q)

pub add_only : OneResult 0 add.ps add.r add_reads.Post
add_only κs a x y s t p q = by_units x y (by_value _ p q)

pub from-degrees_only : OneResult 0 from-degrees.ps from-degrees.r from-degrees-reads.Post
from-degrees_only κs a x y s t p q = by_units x y (by_value _ p q)
