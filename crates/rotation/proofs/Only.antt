-- The contracts of the public functions, as the check reads them off the source, leave one answer only: each is an equation.
use Rattle.determined.specs.Determined.{OneResult, by_value}
use Rattle.rotation.proofs.turn_of.Kinds as turn-of
use Rattle.rotation.proofs.turn_of.Reads as turn-of-reads
use Rattle.rotation.proofs.rotation.Kinds as rotation
use Rattle.rotation.proofs.rotation.Reads as rotation-reads
use Rattle.rotation.proofs.direction.Kinds as direction
use Rattle.rotation.proofs.direction.Reads as direction-reads

pub turn_of_only : OneResult 1 turn-of.ps turn-of.r turn-of-reads.Post
turn_of_only κs a x y s t p q = by_value _ p q

pub rotation_only : OneResult 0 rotation.ps rotation.r rotation-reads.Post
rotation_only κs a x y s t p q = by_value _ p q

pub direction_only : OneResult 0 direction.ps direction.r direction-reads.Post
direction_only κs a x y s t p q = by_value _ p q
