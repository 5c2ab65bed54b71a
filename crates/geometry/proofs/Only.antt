-- The contracts of the public functions, as the check reads them off the source, leave one answer only: each is an equation.
use Rattle.determined.specs.Determined.{OneResult, by_value}
use Rattle.geometry.proofs.rotation_of.Kinds as rotation-of
use Rattle.geometry.proofs.rotation_of.Reads as rotation-of-reads
use Rattle.geometry.proofs.prepare.Kinds as prepare
use Rattle.geometry.proofs.prepare.Reads as prepare-reads
use Rattle.geometry.proofs.Sky.new.Kinds as new
use Rattle.geometry.proofs.Sky.new.Reads as new-reads
use Rattle.geometry.proofs.Sky.place.Kinds as place
use Rattle.geometry.proofs.Sky.place.Reads as place-reads
use Rattle.geometry.proofs.Orbit.depth.Kinds as depth
use Rattle.geometry.proofs.Orbit.depth.Reads as depth-reads
use Rattle.geometry.proofs.Sky.hidden.Kinds as hidden
use Rattle.geometry.proofs.Sky.hidden.Reads as hidden-reads
use Rattle.geometry.proofs.Sky.up.Kinds as up
use Rattle.geometry.proofs.Sky.up.Reads as up-reads
use Rattle.geometry.proofs.Sky.answer.Kinds as answer
use Rattle.geometry.proofs.Sky.answer.Reads as answer-reads
use Rattle.geometry.proofs.Sky.sight.Kinds as sight
use Rattle.geometry.proofs.Sky.sight.Reads as sight-reads

pub rotation_of_only : OneResult 1 rotation-of.ps rotation-of.r rotation-of-reads.Post
rotation_of_only κs a x y s t p q = by_value _ p q

pub prepare_only : OneResult 1 prepare.ps prepare.r prepare-reads.Post
prepare_only κs a x y s t p q = by_value _ p q

pub new_only : OneResult 1 new.ps new.r new-reads.Post
new_only κs a x y s t p q = by_value _ p q

pub place_of_only : OneResult 2 place.ps place.r place-reads.Post
place_of_only κs a x y s t p q = by_value _ p.0 q.0

pub depth_only : OneResult 1 depth.ps depth.r depth-reads.Post
depth_only κs a x y s t p q = by_value _ p q

pub hidden_only : OneResult 2 hidden.ps hidden.r hidden-reads.Post
hidden_only κs a x y s t p q = by_value _ p q

pub up_only : OneResult 2 up.ps up.r up-reads.Post
up_only κs a x y s t p q = by_value _ p q

pub answer_only : OneResult 2 answer.ps answer.r answer-reads.Post
answer_only κs a x y s t p q = by_value _ p q

pub sight_of_only : OneResult 2 sight.ps sight.r sight-reads.Post
sight_of_only κs a x y s t p q = by_value _ p q
