-- The contracts of the public functions, as the check reads them off the source, leave one answer only: each is an equation.
use denote.RattleType.{RattleType}
use denote.Param.Laws.{Laws}
use lib.Ieee.{Float}
use mir.Syntax.{Dict}
use mathlib.Core.Path.{◌≡◌}
use Rattle.std.specs.declared.ops.Bound.TheVariants.{Included, Excluded}
use Rattle.std.specs.declared.ops.RangeBounds.{Ghosts}
use Rattle.determined.specs.Determined.{OneResult, by_value}
use Rattle.nearest.specs.Nearest.{number}
use Rattle.elements.specs.Field.{field_row_of, turn_in}
use Rattle.elements.proofs.Ranges.{of_a_turn}
use Rattle.elements.proofs.closest.closest.Kinds as closest
use Rattle.elements.proofs.closest.closest.Reads as closest-reads
use Rattle.elements.proofs.fields.float.Kinds as float
use Rattle.elements.proofs.fields.float.Reads as float-reads
use Rattle.elements.proofs.fields.field.Kinds as field
use Rattle.elements.proofs.fields.field.Reads as field-reads
use Rattle.elements.proofs.reading.read.Kinds as read
use Rattle.elements.proofs.reading.read.Reads as read-reads
use Rattle.elements.proofs.rounding.rounded.Kinds as rounded
use Rattle.elements.proofs.rounding.rounded.Reads as rounded-reads

pub closest_only : OneResult 0 closest.ps closest.r closest-reads.Post
closest_only κs a x y s t p q = by_value _ p q

pub float_only : OneResult 1 float.ps float.r float-reads.Post
float_only κs a x y s t p q = by_value _ p q

-- with a range of any type, by what that type says of its ends
pub field_only : (R : RattleType) (laws : Laws R) (ends : Ghosts R.Denot Float) (d e : Dict) → OneResult 2 (field.ps R laws) (field.r R laws) (field-reads.Post R laws ends d e)
field_only R laws ends d e κs a x y s t p q = by_value _ p q

-- the ends of the range `0.0..360.0`
abbrev pub TurnEnds : {A : Type 0} → Ghosts A Float → A → Type 0
TurnEnds ends r = (ends.start_bound r ≡ Included (number 0)) × (ends.end_bound r ≡ Excluded (number 360))

-- with that range, for which `turn` was a function of its own: two results are the row of a turn, and so equal
pub turn_only : (R : RattleType) (laws : Laws R) (ends : Ghosts R.Denot Float) (d e : Dict) → OneResult 2 (field.ps R laws) (field.r R laws) (λ κs a x s. field-reads.Post R laws ends d e κs a x s × TurnEnds ends a.1.1.1.0)
turn_only R laws ends d e κs a x y s t p q =
    by_value (field_row_of a.0.now a.1.0 a.1.1.0 turn_in) (of_a_turn _ _ _ p.0 p.1.0 p.1.1) (of_a_turn _ _ _ q.0 q.1.0 q.1.1)

pub read_only : OneResult 1 read.ps read.r read-reads.Post
read_only κs a x y s t p q = by_value _ p q

pub rounded_only : OneResult 0 rounded.ps rounded.r rounded-reads.Post
rounded_only κs a x y s t p q = by_value _ p q
