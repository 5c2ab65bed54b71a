-- The contracts of the public functions, as the check reads them off the source, leave one answer only: each is an equation.
use Rattle.determined.specs.Determined.{OneResult, by_value}
use Rattle.refusal.proofs.Refusal.number.Kinds as number
use Rattle.refusal.proofs.Refusal.number.Reads as number-reads
use Rattle.refusal.proofs.Refusal.field.Kinds as field
use Rattle.refusal.proofs.Refusal.field.Reads as field-reads
use Rattle.refusal.proofs.Refusal.value.Kinds as value
use Rattle.refusal.proofs.Refusal.value.Reads as value-reads
use Rattle.refusal.proofs.Refusal.bits.Kinds as bits
use Rattle.refusal.proofs.Refusal.bits.Reads as bits-reads
use Rattle.refusal.proofs.row.Kinds as row
use Rattle.refusal.proofs.row.Reads as row_reads
use Rattle.refusal.proofs.then.Kinds as then
use Rattle.refusal.proofs.then.Reads as then-reads

pub number_only : OneResult 0 number.ps number.r number-reads.Post
number_only κs a x y s t p q = by_value _ p q

pub field_only : OneResult 0 field.ps field.r field-reads.Post
field_only κs a x y s t p q = by_value _ p q

pub value_only : OneResult 0 value.ps value.r value-reads.Post
value_only κs a x y s t p q = by_value _ p q

pub bits_only : OneResult 0 bits.ps bits.r bits-reads.Post
bits_only κs a x y s t p q = by_value _ p q

pub row_only : OneResult 0 row.ps row.r row_reads.Post
row_only κs a x y s t p q = by_value _ p q

pub then_only : OneResult 0 then.ps then.r then-reads.Post
then_only κs a x y s t p q = by_value _ p q
