-- The contracts of the public functions, as the check reads them off the source, leave one answer only: each is an equation.
use Rattle.determined.specs.Determined.{OneResult, by_value}
use Rattle.sine.proofs.table.Kinds as table
use Rattle.sine.proofs.table.Reads as table-reads
use Rattle.sine.proofs.Sines.sine.Kinds as sine
use Rattle.sine.proofs.Sines.sine.Reads as sine-reads
use Rattle.sine.proofs.Sines.cosine.Kinds as cosine
use Rattle.sine.proofs.Sines.cosine.Reads as cosine-reads

pub table_only : OneResult 0 table.ps table.r table-reads.Post
table_only κs a x y s t p q = by_value _ p q

pub sine_only : OneResult 1 sine.ps sine.r sine-reads.Post
sine_only κs a x y s t p q = by_value _ p q

pub cosine_only : OneResult 1 cosine.ps cosine.r cosine-reads.Post
cosine_only κs a x y s t p q = by_value _ p q
