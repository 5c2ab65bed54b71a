-- `fixed::unit` meets its contract: the product of two numbers of at most one, scaled, is at most one.
use Rattle.fixed.specs.Scaled.{one}
use borrow.Author.Rules.{rules}
use Rattle.fixed.proofs.Machine.{bounded, held, operand, scaled-is}
use Rattle.fixed.proofs.unit.Goals as goal

pub scaled-requires : goal.scaled-requires
scaled-requires c = search (rules, bounded)

pub returns : goal.returns
returns c = held (scaled-is one c.scaled.ensures (operand c.requires.0 tt) (operand c.requires.1 tt) tt) tt
