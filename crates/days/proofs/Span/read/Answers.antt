-- `days::Span::read` meets its contract: the two numbers stand where the definition reads them.
use Rattle.days.specs.Given.{span_at}
use Rattle.days.proofs.Span.read.Goals as goal

pub returns : goal.returns
unfolding span_at
returns c = rw (c.read.ensures, c.read-2.ensures)
