-- `finder::Finder::why` meets its contract: a bit for each of the two answers.
use Rattle.finder.specs.Flags.{differing}
use Rattle.finder.proofs.Finder.why.Goals as goal

pub returns : goal.returns
unfolding differing
returns c = rw (← c.sight-low.ensures, ← c.sight-high.ensures, c.bit.ensures, c.bit-2.ensures)
