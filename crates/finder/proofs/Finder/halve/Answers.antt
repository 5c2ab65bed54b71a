-- `finder::Finder::halve` meets its contract: a step is at most 2^20 ms.
use native.Mathlib.Omega.{arith}
use Rattle.finder.specs.Spans.{edge}
use Rattle.finder.proofs.Finder.halve.Goals as goal

pub returns : goal.returns
unfolding edge
returns c = rw c.requires.answered at (c.halve.ensures 20 (omega (arith, c.requires.near)))
