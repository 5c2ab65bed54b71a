-- `u64::read` meets its contract: four bytes and the four behind them.
use native.Mathlib.Omega.{arith}
use Rattle.words.proofs.Laws.{read-both}
use Rattle.words.proofs.U64Word.read.Goals as goal

pub returns : goal.returns
returns c = omega (arith, read-both 4 4 c.args.s.now c.args.at c.requires)
