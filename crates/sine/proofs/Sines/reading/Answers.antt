-- `Sines::reading` meets its contract: the way between two entries, which rise.
use Prim.Native.Nat.{◌/◌}
use native.Mathlib.Omega.{arith}
use Rattle.sine.specs.Sine.{segment}
use Rattle.sine.proofs.Laws.{rising, reading-inside}
use Rattle.sine.proofs.Sines.reading.Goals as goal

pub way-requires : goal.way-requires
way-requires c = (omega (arith, rising (c.args.g / segment) (omega arith), c.entry-2.ensures, c.entry.ensures), omega arith)

pub returns : goal.returns
returns c = cc (reading-inside c.args.g (omega arith))
