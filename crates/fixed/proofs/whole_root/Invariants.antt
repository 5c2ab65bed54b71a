-- `fixed::whole_root` meets its contract: each turn finds one digit more, and `bit` falls.
use Rattle.fixed.proofs.Digits.{Partway}
use Rattle.fixed.proofs.whole_root.Given as goal

abbrev pub invariant-loop-bit : goal.invariant-loop-bit
invariant-loop-bit l = Partway l.n l.rest l.root l.bit

abbrev pub decreases-loop-bit : goal.decreases-loop-bit
decreases-loop-bit l = l.bit
