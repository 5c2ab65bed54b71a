-- The measure is the bytes that are left; a batch replies to one piece at least.
use Rattle.std.proofs.Common.{length, ◌-◌}
use Rattle.lists.proofs.reply_all.Given as goal

abbrev pub decreases-loop-at : goal.decreases-loop-at
decreases-loop-at g l = length l.src - l.at
