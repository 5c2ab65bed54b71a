-- `nearest::eccentricity` meets its contract: the answer is at most 2 ^ 30, so it fits.
use native.Mathlib.Omega.{arith}
use lib.Dec.{lit<}
use Rattle.nearest.proofs.Nearest.{nearest_of-le}
use Rattle.nearest.proofs.eccentricity.Goals as goal

pub overflow_cast-result : goal.overflow_cast-result
overflow_cast-result c = omega (arith, c.by_power.ensures, nearest_of-le 0 1073741824 1 c.args.x (lit< tt) c.requires)
