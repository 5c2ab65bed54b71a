-- `fixed::scaled` meets its contract: the product fits, and `unscaled` is its floor.
use mir.Facts.{to_z-of_z}
use Rattle.fixed.specs.Scaled.{◌∘◌}
use Rattle.fixed.proofs.Machine.{got}
use Rattle.fixed.proofs.scaled.Goals as goal

pub returns : goal.returns
unfolding ◌∘◌
returns c = cc (to_z-of_z c.ranges.a, to_z-of_z c.ranges.b, to_z-of_z c.requires, got c.unscaled.result c.unscaled.type_inv)
