-- Where the rounding of degrees is easily got wrong, computed at one float each.
use Rattle.std.proofs.Common.{◌≡◌, ◌-◌, ◌^◌, true, refl}
use lib.Ieee.{binary64, round, lt}
use Rattle.nearest.specs.Nearest.{nearest_of, decimal}
use Rattle.angle.specs.Turn.{turn, degrees_of}

-- 359.9999999999 degrees are a whole turn, which is 0
pub all_but_a_turn : degrees_of (decimal 3599999999999 (10 ^ 10)) ≡ 0
unfolding decimal round nearest_of lt
all_but_a_turn = refl

-- −45 / 2^30 degrees are half a unit below 0: the half is rounded up to a unit, and that is negated
pub half-a_unit_back : degrees_of (round binary64 true 45 (2 ^ 30)) ≡ turn - 1
unfolding decimal round nearest_of lt
half-a_unit_back = refl
