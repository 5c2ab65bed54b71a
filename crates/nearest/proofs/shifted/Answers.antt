-- `nearest::shifted` meets its contract: a shift divides, and past the width nothing is left.
use mathlib.Core.Path.{sym}
use native.Mathlib.Nat.{div-eq_of_lt, lt_of_lt_of_le}
use lib.Pow.{pow_mono}
use Rattle.nearest.proofs.shifted.Goals as goal

pub returns-else-k-lt64 : goal.returns-else-k-lt64
returns-else-k-lt64 c = sym (div-eq_of_lt (lt_of_lt_of_le c.ranges.n.fits (pow_mono c.if-k-lt64.false)))
