-- The closest distance of an orbit (document 01, "What the desk feeds and gets").
use Rattle.std.specs.Prelude.{Float}
use Rattle.std.specs.Float.{binary64}
use Rattle.std.specs.Float.Ieee.{mul, sub}
use Rattle.nearest.specs.Nearest.{number}

-- a × (1 − e), each operation rounded once
unfoldable pub closest_of : Float → Float → Float
closest_of a e = mul binary64 a (sub binary64 (number 1) e)
