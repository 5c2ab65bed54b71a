-- From floats to whole numbers (document 01, "From floats to whole numbers").
use Rattle.std.specs.Prelude.{ℕ, ◌+◌, ◌*◌, ◌/◌, ◌^◌, ◌≤◌, T, Float, false}
use Rattle.std.specs.Float.{binary64}
use Rattle.std.specs.Float.Ieee.{round}
use Rattle.std.specs.Float.Ieee.Scale.{finite}
use Rattle.std.specs.Float.Ieee.Positive.{num, den}

-- nearest means floor(exact value + 1/2), here of n / d
abbrev pub nearest : ℕ → ℕ → ℕ
nearest n d = (2 * n + d) / (2 * d)

-- the nearest to p / q times the size of x, whose exact value is num x / den x
unfoldable pub nearest_of : ℕ → ℕ → Float → ℕ
nearest_of p q x = nearest (num x * p) (den x * q)

-- lengths, in km: nearest metre
abbrev pub metres_of : Float → ℕ
metres_of x = nearest_of 1000 1 x

-- period, in s: nearest ms
abbrev pub milliseconds_of : Float → ℕ
milliseconds_of x = nearest_of 1000 1 x

-- e: nearest of e·2^30
abbrev pub eccentricity_of : Float → ℕ
eccentricity_of x = nearest_of (2 ^ 30) 1 x

-- that of 0.95, the largest e accepted (document 01, field 2; "On both sides" has the number)
abbrev pub most_eccentric : ℕ
most_eccentric = 1020054733

-- angles, in degrees: nearest of |x|·2^32/360, not yet modulo 2^32
abbrev pub units_of : Float → ℕ
units_of x = nearest_of (2 ^ 32) 360 x

-- finite, and at most 2 ^ w in size
pub record UpTo (w : ℕ) (x : Float) : Type 0 where
  pub finite_is : T (finite x)
  pub size_is : num x ≤ 2 ^ w * den x

-- the float nearest to a / b, and a whole number as a float: for the constants of definitions
unfoldable pub decimal : ℕ → ℕ → Float
decimal a b = round binary64 false a b

abbrev pub number : ℕ → Float
number n = decimal n 1
