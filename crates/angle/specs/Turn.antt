-- Angles in units, a quarter turn being 1,073,741,824 of them (document 01, "From floats to whole numbers").
use Rattle.std.specs.Prelude.{ℕ, ◌+◌, ◌-◌, ◌%◌, ◌^◌, cond, Float}
use Rattle.std.specs.Float.Ieee.{lt}
use Rattle.nearest.specs.Nearest.{units_of, number}

abbrev pub quarter_turn : ℕ
quarter_turn = 2 ^ 30

abbrev pub turn : ℕ
turn = 2 ^ 32

-- negated modulo 2^32
abbrev pub negate_of : ℕ → ℕ
negate_of u = (turn - u) % turn

-- the sum modulo 2^32
abbrev pub add_of : ℕ → ℕ → ℕ
add_of u v = (u + v) % turn

-- the units of the magnitude of x degrees: nearest of |x|·2^32/360, modulo 2^32
abbrev pub magnitude_of : Float → ℕ
magnitude_of x = units_of x % turn

-- a negative angle is its magnitude's units, negated modulo 2^32
abbrev pub degrees_of : Float → ℕ
degrees_of x = cond (lt x (number 0)) (negate_of (magnitude_of x)) (magnitude_of x)
