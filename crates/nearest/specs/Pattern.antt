-- For the contracts of private functions, no rule of document 01: the size of a float of at most 2 ^ 21 by its pattern b is
-- digits_of b / 2 ^ shift_of b (proofs/Exact.antt).
use Rattle.std.specs.Prelude.{ℕ, zero, suc, ◌+◌, ◌-◌, ◌/◌, ◌%◌, ◌^◌, ◌≤◌, ◌<◌, Float}
use Rattle.nearest.specs.Nearest.{UpTo}

-- the eleven bits below the sign
abbrev pub exponent_of : ℕ → ℕ
exponent_of b = b % 2 ^ 63 / 2 ^ 52

-- an exponent of 0 has no leading digit, and counts as 1
abbrev pub digits_in : ℕ → ℕ → ℕ
digits_in zero t = t
digits_in (suc j) t = 2 ^ 52 + t

abbrev pub shift_in : ℕ → ℕ
shift_in zero = 1074
shift_in (suc j) = 1074 - j

unfoldable pub digits_of : ℕ → ℕ
digits_of b = digits_in (exponent_of b) (b % 2 ^ 52)

unfoldable pub shift_of : ℕ → ℕ
shift_of b = shift_in (exponent_of b)

-- what makes x·2^j / q one shift and one division: of the digits of x at least 1 + j are behind its point, x being at most 2 ^ 21
abbrev pub ByShift : ℕ → ℕ → Float → Type 0
ByShift j q x = (30 ≤ j) × (j < 52) × (0 < q) × (UpTo (51 - j) x)
