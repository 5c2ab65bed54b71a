-- Floor division of signed numbers (document 01, the first paragraph; that it is the floor is shown in proofs/Floor.antt).
use Rattle.std.specs.Prelude.{ℕ, ◌/◌, ◌<◌, ℤ, pos, negsuc}

-- the floor of z / d, toward minus infinity; `negsuc n` is −1 − n
abbrev pub floor_div_of : ℤ → ℕ → ℤ
floor_div_of (pos n) d = pos (n / d)
floor_div_of (negsuc n) d = negsuc (n / d)

-- what may be divided by
abbrev pub Divisor : ℕ → Type 0
Divisor d = 0 < d

-- −1 − z, for the contract of a private function; no rule of document 01
abbrev pub mirror_of : ℤ → ℤ
mirror_of (pos n) = negsuc n
mirror_of (negsuc n) = pos n
