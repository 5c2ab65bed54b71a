-- The table's rule (document 01, "Sine"), for any number of segments. A sum of fractions is a numerator over one denominator.
use Rattle.std.specs.Prelude.{ℕ, zero, suc, ◌+◌, ◌-◌, ◌*◌, ◌/◌, ◌^◌}
use Rattle.nearest.specs.Nearest.{nearest}

-- π read as 3.14159265358979323846
abbrev pub π : ℕ
π = 314159265358979323846

abbrev pub π-unit : ℕ
π-unit = 10 ^ 20

unfoldable pub factorial : ℕ → ℕ
factorial zero = 1
factorial (suc n) = suc n * factorial n

-- term i of the sine series at a/b, (a/b)^(2i+1) / (2i+1)!, over the denominator b^23 · 23!
unfoldable pub term : ℕ → ℕ → ℕ → ℕ
term a b i = a ^ (2 * i + 1) * b ^ (22 - 2 * i) * (factorial 23 / factorial (2 * i + 1))

-- the first twelve terms (to the 23rd power): those that are added, and those that are taken away, which are no more
unfoldable pub added : ℕ → ℕ → ℕ
added a b = term a b 0 + term a b 2 + term a b 4 + term a b 6 + term a b 8 + term a b 10

unfoldable pub taken : ℕ → ℕ → ℕ
taken a b = term a b 1 + term a b 3 + term a b 5 + term a b 7 + term a b 9 + term a b 11

-- the nearest whole number to 2^30 times the sum at a/b
unfoldable pub scaled_sine : ℕ → ℕ → ℕ
scaled_sine a b = nearest (2 ^ 30 * (added a b - taken a b)) (b ^ 23 * factorial 23)

-- entry k of the table with n segments is at k·π/2n
unfoldable pub entry_of : ℕ → ℕ → ℕ
entry_of n k = scaled_sine (k * π) (2 * n * π-unit)
