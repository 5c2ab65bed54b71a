-- The sine and the cosine of an angle in units, as read off the table (document 01, "Sine").
use Rattle.std.specs.Prelude.{cond, List, [], ◌∷◌, ℕ, zero, suc, ◌+◌, ◌-◌, ◌*◌, ◌/◌, ◌%◌, ◌≤◌, ◌<◌, eqb, ltb, ℤ, pos, neg_ℤ}
use Rattle.angle.specs.Turn.{quarter_turn, add_of}
use Rattle.sine.specs.Table.{entry_of}

-- a table of 4,097 entries has 4,096 segments (document 02, wish 5)
abbrev pub segments : ℕ
segments = 4096

-- the units of a segment: 2^18
abbrev pub segment : ℕ
segment = quarter_turn / segments

abbrev pub entry_at : ℕ → ℕ
entry_at k = entry_of segments k

-- the table has an entry k
abbrev pub IsEntry : ℕ → Type 0
IsEntry k = k ≤ segments

-- n values of f, from i on
abbrev pub values_from : (ℕ → ℕ) → ℕ → ℕ → List ℕ
values_from f i zero = []
values_from f i (suc n) = f i ∷ values_from f (suc i) n

-- the table: entry k for k = 0 .. 4096
unfoldable pub sines : List ℕ
sines = values_from entry_at 0 (suc segments)

-- quadrant j = floor(θ/2^30)
abbrev pub quadrant_of : ℕ → ℕ
quadrant_of θ = θ / quarter_turn

-- f the rest; g = f for even j, 2^30 − f for odd
unfoldable pub fold_of : ℕ → ℕ
fold_of θ =
    let f = θ % quarter_turn in
    cond (eqb (quadrant_of θ % 2) 0) f (quarter_turn - f)

-- r units into a segment from a to b: a plus floor((b − a)·r/2^18)
unfoldable pub way_of : ℕ → ℕ → ℕ → ℕ
way_of a b r = a + (b - a) * r / segment

-- the segment does not fall, and r lies in it
abbrev pub OnTheWay : ℕ → ℕ → ℕ → Type 0
OnTheWay a b r = (a ≤ b) × (r < segment)

-- g lies in the first quarter turn, before its end
abbrev pub InQuarter : ℕ → Type 0
InQuarter g = g < quarter_turn

-- k = floor(g/2^18), r the rest: the way from entry k to entry k+1; at g = 2^30 entry 4096
unfoldable pub reading_of : ℕ → ℕ
reading_of g =
    let k = g / segment in
    let r = g % segment in
    cond (eqb g quarter_turn) (entry_at segments) (way_of (entry_at k) (entry_at (k + 1)) r)

-- quadrants 2 and 3 negate it
unfoldable pub sine_of : ℕ → ℤ
sine_of θ = cond (ltb (quadrant_of θ) 2) (pos (reading_of (fold_of θ))) (neg_ℤ (pos (reading_of (fold_of θ))))

-- the sine of θ + 2^30, modulo 2^32
unfoldable pub cosine_of : ℕ → ℤ
cosine_of θ = sine_of (add_of θ quarter_turn)
