-- One field of the orbit record: its bits, its float, what is accepted, and its row (document 01, "What the desk feeds and gets" and "Turned away").
use Rattle.std.specs.Prelude.{Bool, ◌&&◌, not, cond, List, ℕ, ◌*◌, Float, Err}
use Rattle.std.specs.Float.{binary64}
use Rattle.std.specs.Float.Ieee.{of_bits, neg, le, lt}
use Rattle.std.specs.Float.Ieee.Scale.{finite}
use Rattle.std.specs.Ordering.{float_partial_cmp}
use Rattle.std.specs.Bound.{bounds_contain}
use Rattle.std.specs.declared.ops.Bound.{Bound}
use Rattle.words.specs.Little.{read_of, Holds}
use Rattle.nearest.specs.Nearest.{decimal, number}
use Rattle.refusal.specs.Rows.{Verdict, when}
use Rattle.refusal.specs.declared.Refusal.TheVariants.{NotFinite, OutOfRange}

-- field k stands at 8 + 8·(k−1), which is 8·k for k from 1
abbrev pub field_at : ℕ → ℕ
field_at k = 8 * k

-- the record has a field k; for the contracts of private functions
abbrev pub HasField : List ℕ → ℕ → Type 0
HasField s k = Holds 8 s (field_at k)

-- its bits
abbrev pub bits_in : List ℕ → ℕ → ℕ
bits_in s k = read_of 8 s (field_at k)

-- its float
abbrev pub float_of : List ℕ → ℕ → Float
float_of s k = of_bits binary64 (bits_in s k)

-- ---- what is accepted: ends are included unless said; minus zero is zero, as the comparison of floats has it

abbrev pub within : Float → Float → Float → Bool
within low high x = le low x && le x high

-- the upper end left out
abbrev pub below : Float → Float → Float → Bool
below low high x = le low x && lt x high

-- what a range accepts, by its two ends, as std's `contains` compares floats
unfoldable pub accepts : Bound Float → Bound Float → Float → Bool
accepts start end x = bounds_contain float_partial_cmp start end x

-- field 1, semimajor axis, km: 100 to 250,000
abbrev pub axis_in : Float → Bool
axis_in x = within (number 100) (number 250000) x

-- field 2, eccentricity: 0 to 0.95
abbrev pub eccentricity_in : Float → Bool
eccentricity_in x = within (number 0) (decimal 95 100) x

-- field 3, inclination, degrees: 0 to 180
abbrev pub inclination_in : Float → Bool
inclination_in x = within (number 0) (number 180) x

-- fields 4, 5, 8, 11 and 12, degrees: 0 up to, not with, 360
abbrev pub turn_in : Float → Bool
turn_in x = below (number 0) (number 360) x

-- field 6, period, s: 60 to 2,000,000
abbrev pub period_in : Float → Bool
period_in x = within (number 60) (number 2000000) x

-- field 7, planet radius, km: 1 to 100,000
abbrev pub radius_in : Float → Bool
radius_in x = within (number 1) (number 100000) x

-- fields 9 and 10, declination and latitude, degrees: −90 to 90
abbrev pub latitude_in : Float → Bool
latitude_in x = within (neg (number 90)) (number 90) x

-- field 13, least elevation, degrees: 0 to 90
abbrev pub elevation_in : Float → Bool
elevation_in x = within (number 0) (number 90) x

-- ---- refusals 3 and 4

-- field k with the float x: 3 where it is NaN or infinite, with its bits; 4 where it is finite and not accepted
unfoldable pub judge : List ℕ → ℕ → Float → Bool → Verdict
judge s k x accepted = cond (finite x) (when (not accepted) (OutOfRange k x)) (Err (NotFinite k x (bits_in s k)))

-- its row, by what is accepted
abbrev pub field_row_of : List ℕ → ℕ → Float → (Float → Bool) → Verdict
field_row_of s k x accepted = judge s k x (accepted x)
