-- What a record reads as: the elements, or the first refusal of 1 to 5 that applies (document 01, "Turned away").
use Rattle.std.specs.Prelude.{not, List, [], ◌∷◌, ◌++◌, ◌≡◌, ℕ, ◌<◌, eqb, length, Result, Ok, Err}
use Rattle.std.specs.Float.Ieee.{lt}
use Rattle.words.specs.Little.{read_of}
use Rattle.refusal.specs.Refusal.{field_of, value_of, bits_of}
use Rattle.refusal.specs.Rows.{Verdict, when, first}
use Rattle.refusal.specs.declared.Refusal.{Refusal}
use Rattle.refusal.specs.declared.Refusal.TheVariants.{Length, Word, TooClose}
use Rattle.elements.specs.Field.{bits_in, float_of, axis_in, eccentricity_in, inclination_in, turn_in, period_in, radius_in, latitude_in, elevation_in, field_row_of}
use Rattle.elements.specs.Closest.{closest_of}
use Rattle.elements.specs.declared.reading.Elements.{Elements}

-- 136 bytes
abbrev pub WholeRecord : List ℕ → Type 0
WholeRecord s = length s ≡ 136

-- the elements are held together as floats
unfoldable pub elements_of : List ℕ → Elements
elements_of s =
    record {
      axis = float_of s 1;
      eccentricity = float_of s 2;
      inclination = float_of s 3;
      node = float_of s 4;
      periapsis = float_of s 5;
      period = float_of s 6;
      radius = float_of s 7;
      ascension = float_of s 8;
      declination = float_of s 9;
      latitude = float_of s 10;
      longitude = float_of s 11;
      greenwich = float_of s 12;
      elevation = float_of s 13;
    }

-- ---- the table's rows 1 to 5

-- 1: length isn't 136
abbrev pub length_row : List ℕ → Verdict
length_row s = when (not (eqb (length s) 136)) Length

-- 2: bytes 4..7 not zero
abbrev pub word_row : List ℕ → Verdict
word_row s = when (not (eqb (read_of 4 s 4) 0)) Word

-- 3 and 4 together: fields are tried in number order, 3 before 4 for each
unfoldable pub field_rows : List ℕ → Elements → List Verdict
field_rows s e =
    field_row_of s 1 e.axis axis_in
    ∷ field_row_of s 2 e.eccentricity eccentricity_in
    ∷ field_row_of s 3 e.inclination inclination_in
    ∷ field_row_of s 4 e.node turn_in
    ∷ field_row_of s 5 e.periapsis turn_in
    ∷ field_row_of s 6 e.period period_in
    ∷ field_row_of s 7 e.radius radius_in
    ∷ field_row_of s 8 e.ascension turn_in
    ∷ field_row_of s 9 e.declination latitude_in
    ∷ field_row_of s 10 e.latitude latitude_in
    ∷ field_row_of s 11 e.longitude turn_in
    ∷ field_row_of s 12 e.greenwich turn_in
    ∷ field_row_of s 13 e.elevation elevation_in
    ∷ []

-- 5: closest distance not above R
abbrev pub close_row : Elements → Verdict
close_row e =
    let distance = closest_of e.axis e.eccentricity in
    when (not (lt e.radius distance)) (TooClose distance)

-- 3 to 5 of a record with the elements e
abbrev pub rows_from_fields : List ℕ → Elements → List Verdict
rows_from_fields s e = field_rows s e ++ close_row e ∷ []

-- 2 to 5
abbrev pub rows_from : List ℕ → Elements → List Verdict
rows_from s e = word_row s ∷ rows_from_fields s e

-- 1 to 5 of a record
abbrev pub record_rows : List ℕ → List Verdict
record_rows s = length_row s ∷ rows_from s (elements_of s)

-- ---- the reading

-- a reading answers either with the elements, or with the refusal
abbrev pub read_from : Verdict → Elements → Result Elements Refusal
read_from (Ok t) e = Ok e
read_from (Err r) e = Err r

unfoldable pub reading_of : List ℕ → Result Elements Refusal
reading_of s = read_from (first (record_rows s)) (elements_of s)

-- what a refusal of the record s returns where it names field k: its float, and its bits
abbrev pub Returns : List ℕ → Refusal → Type 0
Returns s r = 0 < field_of r → (value_of r ≡ float_of s (field_of r)) × (bits_of r ≡ bits_in s (field_of r))
