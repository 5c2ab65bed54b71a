-- Document 01's number, field and returned number for each refusal (document 01, "Turned away").
use Rattle.std.specs.Prelude.{ℕ, ◌+◌, Float}
use Rattle.std.specs.Float.{binary64}
use Rattle.std.specs.Float.Ieee.{of_bits, to_bits}
use Rattle.refusal.specs.declared.Refusal.{Refusal}
use Rattle.refusal.specs.declared.Refusal.TheVariants.{Length, Word, NotFinite, OutOfRange, TooClose, Window, Step, Question, Room}

-- the table's number. 10 was a search of Kepler's that did not end; it is not used again (document 02, wish 6)
abbrev pub number_of : Refusal → ℕ
number_of Length = 1
number_of Word = 2
number_of (NotFinite k x b) = 3
number_of (OutOfRange k x) = 4
number_of (TooClose d) = 5
number_of Window = 6
number_of Step = 7
number_of Question = 8
number_of Room = 9

-- field k that offends, or 0
abbrev pub field_of : Refusal → ℕ
field_of Length = 0
field_of Word = 0
field_of (NotFinite k x b) = k
field_of (OutOfRange k x) = k
field_of (TooClose d) = 0
field_of Window = 0
field_of Step = 0
field_of Question = 0
field_of Room = 0

-- 0.0
abbrev pub zero : Float
zero = of_bits binary64 0

-- the number returned: the field's, the closest distance, or 0.0
abbrev pub value_of : Refusal → Float
value_of Length = zero
value_of Word = zero
value_of (NotFinite k x b) = x
value_of (OutOfRange k x) = x
value_of (TooClose d) = d
value_of Window = zero
value_of Step = zero
value_of Question = zero
value_of Room = zero

-- its bits; for a field that is NaN or infinite they are the record's own, which tell one NaN from another
abbrev pub bits_of : Refusal → ℕ
bits_of Length = 0
bits_of Word = 0
bits_of (NotFinite k x b) = b
bits_of (OutOfRange k x) = to_bits binary64 x
bits_of (TooClose d) = to_bits binary64 d
bits_of Window = 0
bits_of Step = 0
bits_of Question = 0
bits_of Room = 0

-- how many rows are tried before the refusal's own: in the table's order, but 3 and 4 together, the thirteen fields in number order
abbrev pub order_of : Refusal → ℕ
order_of Length = 0
order_of Word = 1
order_of (NotFinite k x b) = 1 + k
order_of (OutOfRange k x) = 1 + k
order_of (TooClose d) = 15
order_of Window = 16
order_of Step = 17
order_of Question = 18
order_of Room = 19
