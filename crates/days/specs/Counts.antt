-- What is counted of a day, over its instants (document 02, wish 3).
use Rattle.std.specs.Prelude.{ℕ, zero, suc, ◌+◌, ◌-◌, Bool, cond, List, [], ◌∷◌, ltb}
use Rattle.finder.specs.Spans.{Span}
use Rattle.finder.specs.Fits.{within, listed}
use Rattle.days.specs.Days.{day_length, start_of}

-- of the n instants from a on, how many have p
unfoldable pub count_of : (ℕ → Bool) → ℕ → ℕ → ℕ
count_of p a zero = 0
count_of p a (suc n) = cond (p a) 1 0 + count_of p (suc a) n

-- instants: those in some interval of the list and in day d
unfoldable pub instants_in : List Span → ℕ → ℕ
instants_in l d = count_of (listed l) (start_of d) day_length

-- how many instants of an interval are in day d
unfoldable pub instants_under : Span → ℕ → ℕ
instants_under s d = count_of (within s) (start_of d) day_length

-- an interval touches day d: it has an instant in that day
abbrev pub touches : Span → ℕ → Bool
touches s d = ltb 0 (instants_under s d)

-- how many intervals of the list touch day d
unfoldable pub touching : List Span → ℕ → ℕ
touching [] d = 0
touching (s ∷ l) d = cond (touches s d) 1 0 + touching l d

-- ---- the sum of all days

-- the instants of n days, from day d on
unfoldable pub sum_from : List Span → ℕ → ℕ → ℕ
sum_from l d zero = 0
sum_from l d (suc n) = instants_in l d + sum_from l (suc d) n

-- the instants of a list: those of each interval, whose first and last both belong to it
unfoldable pub instants_listed : List Span → ℕ
instants_listed [] = 0
instants_listed (s ∷ l) = (s.last - s.first + 1) + instants_listed l
