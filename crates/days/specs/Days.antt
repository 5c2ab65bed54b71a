-- The days that a window touches (document 02, wish 3).
use Rattle.std.specs.Prelude.{ℕ, ◌+◌, ◌-◌, ◌*◌, ◌/◌}
use Rattle.finder.specs.declared.Window.{Window}
use Rattle.finder.specs.Spans.{Span}

-- a day has 86,400,000 ms
abbrev pub day_length : ℕ
day_length = 86400000

-- the day of an instant; days are counted from the epoch
unfoldable pub day_of : ℕ → ℕ
day_of t = t / day_length

-- the first instant of day d
unfoldable pub start_of : ℕ → ℕ
start_of d = day_length * d

-- how many days there are from the day of the instant a to that of b
unfoldable pub days_between : ℕ → ℕ → ℕ
days_between a b = day_of b - day_of a + 1

-- how many days the window touches
abbrev pub days_of : Window → ℕ
days_of w = days_between w.t0 w.t1

-- at most so many: those of 31 days, and one more where it ends at their very end
abbrev pub most_days : ℕ
most_days = 32

-- and how many days an interval touches
abbrev pub days_under : Span → ℕ
days_under s = days_between s.first s.last
