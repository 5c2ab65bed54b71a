-- What is written and returned (document 01, "What the desk feeds and gets" and "Turned away"); g tells why at an instant.
use Rattle.std.specs.Prelude.{ℕ, ◌+◌, ◌*◌, ◌≤◌, List, [], ◌∷◌, ◌++◌, Bool, length}
use Rattle.std.proofs.lemmas.List.Edits.{sets}
use Rattle.geometry.specs.declared.Sight.{Sight}
use Rattle.interval.specs.declared.Interval.{Interval}
use Rattle.interval.specs.Record.{record_bytes}
use Rattle.finder.specs.declared.Found.{Found}
use Rattle.finder.specs.declared.Window.{Window}
use Rattle.finder.specs.Samples.{most_steps, ceil_div, steps_of}
use Rattle.finder.specs.Spans.{Span, list_of}
use Rattle.finder.specs.Asked.{instants_of}
use Rattle.finder.specs.Flags.{flags_of}

-- an interval's record
unfoldable pub interval_of : (ℕ → Sight) → Window → Span → Interval
interval_of g w s = record { job = w.job; flags = flags_of g w s; first = s.first; last = s.last }

-- the bytes of a list's records, one behind the other
unfoldable pub records_of : (ℕ → Sight) → Window → List Span → List ℕ
records_of g w [] = []
records_of g w (s ∷ l) = record_bytes (interval_of g w s) ++ records_of g w l

-- `out` with the records of l behind `count` records, and every other byte as it was
abbrev pub written : (ℕ → Sight) → Window → List ℕ → ℕ → List Span → List ℕ
written g w out count l = sets out (24 * count) (records_of g w l)

-- the number of intervals, and that of the instants asked
unfoldable pub found_of : (ℕ → Bool) → Window → Found
found_of f w = record { intervals = length (list_of f w); asked = length (instants_of f w) }

-- 24·ceil((n+1)/2) bytes, n steps
unfoldable pub room_of : Window → ℕ
room_of w = 24 * ceil_div (steps_of w + 1) 2

-- room for the list of any window that refusal 7 lets through: 24·2,049 bytes
abbrev pub room_for_any : ℕ
room_for_any = 24 * ceil_div (most_steps + 1) 2

-- a lent list with so much room as its window asks
abbrev pub HasRoom : Window → List ℕ → Type 0
HasRoom w out = room_of w ≤ length out
