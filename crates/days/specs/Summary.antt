-- The summary's bytes (document 02, wish 3).
use Rattle.std.specs.Prelude.{ℕ, zero, suc, ◌-◌, ◌*◌, List, [], ◌∷◌, ◌++◌}
use Rattle.std.proofs.lemmas.List.Edits.{sets}
use Rattle.words.specs.Little.{bytes_of}
use Rattle.finder.specs.declared.Window.{Window}
use Rattle.finder.specs.Spans.{Span}
use Rattle.days.specs.Days.{day_of, days_of, days_under}
use Rattle.days.specs.Counts.{instants_in, touching}

-- 16-byte records: day u32, intervals touching it u32, instants u64
unfoldable pub day_bytes : ℕ → ℕ → ℕ → List ℕ
day_bytes d intervals instants = bytes_of 4 d ++ bytes_of 4 intervals ++ bytes_of 8 instants

-- the record of day d
unfoldable pub day_record : List Span → ℕ → List ℕ
day_record l d = day_bytes d (touching l d) (instants_in l d)

-- the records of n days, from day d on
unfoldable pub records_from : List Span → ℕ → ℕ → List ℕ
records_from l d zero = []
records_from l d (suc n) = day_record l d ++ records_from l (suc d) n

-- one for each day that the window touches, in order
unfoldable pub summary_of : Window → List Span → List ℕ
summary_of w l = records_from l (day_of w.t0) (days_of w)

-- an interval later than all others updates only the days that it touches: their records become those of the longer list
unfoldable pub updated : Window → List Span → Span → List ℕ → List ℕ
updated w l s summary = sets summary (16 * (day_of s.first - day_of w.t0)) (records_from (l ++ s ∷ []) (day_of s.first) (days_under s))
