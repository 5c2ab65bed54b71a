-- What the private functions suppose and give. No rule of document 02.
use Rattle.std.specs.Prelude.{ℕ, ◌+◌, ◌*◌, ◌≤◌, ◌≡◌, false, cond, List, [], ◌∷◌, length, take, Option, Some, None}
use Rattle.std.proofs.lemmas.List.Edits.{sets}
use Rattle.finder.specs.declared.Window.{Window}
use Rattle.finder.specs.Samples.{last_end, Good}
use Rattle.finder.specs.Spans.{Span}
use Rattle.days.specs.Days.{day_of, days_of}
use Rattle.days.specs.Summary.{summary_of, updated}
use Rattle.days.specs.Given.{spans_of, bad_span, bad_spans, bad_list}

-- a good window, and room for its summary
pub record HasRoom (w : Window) (lent : List ℕ) : Type 0 where
  pub good : Good w
  pub room : 16 * days_of w ≤ length lent

-- an interval that touches day d and ends by the last end of a window
pub record Under (s : Span) (d : ℕ) : Type 0 where
  pub forward : s.first ≤ s.last
  pub from : day_of s.first ≤ d
  pub to : d ≤ day_of s.last
  pub early : s.last ≤ last_end

-- where an interval behind these may begin
unfoldable pub next_from : ℕ → List Span → ℕ
next_from low [] = low
next_from low (s ∷ l) = next_from (s.last + 2) l

-- the summary of l stands in the lent bytes, and s may come behind l
pub record Awaits (w : Window) (l : List Span) (s : Span) (lent : List ℕ) : Type 0 where
  pub good : Good w
  pub before : bad_spans w.t0 w.t1 l ≡ false
  pub next : bad_span (next_from w.t0 l) w.t1 s ≡ false
  pub stands : take (16 * days_of w) lent ≡ summary_of w l

-- for some list l
abbrev pub AwaitsSome : Window → Span → List ℕ → Type 0
AwaitsSome w s lent = (l : List Span) × Awaits w l s lent

-- whichever list that is, the lent bytes are then updated
abbrev pub Updated : Window → Span → List ℕ → List ℕ → Type 0
Updated w s lent after = (l : List Span) → Awaits w l s lent → after ≡ updated w l s lent

-- a good list, and where an interval behind it may begin
unfoldable pub worked_of : Window → List ℕ → Option ℕ
worked_of w list = cond (bad_list w list) None (Some (next_from w.t0 (spans_of list)))

-- the summary of a good list stands from byte 0 on
abbrev pub SummedUp : Window → List ℕ → List ℕ → List ℕ → Type 0
SummedUp w list lent after = bad_list w list ≡ false → after ≡ sets lent 0 (summary_of w (spans_of list))
