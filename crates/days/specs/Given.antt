-- What may be given as a list, as one interval more and as a summary (document 02, wish 3, refusal 12).
use Rattle.std.specs.Prelude.{ℕ, zero, suc, ◌+◌, ◌*◌, ◌/◌, ◌%◌, Bool, true, false, not, ◌&&◌, ◌||◌, List, [], ◌∷◌, ◌++◌, eqb, ltb, length}
use Rattle.words.specs.Little.{read_of}
use Rattle.finder.specs.declared.Window.{Window}
use Rattle.finder.specs.Spans.{Span, span}
use Rattle.days.specs.Summary.{summary_of}

-- ---- a list's bytes

-- interval k of the list, counted from 0; its job number and flags are not looked at
unfoldable pub span_at : List ℕ → ℕ → Span
span_at list k = span (read_of 8 list (24 * k + 8)) (read_of 8 list (24 * k + 16))

-- n intervals, from interval k on
unfoldable pub spans_from : List ℕ → ℕ → ℕ → List Span
spans_from list k zero = []
spans_from list k (suc n) = span_at list k ∷ spans_from list (suc k) n

-- all of them
unfoldable pub spans_of : List ℕ → List Span
spans_of list = spans_from list 0 (length list / 24)

-- ---- refusal 12

-- last before first; or outside the window, which ends at `high`, or under two instants after the one before: first is before `low`
unfoldable pub bad_span : ℕ → ℕ → Span → Bool
bad_span low high s = ltb s.last s.first || ltb s.first low || ltb high s.last

-- `low` is t0 for the first of them, and for each other two instants after the one before
unfoldable pub bad_spans : ℕ → ℕ → List Span → Bool
bad_spans low high [] = false
bad_spans low high (s ∷ l) = bad_span low high s || bad_spans (s.last + 2) high l

-- list not whole records, or an interval that is bad in the window
unfoldable pub bad_list : Window → List ℕ → Bool
bad_list w list = not (eqb (length list % 24) 0) || bad_spans w.t0 w.t1 (spans_of list)

-- the same bytes
unfoldable pub same : List ℕ → List ℕ → Bool
same [] [] = true
same [] (y ∷ ys) = false
same (x ∷ xs) [] = false
same (x ∷ xs) (y ∷ ys) = eqb x y && same xs ys

-- an appended piece that is not one record; or the longer list, the piece behind the list, is bad; or a summary not the list's
unfoldable pub bad_append : Window → List ℕ → List ℕ → List ℕ → Bool
bad_append w list piece summary = not (eqb (length piece) 24) || bad_list w (list ++ piece) || not (same summary (summary_of w (spans_of list)))
