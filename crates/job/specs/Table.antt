-- The table of refusals, in order (document 01, "Turned away").
use Rattle.std.specs.Prelude.{ℕ, Bool, not, ◌&&◌, ◌||◌, List, [], ◌∷◌, ◌++◌, eqb, ltb, leb}
use Rattle.words.specs.Little.{read_of}
use Rattle.refusal.specs.Rows.{Verdict, when}
use Rattle.refusal.specs.declared.Refusal.TheVariants as refusal
use Rattle.elements.specs.Reading.{record_rows}
use Rattle.finder.specs.declared.Window.{Window}
use Rattle.finder.specs.Samples.{last_end, longest_step, most_steps, steps_of}
use Rattle.finder.specs.Records.{room_of}

-- ---- what stands in a record beside its fields (document 01, "What the desk feeds and gets")

-- 0: job number, u32; 112, 120: window start t0 and end t1, u64 ms; 128: step, u32 ms
unfoldable pub window_of : List ℕ → Window
window_of s = record { job = read_of 4 s 0; t0 = read_of 8 s 112; t1 = read_of 8 s 120; step = read_of 4 s 128 }

-- 132: question, u32: 1 hidden, 2 visible
abbrev pub question_of : List ℕ → ℕ
question_of s = read_of 4 s 132

-- ---- the tests of 6 to 9

-- t0 ≥ t1 or t1 > 2,678,400,000
unfoldable pub bad_window : Window → Bool
bad_window w = leb w.t1 w.t0 || ltb last_end w.t1

-- step 0 or above 1,048,576, or more than 4,096 steps
unfoldable pub bad_step : Window → Bool
bad_step w = eqb w.step 0 || ltb longest_step w.step || ltb most_steps (steps_of w)

-- question not 1 or 2
unfoldable pub bad_question : ℕ → Bool
bad_question q = not (eqb q 1) && not (eqb q 2)

-- room under 24·ceil((n+1)/2) bytes, n steps
unfoldable pub no_room_of : Window → ℕ → Bool
no_room_of w room = ltb room (room_of w)

-- ---- rows 6 to 9

abbrev pub window_row : Window → Verdict
window_row w = when (bad_window w) refusal.Window

abbrev pub step_row : Window → Verdict
step_row w = when (bad_step w) refusal.Step

abbrev pub question_row : ℕ → Verdict
question_row q = when (bad_question q) refusal.Question

abbrev pub room_row : Window → ℕ → Verdict
room_row w room = when (no_room_of w room) refusal.Room

-- ---- the table

-- 6 to 8, of a window and a question
abbrev pub rows_to_question : Window → ℕ → List Verdict
rows_to_question w q = window_row w ∷ step_row w ∷ question_row q ∷ []

-- 6 to 9, of a window, a question and a list with room for so many bytes
abbrev pub rows_from_window : Window → ℕ → ℕ → List Verdict
rows_from_window w q room = rows_to_question w q ++ (room_row w room ∷ [])

-- 1 to 9, of a record and a list with room for so many bytes
unfoldable pub table_of : List ℕ → ℕ → List Verdict
table_of s room = record_rows s ++ rows_from_window (window_of s) (question_of s) room

-- 1 to 8, of a record: every row but 9, which is given only where a list is written (document 02, wish 3)
unfoldable pub table_but_room : List ℕ → List Verdict
table_but_room s = record_rows s ++ rows_to_question (window_of s) (question_of s)
