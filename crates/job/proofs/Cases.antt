-- The job's cases, each from what its parts answered: a refusal stops, and a pass hands on to the rows behind it.
use Prim.Native.Nat.{ℕ}
use mathlib.Core.Path.{◌≡◌, ◌∙◌}
use mathlib.Core.List.{List}
use Rattle.std.specs.Prelude.{Ok, Err}
use Rattle.refusal.specs.Rows.{passed, ◌then◌, first}
use Rattle.refusal.specs.declared.Refusal.{Refusal}
use Rattle.refusal.proofs.Order.{first-append, first-last, stops, goes, first-exactly, passed-exactly}
use Rattle.elements.specs.Reading.{elements_of, record_rows, reading_of}
use Rattle.elements.specs.declared.reading.Elements.{Elements}
use Rattle.elements.proofs.Rows.{ordered}
use Rattle.elements.proofs.Exactly.{read-exactly, refused-exactly, read_whole}
use Rattle.finder.specs.declared.Window.{Window}
use Rattle.job.specs.Table.{window_of, question_of, room_row, rows_to_question, rows_from_window, table_of, table_but_room}

-- ---- a table in two parts

-- 6 to 8, then 9
pub window_parts : (w : Window) (q room : ℕ) → first (rows_from_window w q room) ≡ (first (rows_to_question w q) then room_row w room)
window_parts w q room = first-last (rows_to_question w q) (room_row w room)

-- 1 to 5, then 6 to 9
pub table_parts : (s : List ℕ) (room : ℕ) → first (table_of s room) ≡ (first (record_rows s) then first (rows_from_window (window_of s) (question_of s) room))
unfolding table_of
table_parts s room = first-append (record_rows s) (rows_from_window (window_of s) (question_of s) room)

-- 1 to 5, then 6 to 8
pub admit_parts : (s : List ℕ) → first (table_but_room s) ≡ (first (record_rows s) then first (rows_to_question (window_of s) (question_of s)))
unfolding table_but_room
admit_parts s = first-append (record_rows s) (rows_to_question (window_of s) (question_of s))

-- ---- by what each part answered

module _ (s : List ℕ) where
  -- a record that is not read is refused as its reading is
  pub unread : (r : Refusal) → reading_of s ≡ Err r → first (record_rows s) ≡ Err r
  unread r h = (first-exactly (record_rows s) (ordered s) r).1 ((refused-exactly s r).0 h)

  -- and one that is read has passed them
  pub was_read : (e : Elements) → reading_of s ≡ Ok e → first (record_rows s) ≡ passed
  was_read e h = (passed-exactly (record_rows s)).1 ((read-exactly s e).0 h).0

  -- and then the elements are the record's
  pub elements_read : (e : Elements) → reading_of s ≡ Ok e → e ≡ elements_of s
  elements_read e h = ((read-exactly s e).0 h).1

  module _ (room : ℕ) where
    pub unread_refused : (r : Refusal) → reading_of s ≡ Err r → first (table_of s room) ≡ Err r
    unread_refused r h = stops _ _ _ (table_parts s room) r (unread r h)

    module _ (e : Elements) (h : reading_of s ≡ Ok e) where
      from_window : first (table_of s room) ≡ (first (rows_to_question (window_of s) (question_of s)) then room_row (window_of s) room)
      from_window = goes _ _ _ (table_parts s room) (was_read e h) ∙ window_parts (window_of s) (question_of s) room

      -- one that is read is refused as rows 6 to 8 say
      pub turned_away : (r : Refusal) → first (rows_to_question (window_of s) (question_of s)) ≡ Err r → first (table_of s room) ≡ Err r
      turned_away r v = stops _ _ _ from_window r v

      -- or else as row 9 says
      pub let_in : first (rows_to_question (window_of s) (question_of s)) ≡ passed → first (table_of s room) ≡ room_row (window_of s) room
      let_in v = goes _ _ _ from_window v

  -- so it is where no list is written
  pub unread_away : (r : Refusal) → reading_of s ≡ Err r → first (table_but_room s) ≡ Err r
  unread_away r h = stops _ _ _ (admit_parts s) r (unread r h)

  pub read_so : (e : Elements) → reading_of s ≡ Ok e → first (table_but_room s) ≡ first (rows_to_question (window_of s) (question_of s))
  read_so e h = goes _ _ _ (admit_parts s) (was_read e h)

-- for the check of `admit`
pub ruleset admits = (unread_away, read_so, read_whole)
