-- Room for 2,049 intervals is enough for any job: then row 9 never applies, the table says what it says without that row, and what is answered does not depend on the room.
use Prim.Native.Nat.{ℕ, ◌-◌, ◌≤◌}
use mathlib.Core.Path.{◌≡◌, refl, sym, ap, ◌∙◌}
use mathlib.Core.Bool.{Bool}
use mathlib.Core.List.{List}
use native.Mathlib.Omega.{arith}
use borrow.Author.Tests.{le-ltb, le-leb}
use lib.Dec.{lit<}
use Rattle.std.specs.Prelude.{Ok, Err}
use Rattle.refusal.specs.Rows.{Verdict, passed, when, ◌then◌, first, row_at}
use Rattle.refusal.specs.declared.Refusal.TheVariants as refusal
use Rattle.refusal.proofs.Order.{not-both}
use Rattle.elements.specs.Reading.{field_rows, record_rows}
use Rattle.finder.specs.declared.Window.{Window}
use Rattle.finder.specs.Samples.{most_steps, steps_of}
use Rattle.finder.specs.Records.{room_of, room_for_any}
use Rattle.job.specs.Table.{window_of, question_of, no_room_of, room_row, rows_to_question, rows_from_window, table_of, table_but_room}
use Rattle.job.specs.Outcome.{answers_in, sights_in, outcome_from, records_from, outcome_of, records_in}
use Rattle.job.specs.Reply.{room_for_reply, reply_of}
use Rattle.job.proofs.Laws.{few-steps, let_through}
use Rattle.job.proofs.Exactly.{refused-exactly}
use Rattle.job.proofs.Cases.{window_parts, table_parts, admit_parts}

-- a window of at most 4,096 steps has room
row-passes : (w : Window) (room : ℕ) → steps_of w ≤ most_steps → room_for_any ≤ room → room_row w room ≡ passed
unfolding no_room_of room_of
row-passes w room few enough = ap (λ (t : Bool). when t refusal.Room) (le-ltb room (room_of w) (omega arith))

-- so with so much room no job is refused for it
pub room_never : (s : List ℕ) (room : ℕ) → room_for_any ≤ room → outcome_of s room ≡ Err refusal.Room → ⊥
unfolding table_of field_rows row_at
room_never s room enough h =
    let gives = (refused-exactly s room refusal.Room).0 h in
    let few = few-steps (window_of s) (gives.none_before 16 (lit< tt)) (gives.none_before 17 (lit< tt)) in
    not-both (row-passes (window_of s) room few enough) gives.applies

-- rows 6 to 9 are then rows 6 to 8, since more steps than 4,096 are refused before row 9
any_room : (w : Window) (q room : ℕ) → room_for_any ≤ room → first (rows_from_window w q room) ≡ first (rows_to_question w q)
unfolding ◌then◌
any_room w q room enough = window_parts w q room ∙ by (first (rows_to_question w q)) refl
  where
    by : (v : Verdict) → first (rows_to_question w q) ≡ v → (v then room_row w room) ≡ v
    by (Ok t) h = row-passes w room (let_through w q h).1 enough
    by (Err r) h = refl

-- and the table says the same as without row 9
pub roomy_verdict : (s : List ℕ) (room : ℕ) → room_for_any ≤ room → first (table_of s room) ≡ first (table_but_room s)
roomy_verdict s room enough =
    table_parts s room ∙ ap (λ (v : Verdict). first (record_rows s) then v) (any_room (window_of s) (question_of s) room enough) ∙ sym (admit_parts s)

module _ (s : List ℕ) (a b : ℕ) (p : room_for_any ≤ a) (r : room_for_any ≤ b) where
  same_verdict : first (table_of s a) ≡ first (table_of s b)
  same_verdict = roomy_verdict s a p ∙ sym (roomy_verdict s b r)

  same_outcome : outcome_of s a ≡ outcome_of s b
  unfolding outcome_of
  same_outcome = ap (λ (v : Verdict). outcome_from v (answers_in s) (window_of s)) same_verdict

  same-records : records_in s a ≡ records_in s b
  unfolding records_in
  same-records = ap (λ (v : Verdict). records_from v (answers_in s) (sights_in s) (window_of s)) same_verdict

-- with 24 bytes more for the closing record
pub reply-roomy : (s : List ℕ) (room : ℕ) → room_for_reply ≤ room → reply_of s room ≡ reply_of s room_for_reply
unfolding reply_of
reply-roomy s room h =
    let lent : room_for_any ≤ room - 24 = omega arith in
    let least : room_for_any ≤ room_for_reply - 24 = omega arith in
    rw (le-leb 24 room (omega arith), same-records s (room - 24) (room_for_reply - 24) lent least, same_outcome s (room - 24) (room_for_reply - 24) lent least)
