-- Each refusal is given exactly if its row applies and none before does, a list exactly if every row passes, and what follows from each.
use Prim.Native.Nat.{ℕ, ◌+◌, ◌≤◌, ◌<◌}
use mathlib.Core.Path.{◌≡◌, refl, sym, ap, ◌∙◌}
use mathlib.Core.Logic.{◌↔◌, ◌⊎◌, inl, inr}
use mathlib.Core.Bool.{Bool, true, false, not}
use mathlib.Core.List.{List}
use native.Mathlib.Omega.{arith}
use lib.Dec.{T}
use lib.ListN.{length}
use lib.Seq.{sets}
use lib.Ieee.{Float}
use lib.Ieee.Positive.{positive}
use lib.Ieee.Scale.{finite}
use Rattle.std.specs.Prelude.{Ok, Err}
use Rattle.words.specs.Little.{Bytes}
use Rattle.refusal.specs.Refusal.{order_of}
use Rattle.refusal.specs.Rows.{Verdict, passed, when, ◌then◌, first, row_at, Gives, Passes}
use Rattle.refusal.specs.declared.Refusal.{Refusal}
use Rattle.refusal.specs.declared.Refusal.TheVariants as refusal
use Rattle.refusal.proofs.Order.{not-both, row-append, passed-exactly, Each, Ordered, first-each, each_weaker, each_append, first-exactly}
use Rattle.refusal.proofs.Order.Each.{done, ◌also◌}
use Rattle.elements.specs.Field.{bits_in, float_of, judge}
use Rattle.elements.specs.Closest.{closest_of}
use Rattle.elements.specs.Reading.{WholeRecord, elements_of, field_rows, record_rows, reading_of, Returns}
use Rattle.elements.specs.declared.reading.Elements.{Elements}
use Rattle.elements.specs.Accepted.{Accepted}
use Rattle.elements.proofs.Rows.{Told, plain, told, ordered, passed-accepted, field_row, named_later, length-passed}
use Rattle.elements.proofs.Exactly as reading
use Rattle.finder.specs.declared.Found.{Found}
use Rattle.finder.specs.declared.Window.{Window}
use Rattle.finder.specs.Samples.{most_steps, Good, steps_of}
use Rattle.finder.specs.Spans.{list_of}
use Rattle.finder.specs.Records.{records_of, found_of, room_of}
use Rattle.job.specs.Table.{window_of, question_of, bad_window, bad_step, bad_question, no_room_of, room_row, rows_to_question, rows_from_window, table_of}
use Rattle.job.specs.Outcome.{outcome_by, records_by, answers_in, sights_in, outcome_from, records_from, outcome_of, records_in, list_after_of}
use Rattle.job.proofs.Laws.{both, good, let_through, few-steps, one-or_two, roomy}
use Rattle.job.proofs.Cases.{table_parts, unread_refused, turned_away, let_in, elements_read}

-- ---- the outcome and the verdict

module _ (f : ℕ → Bool) (w : Window) where
  refused-from : (v : Verdict) (r : Refusal) → outcome_from v f w ≡ Err r → v ≡ Err r
  unfolding outcome_from
  refused-from (Ok t) r h = let z : ◌≡◌ {A = ℕ} 0 1 = cc in absurd (omega arith)
  refused-from (Err p) r h = cc

  from-refused : (v : Verdict) (r : Refusal) → v ≡ Err r → outcome_from v f w ≡ Err r
  unfolding outcome_from
  from-refused v r h = rw h

  listed-from : (v : Verdict) (found : Found) → outcome_from v f w ≡ Ok found → v ≡ passed
  unfolding outcome_from
  listed-from (Ok t) found h = refl
  listed-from (Err p) found h = let z : ◌≡◌ {A = ℕ} 0 1 = cc in absurd (omega arith)

  from-passed : (v : Verdict) → v ≡ passed → outcome_from v f w ≡ Ok (found_of f w)
  unfolding outcome_from
  from-passed v h = rw h

-- a refusal of rows whose first part does not pass is the first part's
first_part : (a b : Verdict) (r : Refusal) → (a then b) ≡ Err r → (a ≡ passed → ⊥) → a ≡ Err r
unfolding ◌then◌
first_part (Ok t) b r h stopped = absurd (stopped refl)
first_part (Err q) b r h stopped = h

module _ (s : List ℕ) (room : ℕ) where
  -- ---- each row of the table gives only refusals of its own order, which hand back what the table says

  told-all : Each (Told s) 0 (table_of s room)
  unfolding table_of field_rows
  told-all =
      let w = window_of s in
      each_append (record_rows s) (rows_from_window w (question_of s) room) (told s)
      ((λ r h. plain s (bad_window w) refusal.Window r refl h)
      also (λ r h. plain s (bad_step w) refusal.Step r refl h)
      also (λ r h. plain s (bad_question (question_of s)) refusal.Question r refl h)
      also (λ r h. plain s (no_room_of w room) refusal.Room r refl h)
      also done)

  rows_ordered : Ordered (table_of s room)
  rows_ordered = each_weaker (λ n r t. t.0) told-all

  -- ---- a refusal

  pub refused-first : (r : Refusal) → outcome_of s room ≡ Err r → first (table_of s room) ≡ Err r
  unfolding outcome_of
  refused-first r h = refused-from (answers_in s) (window_of s) (first (table_of s room)) r h

  pub first-refused : (r : Refusal) → first (table_of s room) ≡ Err r → outcome_of s room ≡ Err r
  unfolding outcome_of
  first-refused r h = from-refused (answers_in s) (window_of s) (first (table_of s room)) r h

  -- is given exactly if its row applies and each row before it passes
  pub refused-exactly : (r : Refusal) → (outcome_of s room ≡ Err r) ↔ Gives (table_of s room) (order_of r) r
  refused-exactly r =
      let exactly = first-exactly (table_of s room) rows_ordered r in
      (λ h. exactly.0 (refused-first r h), λ g. first-refused r (exactly.1 g))

  -- so field k is refused by its number, where each row before its own passes
  module _ (k : ℕ) (least : 1 ≤ k) (most : k ≤ 13) (before : (j : ℕ) → j < 1 + k → row_at (table_of s room) j ≡ passed) where
    abbrev x : Float
    x = float_of s k

    own : (accepted : Bool) × (row_at (table_of s room) (1 + k) ≡ judge s k x accepted)
    unfolding table_of field_rows
    own =
        let row = field_row s k least most in
        (row.0, row-append (record_rows s) (rows_from_window (window_of s) (question_of s) room) (1 + k) (omega arith) ∙ row.1)

    -- with its bits, where it is NaN or infinite
    pub not_finite_refused : finite x ≡ false → outcome_of s room ≡ Err (refusal.NotFinite k x (bits_in s k))
    unfolding judge
    not_finite_refused h = (refused-exactly (refusal.NotFinite k x (bits_in s k))).1 (record { applies = own.1 ∙ rw h; none_before = before })

    -- with itself, where it is finite and its row does not pass
    pub out_of_range_refused : finite x ≡ true → (row_at (table_of s room) (1 + k) ≡ passed → ⊥) → outcome_of s room ≡ Err (refusal.OutOfRange k x)
    unfolding judge
    out_of_range_refused h out = (refused-exactly (refusal.OutOfRange k x)).1 (record { applies = own.1 ∙ rw h (by own.0 (λ e. out (own.1 ∙ rw (h, e)))); none_before = before })
      where
        by : (accepted : Bool) → (accepted ≡ true → ⊥) → when (not accepted) (refusal.OutOfRange k x) ≡ Err (refusal.OutOfRange k x)
        by true never = absurd (never refl)
        by false never = refl

  -- hands back the field's own float and bits, where it names one
  pub refused_returns : (r : Refusal) → Bytes s → outcome_of s room ≡ Err r → Returns s r
  unfolding table_of row_at
  refused_returns r b h named =
      let later : 0 < order_of r = named_later r named in
      let w = length-passed s (((refused-exactly r).0 h).none_before 0 later) in
      (first-each (table_of s room) told-all r (refused-first r h)).1.1 w b named

  -- and refusal 5 the closest distance, which is a finite number above 0
  pub refused_distance : (d : Float) → outcome_of s room ≡ Err (refusal.TooClose d) → (d ≡ closest_of (float_of s 1) (float_of s 2)) × T (positive d)
  unfolding table_of field_rows row_at
  refused_distance d h =
      let r = refusal.TooClose d in
      let applies = ((refused-exactly r).0 h).applies in
      let stopped : first (record_rows s) ≡ passed → ⊥ = λ p. not-both ((passed-exactly (record_rows s)).0 p 15) applies in
      let own = first_part _ _ r (sym (table_parts s room) ∙ refused-first r h) stopped in
      reading.refused_distance s d ((reading.refused-exactly s r).1 ((first-exactly (record_rows s) (ordered s) r).0 own))

  -- ---- a list

  pub listed-first : {found : Found} → outcome_of s room ≡ Ok found → first (table_of s room) ≡ passed
  unfolding outcome_of
  listed-first {found} h = listed-from (answers_in s) (window_of s) (first (table_of s room)) found h

  first-listed : first (table_of s room) ≡ passed → outcome_of s room ≡ Ok (found_of (answers_in s) (window_of s))
  unfolding outcome_of
  first-listed h = from-passed (answers_in s) (window_of s) (first (table_of s room)) h

  -- is given exactly if every row passes
  pub listed-exactly : (outcome_of s room ≡ Ok (found_of (answers_in s) (window_of s))) ↔ Passes (table_of s room)
  listed-exactly =
      let exactly = passed-exactly (table_of s room) in
      (λ h. exactly.0 (listed-first h), λ p. first-listed (exactly.1 p))

  -- a list or a refusal
  pub list-or_refusal : (outcome_of s room ≡ Ok (found_of (answers_in s) (window_of s))) ⊎ ((r : Refusal) × (outcome_of s room ≡ Err r))
  list-or_refusal = by (first (table_of s room)) refl
    where
      by : (v : Verdict) → first (table_of s room) ≡ v → (outcome_of s room ≡ Ok (found_of (answers_in s) (window_of s))) ⊎ ((r : Refusal) × (outcome_of s room ≡ Err r))
      by (Ok t) e = inl (first-listed e)
      by (Err r) e = inr (r, first-refused r e)

  module _ {found : Found} (h : outcome_of s room ≡ Ok found) where
    -- with the numbers that the finder counts
    pub listed-found : found ≡ found_of (answers_in s) (window_of s)
    listed-found = let same = sym h ∙ first-listed (listed-first h) in cc

    pub listed-intervals : found.intervals ≡ (found_of (answers_in s) (window_of s)).intervals
    listed-intervals = ap (λ (x : Found). x.intervals) listed-found

    pub listed-asked : found.asked ≡ (found_of (answers_in s) (window_of s)).asked
    listed-asked = ap (λ (x : Found). x.asked) listed-found

    -- the list afterwards has the records
    pub listed-bytes : (list : List ℕ) → length list ≡ room → list_after_of s list ≡ sets list 0 (records_of (sights_in s) (window_of s) (list_of (answers_in s) (window_of s)))
    unfolding list_after_of records_in records_from
    listed-bytes list e = rw (e, listed-first h)

    passes : Passes (table_of s room)
    passes = (passed-exactly (table_of s room)).0 (listed-first h)

    pub listed-whole : WholeRecord s
    unfolding table_of row_at
    listed-whole = length-passed s (passes 0)

    pub listed-accepted : Accepted (elements_of s)
    listed-accepted = passed-accepted s ((passed-exactly (record_rows s)).0 (both _ _ (sym (table_parts s room) ∙ listed-first h)).0)

    pub listed-good : Good (window_of s)
    unfolding table_of field_rows row_at
    listed-good = good (window_of s) (passes 16) (passes 17)

    pub listed-few : steps_of (window_of s) ≤ most_steps
    unfolding table_of field_rows row_at
    listed-few = few-steps (window_of s) (passes 16) (passes 17)

    pub listed-question : (question_of s ≡ 1) ⊎ (question_of s ≡ 2)
    unfolding table_of field_rows row_at
    listed-question = one-or_two (question_of s) (passes 18)

    pub listed-roomy : room_of (window_of s) ≤ room
    unfolding table_of field_rows row_at
    listed-roomy = roomy (window_of s) room (passes 19)

-- a refusal leaves every byte of the list
pub refused-keeps : (s list : List ℕ) (r : Refusal) → outcome_of s (length list) ≡ Err r → list_after_of s list ≡ list
unfolding list_after_of records_in records_from
refused-keeps s list r h = rw (refused-first s (length list) r h)

-- ---- the job's answer, by what its parts answered

module _ (s : List ℕ) where
  pub unread_outcome : (room : ℕ) (r : Refusal) → reading_of s ≡ Err r → outcome_of s room ≡ Err r
  unread_outcome room r h = first-refused s room r (unread_refused s room r h)

  pub unread_bytes : (list : List ℕ) (r : Refusal) → reading_of s ≡ Err r → list_after_of s list ≡ list
  unread_bytes list r h = refused-keeps s list r (unread_outcome (length list) r h)

  module _ (e : Elements) (h : reading_of s ≡ Ok e) where
    pub turned_outcome : (room : ℕ) (r : Refusal) → first (rows_to_question (window_of s) (question_of s)) ≡ Err r → outcome_of s room ≡ Err r
    turned_outcome room r v = first-refused s room r (turned_away s room e h r v)

    pub turned_bytes : (list : List ℕ) (r : Refusal) → first (rows_to_question (window_of s) (question_of s)) ≡ Err r → list_after_of s list ≡ list
    turned_bytes list r v = refused-keeps s list r (turned_outcome (length list) r v)

    module _ (v : first (rows_to_question (window_of s) (question_of s)) ≡ passed) where
      pub let_in_outcome : (room : ℕ) → outcome_of s room ≡ outcome_by (room_row (window_of s) room) e (question_of s) (window_of s)
      unfolding outcome_of
      let_in_outcome room = rw (let_in s room e h v, elements_read s e h) refl

      pub let_in_bytes : (list : List ℕ) → list_after_of s list ≡ sets list 0 (records_by (room_row (window_of s) (length list)) e (question_of s) (window_of s))
      unfolding list_after_of records_in
      let_in_bytes list = rw (let_in s (length list) e h v, elements_read s e h) refl

-- and a window that rows 6 to 8 let through is a good one
pub good_window : (w : Window) (q : ℕ) → first (rows_to_question w q) ≡ passed → Good w
good_window w q h = (let_through w q h).0

-- for the check of `list`
pub ruleset answers = (unread_outcome, unread_bytes, turned_outcome, turned_bytes, let_in_outcome, let_in_bytes, reading.read_whole, good_window)
