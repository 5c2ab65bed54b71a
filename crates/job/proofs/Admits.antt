-- A record without a list: rows 1 to 8 turn it away or let it in, as the table does its job with room for any list.
use Prim.Native.Nat.{ℕ}
use mathlib.Core.Path.{◌≡◌, refl, sym, ap, ◌∙◌}
use mathlib.Core.Logic.{◌↔◌}
use mathlib.Core.List.{List}
use native.Mathlib.Omega.{arith}
use native.Mathlib.Nat.{le_refl}
use Rattle.std.specs.Prelude.{Ok, Err}
use Rattle.refusal.specs.Rows.{Verdict, passed, ◌then◌, first}
use Rattle.refusal.specs.declared.Refusal.{Refusal}
use Rattle.elements.specs.Reading.{record_rows}
use Rattle.finder.specs.declared.Found.{Found}
use Rattle.finder.specs.declared.Window.{Window}
use Rattle.finder.specs.Samples.{Good}
use Rattle.finder.specs.Records.{room_for_any}
use Rattle.job.specs.Table.{window_of, question_of, room_row, rows_to_question, rows_from_window, table_but_room}
use Rattle.job.specs.Outcome.{outcome_of}
use Rattle.job.specs.Admission.{Admission, admission_from, admission_of}
use Rattle.job.proofs.Laws.{both, let_through}
use Rattle.job.proofs.Cases.{window_parts, table_parts, admit_parts}
use Rattle.job.proofs.Exactly.{refused-first, first-refused, listed-first}
use Rattle.job.proofs.Roomy.{roomy_verdict}

-- ---- an admission and the verdict

module _ (w : Window) where
  pub from-refused : (v : Verdict) (r : Refusal) → v ≡ Err r → Err r ≡ admission_from v w
  unfolding admission_from
  from-refused v r h = rw h

-- the window that is let in
abbrev window_in : Window → Admission → Window
window_in w (Ok v) = v
window_in w (Err r) = w

-- the refusal, where there is one
abbrev refusal_in : Refusal → Admission → Refusal
refusal_in r (Ok v) = r
refusal_in r (Err q) = q

away-from : (v : Verdict) (w : Window) (r : Refusal) → admission_from v w ≡ Err r → v ≡ Err r
unfolding admission_from
away-from (Ok t) w r h = let z : ◌≡◌ {A = ℕ} 0 1 = cc in absurd (omega arith)
away-from (Err q) w r h = ap (λ (x : Refusal). Err x) (ap (refusal_in r) h)

admitted_from : (v : Verdict) (w x : Window) → admission_from v w ≡ Ok x → (v ≡ passed) × (x ≡ w)
unfolding admission_from
admitted_from (Ok t) w x h = (refl, sym (ap (window_in w) h))
admitted_from (Err r) w x h = let z : ◌≡◌ {A = ℕ} 0 1 = cc in absurd (omega arith)

module _ (s : List ℕ) where
  -- a window that is let in is the record's own, and a good one
  pub admitted_good : {w : Window} → admission_of s ≡ Ok w → (w ≡ window_of s) × Good w
  unfolding admission_of
  admitted_good {w} h =
      let a = admitted_from (first (table_but_room s)) (window_of s) w h in
      let rows = both _ _ (sym (admit_parts s) ∙ a.0) in
      (a.1, rw a.1 (let_through (window_of s) (question_of s) rows.1).0)

  -- a record whose list is made is let in
  pub listed_admitted : (room : ℕ) {found : Found} → outcome_of s room ≡ Ok found → admission_of s ≡ Ok (window_of s)
  unfolding admission_of admission_from ◌then◌
  listed_admitted room h =
      let w = window_of s in
      let q = question_of s in
      let parts = both (first (record_rows s)) (first (rows_from_window w q room)) (sym (table_parts s room) ∙ listed-first s room h) in
      let rows = both (first (rows_to_question w q)) (room_row w room) (sym (window_parts w q room) ∙ parts.1) in
      rw (admit_parts s, parts.0, rows.0) refl

  -- a record is turned away exactly as its job is refused with room for any list
  pub away-exactly : (r : Refusal) → (admission_of s ≡ Err r) ↔ (outcome_of s room_for_any ≡ Err r)
  unfolding admission_of
  away-exactly r =
      let any = roomy_verdict s room_for_any (le_refl room_for_any) in (
        λ h. first-refused s room_for_any r (any ∙ away-from (first (table_but_room s)) (window_of s) r h),
        λ h. sym (from-refused (window_of s) (first (table_but_room s)) r (sym any ∙ refused-first s room_for_any r h)),
      )
