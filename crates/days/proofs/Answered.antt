-- Which answer is given when: the job's own refusal, then 11, then 12, then the summary, each exactly where its test says so and none before does.
use Prim.Native.Nat.{ℕ, ◌*◌, ◌≤◌, ◌<◌}
use mathlib.Core.Path.{◌≡◌, refl, sym, ap, ◌∙◌}
use mathlib.Core.Logic.{◌↔◌}
use mathlib.Core.Bool.{Bool, true, false, cond}
use mathlib.Core.List.{List}
use native.Mathlib.Omega.{arith}
use borrow.Author.Tests.{ltb-true, ltb-false, lt-ltb, le-ltb}
use Rattle.std.specs.Prelude.{Ok, Err}
use Rattle.refusal.specs.declared.Refusal.{Refusal}
use Rattle.finder.specs.declared.Window.{Window}
use Rattle.job.specs.Table.{window_of}
use Rattle.job.specs.Admission.{Admission, admission_of}
use Rattle.job.proofs.Admits.{admitted_good}
use Rattle.days.specs.Days.{days_of}
use Rattle.days.specs.Totals.{Totals, numbers_of, short_room, totals_by}
use Rattle.days.specs.declared.Fault.TheVariants.{Job, SummaryRoom, BadList}

-- ---- 11, 12 or the summary, by two tests

-- which of the four it is
abbrev kind_of : Totals → ℕ
kind_of (Ok days) = 0
kind_of (Err (Job r)) = 1
kind_of (Err SummaryRoom) = 2
kind_of (Err BadList) = 3

abbrev refusal_in : Refusal → Totals → Refusal
refusal_in r (Ok days) = r
refusal_in r (Err (Job q)) = q
refusal_in r (Err SummaryRoom) = r
refusal_in r (Err BadList) = r

other_kind : {t u : Totals} → t ≡ u → (kind_of t ≡ kind_of u → ⊥) → ⊥
other_kind h differ = differ (ap kind_of h)

abbrev chosen : Bool → Bool → ℕ → Totals
chosen short bad days = cond short (Err SummaryRoom) (cond bad (Err BadList) (Ok days))

chosen-room : (x y : Bool) (n : ℕ) → chosen x y n ≡ Err SummaryRoom → x ≡ true
chosen-room true y n h = refl
chosen-room false true n h = absurd (other_kind h (λ e. omega (arith, e)))
chosen-room false false n h = absurd (other_kind h (λ e. omega (arith, e)))

chosen_bad : (x y : Bool) (n : ℕ) → chosen x y n ≡ Err BadList → (x ≡ false) × (y ≡ true)
chosen_bad true y n h = absurd (other_kind h (λ e. omega (arith, e)))
chosen_bad false true n h = (refl, refl)
chosen_bad false false n h = absurd (other_kind h (λ e. omega (arith, e)))

chosen-written : (x y : Bool) (n k : ℕ) → chosen x y n ≡ Ok k → (x ≡ false) × (y ≡ false) × (k ≡ n)
chosen-written true y n k h = absurd (other_kind h (λ e. omega (arith, e)))
chosen-written false true n k h = absurd (other_kind h (λ e. omega (arith, e)))
chosen-written false false n k h = (refl, refl, sym (ap (λ (t : Totals). (numbers_of t).days) h))

chosen-job : (x y : Bool) (n : ℕ) (r : Refusal) → chosen x y n ≡ Err (Job r) → ⊥
chosen-job true y n r h = other_kind h (λ e. omega (arith, e))
chosen-job false true n r h = other_kind h (λ e. omega (arith, e))
chosen-job false false n r h = other_kind h (λ e. omega (arith, e))

-- ---- by the record

module _ (s : List ℕ) (room : ℕ) (bad : Window → Bool) where
  abbrev w : Window
  w = window_of s

  -- the record is accepted by every row but 9
  abbrev Accepts : Type 0
  Accepts = admission_of s ≡ Ok w

  -- what is answered to an accepted record, and to one that is turned away
  told : Accepts → totals_by (admission_of s) room bad ≡ chosen (short_room w room) (bad w) (days_of w)
  unfolding totals_by
  told h = rw h refl

  away : (r : Refusal) → admission_of s ≡ Err r → totals_by (admission_of s) room bad ≡ Err (Job r)
  unfolding totals_by
  away r h = rw h refl

  -- every record is one or the other
  either : (C : Type 0) → (Accepts → C) → ((r : Refusal) → admission_of s ≡ Err r → C) → C
  either C yes-it-is no-it-is-not = by (admission_of s) refl
    where
      by : (a : Admission) → admission_of s ≡ a → C
      by (Ok v) h = yes-it-is (h ∙ ap (λ (x : Window). Ok x) (admitted_good s h).0)
      by (Err r) h = no-it-is-not r h

  pub job-exactly : (r : Refusal) → (totals_by (admission_of s) room bad ≡ Err (Job r)) ↔ (admission_of s ≡ Err r)
  job-exactly r = (
    λ h. either (admission_of s ≡ Err r) (λ a. absurd (chosen-job (short_room w room) (bad w) (days_of w) r (sym (told a) ∙ h)))
        (λ q a. a ∙ ap (λ (x : Refusal). Err x) (ap (refusal_in r) (sym (away q a) ∙ h))),
    away r,
  )

  pub room-exactly : (totals_by (admission_of s) room bad ≡ Err SummaryRoom) ↔ (Accepts × (room < 16 * days_of w))
  unfolding short_room
  room-exactly = (
    λ h. either (Accepts × (room < 16 * days_of w)) (λ a. (a, ltb-true room (16 * days_of w) (chosen-room (short_room w room) (bad w) (days_of w) (sym (told a) ∙ h))))
        (λ q a. absurd (other_kind (sym (away q a) ∙ h) (λ e. omega (arith, e)))),
    λ p. told p.0 ∙ rw (lt-ltb room (16 * days_of w) p.1) refl,
  )

  pub list-exactly : (totals_by (admission_of s) room bad ≡ Err BadList) ↔ (Accepts × (16 * days_of w ≤ room) × (bad w ≡ true))
  unfolding short_room
  list-exactly = (
    λ h. either (Accepts × (16 * days_of w ≤ room) × (bad w ≡ true))
        (λ a. let c = chosen_bad (short_room w room) (bad w) (days_of w) (sym (told a) ∙ h) in (a, ltb-false room (16 * days_of w) c.0, c.1))
        (λ q a. absurd (other_kind (sym (away q a) ∙ h) (λ e. omega (arith, e)))),
    λ p. told p.0 ∙ rw (le-ltb room (16 * days_of w) p.1, p.2) refl,
  )

  pub written-exactly : (n : ℕ) → (totals_by (admission_of s) room bad ≡ Ok n) ↔ (Accepts × (16 * days_of w ≤ room) × (bad w ≡ false) × (n ≡ days_of w))
  unfolding short_room
  written-exactly n = (
    λ h. either (Accepts × (16 * days_of w ≤ room) × (bad w ≡ false) × (n ≡ days_of w))
        (λ a. let c = chosen-written (short_room w room) (bad w) (days_of w) n (sym (told a) ∙ h) in (a, ltb-false room (16 * days_of w) c.0, c.1, c.2))
        (λ q a. absurd (other_kind (sym (away q a) ∙ h) (λ e. omega (arith, e)))),
    λ p. told p.0 ∙ rw (le-ltb room (16 * days_of w) p.1, p.2, p.3) refl,
  )
