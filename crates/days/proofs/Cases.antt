-- The cases of what is given and of what is answered, each from what the parts answered.
use Prim.Native.Nat.{ℕ, ◌*◌, ◌%◌, ◌≤◌, ◌<◌}
use mathlib.Core.Path.{◌≡◌, refl, sym, ap, ◌∙◌}
use mathlib.Core.Bool.{Bool, true, false, not, cond, ◌||◌}
use mathlib.Core.List.{List, ◌++◌}
use native.Mathlib.Omega.{arith}
use borrow.Author.Tests.{eqb-true, not-false, eq-eqb, ne_eqb, lt-ltb, le-ltb}
use lib.Dec.{eqb}
use lib.ListN.{length, take, drop}
use lib.Seq.{sets, take_at, take-length}
use Rattle.std.specs.Prelude.{Option, Some, None, Ok, Err}
use Rattle.std.specs.Option.{ok_or}
use Rattle.finder.specs.declared.Window.{Window}
use Rattle.finder.specs.Samples.{Good}
use Rattle.finder.specs.Spans.{Span}
use Rattle.refusal.specs.declared.Refusal.{Refusal}
use Rattle.job.specs.Table.{window_of}
use Rattle.job.specs.Admission.{admission_of}
use Rattle.job.proofs.Admits.{admitted_good}
use Rattle.days.specs.Days.{day_of, days_between, days_of, most_days}
use Rattle.days.specs.Summary.{summary_of}
use Rattle.days.specs.Given.{span_at, spans_of, bad_span, bad_spans, bad_list, same, bad_append}
use Rattle.days.specs.Totals.{Totals, short_room, totals_by, left_by}
use Rattle.days.specs.State.{next_from, HasRoom, Awaits, worked_of, SummedUp}
use Rattle.days.specs.declared.Fault.{Fault}
use Rattle.days.specs.declared.Fault.TheVariants.{Job, SummaryRoom, BadList}
use Rattle.days.proofs.Bools.{neither, or-true, not-not}
use Rattle.days.proofs.Sames.{same-is}
use Rattle.days.proofs.Longer.{longer-is}
use Rattle.days.proofs.Records.{length-summary}
use Rattle.days.proofs.Working.{summary-set}

-- ---- room for any summary

pub days-most : (w : Window) → Good w → days_of w ≤ most_days
unfolding days_between day_of
days-most w good = omega (arith, good.end)

-- so 512 bytes are room for any summary
pub has_room : (w : Window) (own : List ℕ) → Good w → length own ≡ 512 → HasRoom w own
has_room w own good long = record { good = good; room = omega (arith, days-most w good, long) }

-- the summary of a good list, which was worked out in 512 bytes
pub worked-summary : (w : Window) (list own₀ own : List ℕ) {n : ℕ} → SummedUp w list own₀ own → bad_list w list ≡ false → Good w → length own₀ ≡ 512 → n ≡ days_of w → take (16 * n) own ≡ summary_of w (spans_of list)
worked-summary w list own₀ own {n} summed good g long e =
    ap (λ (k : ℕ). take (16 * k) own) e
    ∙ ap (take (16 * days_of w)) (summed good ∙ summary-set w (spans_of list) own₀ (has_room w own₀ g long).room)
    ∙ take_at (summary_of w (spans_of list)) _ (16 * days_of w) (length-summary w (spans_of list))

-- which is copied to where it is asked for
pub copied : (w : Window) (l : List Span) (own lent : List ℕ) {after : List ℕ} → own ≡ summary_of w l → 16 * days_of w ≤ length lent → after ≡ take (length own) own ++ drop (length own) lent → after ≡ sets lent 0 (summary_of w l)
copied w l own lent is room put =
    put ∙ rw (take-length own) (rw (is, length-summary w l) (sym (summary-set w l lent room)))

-- ---- what was told of a list

abbrev next_in : ℕ → Option ℕ → ℕ
next_in n (Some k) = k
next_in n None = n

told-by : (b : Bool) (next : ℕ) → (cond b None (Some next) ≡ None → b ≡ true) × ((n : ℕ) → cond b None (Some next) ≡ Some n → (b ≡ false) × (n ≡ next))
told-by true next = (λ h. refl, λ n h. let z : ◌≡◌ {A = ℕ} 0 1 = cc in absurd (omega arith))
told-by false next = (λ h. let z : ◌≡◌ {A = ℕ} 0 1 = cc in absurd (omega arith), λ n h. (refl, sym (ap (next_in 0) h)))

module _ (w : Window) (list : List ℕ) where
  pub told_bad : worked_of w list ≡ None → bad_list w list ≡ true
  unfolding worked_of
  told_bad h = (told-by (bad_list w list) (next_from w.t0 (spans_of list))).0 h

  pub told-good : (n : ℕ) → worked_of w list ≡ Some n → (bad_list w list ≡ false) × (n ≡ next_from w.t0 (spans_of list))
  unfolding worked_of
  told-good n h = (told-by (bad_list w list) (next_from w.t0 (spans_of list))).1 n h

-- and what `ok_or` makes of it
pub or_bad : {fault r : Fault} (o : Option ℕ) → ok_or o fault ≡ Err r → (o ≡ None) × (r ≡ fault)
or_bad None h = (refl, cc)
or_bad (Some n) h = let z : ◌≡◌ {A = ℕ} 0 1 = cc in absurd (omega arith)

pub or-good : (fault : Fault) {n : ℕ} (o : Option ℕ) → ok_or o fault ≡ Ok n → o ≡ Some n
or-good fault None h = let z : ◌≡◌ {A = ℕ} 0 1 = cc in absurd (omega arith)
or-good fault (Some k) h = cc

-- ---- a piece that is appended

module _ (w : Window) (list piece summary : List ℕ) where
  abbrev follows : Bool
  follows = not (bad_append w list piece summary)

  pub piece_bad : (length piece ≡ 24 → ⊥) → false ≡ follows
  unfolding bad_append
  piece_bad h = rw (ne_eqb (length piece) 24 h) refl

  module _ (one : length piece ≡ 24) where
    pub next_bad : bad_span (next_from w.t0 (spans_of list)) w.t1 (span_at piece 0) ≡ true → false ≡ follows
    unfolding bad_append
    next_bad h = rw (eq-eqb (length piece) 24 one, longer-is w list piece one, h, or-true (bad_list w list)) refl

    pub else_same : bad_list w list ≡ false → bad_span (next_from w.t0 (spans_of list)) w.t1 (span_at piece 0) ≡ false → same summary (summary_of w (spans_of list)) ≡ follows
    unfolding bad_append
    else_same h g = rw (eq-eqb (length piece) 24 one, longer-is w list piece one, h, g) (not-not (same summary (summary_of w (spans_of list))))

  pub list_bad : bad_list w list ≡ true → false ≡ follows
  unfolding bad_append
  list_bad h = by (eqb (length piece) 24) refl
    where
      by : (t : Bool) → eqb (length piece) 24 ≡ t → false ≡ not (not t || bad_list w (list ++ piece) || not (same summary (summary_of w (spans_of list))))
      by true e = rw (longer-is w list piece (eqb-true (length piece) 24 e), h) refl
      by false e = refl

-- a good list
pub whole-ordered : (w : Window) (list : List ℕ) → length list % 24 ≡ 0 → bad_spans w.t0 w.t1 (spans_of list) ≡ false → bad_list w list ≡ false
unfolding bad_list
whole-ordered w list whole order = rw (eq-eqb (length list % 24) 0 whole, order) refl

-- has intervals that are not bad
pub list-order : (w : Window) (list : List ℕ) → bad_list w list ≡ false → bad_spans w.t0 w.t1 (spans_of list) ≡ false
unfolding bad_list
list-order w list h = (neither {a = not (eqb (length list % 24) 0)} h).1

-- a piece that may be appended is one interval, which awaits behind a good list whose summary stands in the lent bytes; and the longer list is good
pub record Follows (w : Window) (list piece lent : List ℕ) : Type 0 where
  pub one : length piece ≡ 24
  pub list-good : bad_list w list ≡ false
  pub longer-good : bad_list w (list ++ piece) ≡ false
  pub awaits : Awaits w (spans_of list) (span_at piece 0) lent

pub good-append : (w : Window) (list piece lent : List ℕ) → Good w → bad_append w list piece (take (16 * days_of w) lent) ≡ false → Follows w list piece lent
unfolding bad_append
good-append w list piece lent good h =
    let a = neither h in
    let b = neither a.0 in
    let one = eqb-true (length piece) 24 (not-false (eqb (length piece) 24) b.0) in
    let both = neither {a = bad_list w list} (sym (longer-is w list piece one) ∙ b.1) in
    let stands = same-is (take (16 * days_of w) lent) (summary_of w (spans_of list)) (not-false (same (take (16 * days_of w) lent) (summary_of w (spans_of list))) a.1) in
    record { one = one; list-good = both.0; longer-good = b.1; awaits = record { good = good; before = list-order w list both.0; next = both.1; stands = stands } }

-- ---- the answer of an admitted job

module _ (w : Window) (room : ℕ) (bad : Window → Bool) where
  pub answer-short : room < 16 * days_of w → Err SummaryRoom ≡ totals_by (Ok w) room bad
  unfolding totals_by short_room
  answer-short h = rw (lt-ltb room (16 * days_of w) h) refl

  pub answer_bad : 16 * days_of w ≤ room → bad w ≡ true → Err BadList ≡ totals_by (Ok w) room bad
  unfolding totals_by short_room
  answer_bad h b = rw (le-ltb room (16 * days_of w) h, b) refl

  pub answer-written : {n : ℕ} → n ≡ days_of w → 16 * days_of w ≤ room → bad w ≡ false → Ok n ≡ totals_by (Ok w) room bad
  unfolding totals_by short_room
  answer-written e h b = rw (le-ltb room (16 * days_of w) h, b, e) refl

-- ---- by the record

-- of any call: what makes 12, and the bytes that it writes
module _ (s lent : List ℕ) (bad : Window → Bool) (new : Window → List ℕ) where
  abbrev answer : Totals
  answer = totals_by (admission_of s) (length lent) bad

  -- the job's own refusal leaves every byte
  pub away : (r : Refusal) → admission_of s ≡ Err r → (Err (Job r) ≡ answer) × (lent ≡ left_by answer (new (window_of s)) lent)
  unfolding totals_by
  away r h = rw h (refl, refl)

  -- an admitted job is answered by its window
  pub let_in : (w : Window) (t : Totals) (after : List ℕ) → admission_of s ≡ Ok w → t ≡ totals_by (Ok w) (length lent) bad → after ≡ left_by t (new w) lent → (t ≡ answer) × (after ≡ left_by answer (new (window_of s)) lent)
  let_in w t after h told left =
      let own : w ≡ window_of s = (admitted_good s h).0 in
      (told ∙ rw h refl, left ∙ rw (own, told, h) refl)
