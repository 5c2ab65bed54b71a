-- The loop of `work_out`: whenever its test is reached the first k intervals are good and their summary stands in `own`.
use Prim.Native.Nat.{ℕ, suc, ◌+◌, ◌-◌, ◌*◌, ◌/◌, ◌%◌, ◌≤◌, ◌<◌}
use mathlib.Core.Path.{◌≡◌, refl, sym, ap, subst, ◌∙◌}
use mathlib.Core.Bool.{true, false, not, true≢false}
use mathlib.Core.List.{List, [], ◌∷◌, ◌++◌, append_assoc}
use native.Mathlib.Omega.{arith}
use native.Mathlib.Nat.{zero-add}
use borrow.Author.Tests.{eq-eqb, ne_eqb}
use lib.Dec.{eqb}
use lib.ListN.{length, take, drop}
use lib.Seq.{sets, sets-eq, length-sets, take_at, drop_at}
use Rattle.std.specs.Prelude.{Some, None}
use Rattle.finder.specs.declared.Window.{Window}
use Rattle.finder.specs.Spans.{Span}
use Rattle.days.specs.Days.{day_of, days_of}
use Rattle.days.specs.Counts.{touching, instants_in}
use Rattle.days.specs.Summary.{day_record, records_from, summary_of}
use Rattle.days.specs.Given.{span_at, spans_from, spans_of, bad_span, bad_spans, bad_list}
use Rattle.days.specs.State.{next_from, HasRoom, Awaits, Updated, worked_of, SummedUp}
use Rattle.days.proofs.Bools.{or-true}
use Rattle.days.proofs.Pieces.{spans-split, spans-one}
use Rattle.days.proofs.Orderly.{bad_append_lem, bad_one, next_one}
use Rattle.days.proofs.Records.{length-day, length-days, length-summary, days-add}
use Rattle.days.proofs.Updates.{afresh}

-- ---- a summary and what stands behind it

pub summary-set : (w : Window) (l : List Span) (lent : List ℕ) → 16 * days_of w ≤ length lent → sets lent 0 (summary_of w l) ≡ summary_of w l ++ drop (16 * days_of w) lent
summary-set w l lent room =
    sets-eq (summary_of w l) lent 0 (omega (arith, length-summary w l)) ∙ ap (λ (n : ℕ). summary_of w l ++ drop n lent) (zero-add (length (summary_of w l)) ∙ length-summary w l)

-- record i of it
pub summary-day : (w : Window) (l : List Span) (i : ℕ) (rest : List ℕ) → i < days_of w → take 16 (drop (16 * i) (summary_of w l ++ rest)) ≡ day_record l (day_of w.t0 + i)
unfolding summary_of day_record records_from
summary-day w l i rest below =
    let d = day_of w.t0 in
    let later = days_of w - (i + 1) in
    let n : days_of w ≡ i + suc later = omega arith in
    let parts : records_from l d (days_of w) ++ rest ≡ records_from l d i ++ (day_record l (d + i) ++ (records_from l (suc (d + i)) later ++ rest)) = ap (λ (k : ℕ). records_from l d k ++ rest) n ∙ rw (days-add l d i (suc later)) (simp append_assoc) in
    ap (λ (x : List ℕ). take 16 (drop (16 * i) x)) parts
    ∙ ap (take 16) (drop_at (records_from l d i) _ (16 * i) (length-days l d i))
    ∙ take_at (day_record l (d + i)) _ 16 (length-day (d + i) (touching l (d + i)) (instants_in l (d + i)))

-- ---- the loop

pub record Working (w : Window) (list own₀ own : List ℕ) (next k : ℕ) : Type 0 where
  pub most : k ≤ length list / 24
  pub before : bad_spans w.t0 w.t1 (spans_from list 0 k) ≡ false
  pub begins : next ≡ next_from w.t0 (spans_from list 0 k)
  pub stands : own ≡ summary_of w (spans_from list 0 k) ++ drop (16 * days_of w) own₀

-- the loop begins with the summary of no interval
module _ {w : Window} {entry own : List ℕ} (room : HasRoom w entry) (is : own ≡ sets entry 0 (summary_of w [])) where
  pub blank-room : HasRoom w own
  blank-room = record { good = room.good; room = omega (arith, room.room, ap length is, length-sets entry 0 (summary_of w [])) }

  pub blank-behind : drop (16 * days_of w) own ≡ drop (16 * days_of w) entry
  blank-behind = ap (drop (16 * days_of w)) (is ∙ summary-set w [] entry room.room) ∙ drop_at (summary_of w []) (drop (16 * days_of w) entry) (16 * days_of w) (length-summary w [])

  pub work_start : (list : List ℕ) → Working w list own own w.t0 0
  unfolding spans_from bad_spans next_from
  work_start list = record { most = omega arith; before = refl; begins = refl; stands = is ∙ summary-set w [] entry room.room ∙ rw blank-behind refl }

module _ {w : Window} {list own₀ own : List ℕ} {next k : ℕ} (room : HasRoom w own₀) (g : Working w list own₀ own next k) where
  abbrev so_far : List Span
  so_far = spans_from list 0 k

  module _ {s : Span} (is : s ≡ span_at list k) where
    -- a good interval awaits
    pub work_awaits : bad_span next w.t1 s ≡ false → Awaits w so_far s own
    work_awaits good =
        record {
          good = room.good;
          before = g.before;
          next = subst (λ (n : ℕ). bad_span n w.t1 s ≡ false) g.begins good;
          stands = ap (take (16 * days_of w)) g.stands ∙ take_at (summary_of w so_far) (drop (16 * days_of w) own₀) (16 * days_of w) (length-summary w so_far);
        }

    -- and is one more
    pub work_more : {own' : List ℕ} → k < length list / 24 → bad_span next w.t1 s ≡ false → Updated w s own own' → Working w list own₀ own' (s.last + 2) (k + 1)
    work_more more good put =
        let a = work_awaits good in
        let rest : drop (16 * days_of w) own ≡ drop (16 * days_of w) own₀ = ap (drop (16 * days_of w)) g.stands ∙ drop_at (summary_of w so_far) (drop (16 * days_of w) own₀) (16 * days_of w) (length-summary w so_far) in
        record {
          most = omega arith;
          before = rw (spans-one list k, ← is, bad_one w.t0 w.t1 so_far s, a.before, a.next) refl;
          begins = rw (spans-one list k, ← is, next_one w.t0 so_far s) refl;
          stands = put so_far a ∙ afresh w so_far s own a ∙ rw (spans-one list k, ← is, rest) refl;
        }

    -- a bad one is bad in the whole list
    pub work_bad : k < length list / 24 → bad_span next w.t1 s ≡ true → bad_list w list ≡ true
    unfolding bad_list spans_of spans_from bad_spans
    work_bad more bad =
        let rest = length list / 24 - (k + 1) in
        let n : length list / 24 ≡ k + suc rest = omega arith in
        let parts : spans_from list 0 (length list / 24) ≡ so_far ++ (span_at list k ∷ spans_from list (suc k) rest) = ap (spans_from list 0) n ∙ spans-split list k (suc rest) in
        let worst : bad_span (next_from w.t0 so_far) w.t1 (span_at list k) ≡ true = rw (is, g.begins) at bad in
        rw (parts, bad_append_lem w.t0 w.t1 so_far (span_at list k ∷ spans_from list (suc k) rest), worst, or-true (bad_spans w.t0 w.t1 so_far)) (or-true (not (eqb (length list % 24) 0)))

-- ---- the end

-- not whole records
pub work_halves : (w : Window) (list : List ℕ) → (length list % 24 ≡ 0 → ⊥) → bad_list w list ≡ true
unfolding bad_list
work_halves w list other = rw (ne_eqb (length list % 24) 0 other) refl

module _ {w : Window} {list own₀ own : List ℕ} {next k : ℕ} (g : Working w list own₀ own next k) (whole : length list % 24 ≡ 0) (all : k ≡ length list / 24) where
  work_good : bad_list w list ≡ false
  unfolding bad_list spans_of
  work_good = rw (eq-eqb (length list % 24) 0 whole, ← all, g.before) refl

  pub work_done : (entry : List ℕ) → HasRoom w entry → drop (16 * days_of w) own₀ ≡ drop (16 * days_of w) entry → (Some next ≡ worked_of w list) × SummedUp w list entry own
  unfolding worked_of spans_of
  work_done entry room behind =
      (rw (work_good, ← all, g.begins) refl, λ _. g.stands ∙ rw (all, behind) (sym (summary-set w (spans_from list 0 (length list / 24)) entry room.room)))

-- a bad list
pub worked_bad : (w : Window) (list own₀ own : List ℕ) → bad_list w list ≡ true → (None ≡ worked_of w list) × SummedUp w list own₀ own
unfolding worked_of
worked_bad w list own₀ own bad = (rw bad refl, λ good. absurd (true≢false (sym bad ∙ good)))
