-- What is promised of the totals by day: each part a theorem about the contracts of `days::summary` and `days::append`, for every record's bytes,
-- every list's bytes and every lent summary. docs/PROMISES.md leads here. The statements' words stand in
--   totals_of, append_of, summary_after_of, append_after, numbers_of   days/specs/Totals.antt     spans_of, span_at, bad_list, bad_append   days/specs/Given.antt
--   touches, touching, instants_in, sum_from, instants_listed          days/specs/Counts.antt     summary_of, day_record                    days/specs/Summary.antt
--   outcome_of, list_after_of, answers_in                              job/specs/Outcome.antt     day_of, days_of, most_days                days/specs/Days.antt
--   admission_of                                                       job/specs/Admission.antt   window_of                                 job/specs/Table.antt
--   InOrder, list_of, room_for_any                                     finder/specs               read_of                                   words/specs/Little.antt
use Prim.Native.Nat.{ℕ, ◌+◌, ◌*◌, ◌≤◌, ◌<◌, ◌%◌}
use mathlib.Core.Path.{◌≡◌, refl, sym, ap, ◌∙◌}
use mathlib.Core.Logic.{◌↔◌}
use mathlib.Core.Bool.{true, false}
use mathlib.Core.List.{List, [], ◌∷◌, ◌++◌}
use contract.Lifetimes.{Lfts}
use denote.Triple.Clauses.{AtExit}
use borrow.Fn.Kinds.{Dens, ended_of, res_t}
use lib.ListN.{length, take, drop}
use lib.Seq.{take_at}
use native.Mathlib.Omega.{arith}
use Rattle.words.specs.Little.{read_of}
use Rattle.refusal.specs.declared.Refusal.{Refusal}
use Rattle.std.specs.Prelude.{Ok, Err}
use Rattle.finder.specs.declared.Window.{Window}
use Rattle.finder.specs.declared.Found.{Found}
use Rattle.finder.specs.Samples.{last_end}
use Rattle.finder.specs.Spans.{Span, list_of}
use Rattle.finder.specs.Fits.{InOrder}
use Rattle.finder.specs.Records.{room_for_any}
use Rattle.job.specs.Table.{window_of}
use Rattle.job.specs.Outcome.{answers_in, outcome_of, list_after_of}
use Rattle.job.specs.Admission.{admission_of}
use Rattle.job.proofs.Admits.{admitted_good, away-exactly}
use Rattle.days.specs.Days.{day_of, days_between, days_of, most_days}
use Rattle.days.specs.Counts.{touches, touching, instants_in, sum_from, instants_listed}
use Rattle.days.specs.Summary.{day_record, summary_of}
use Rattle.days.specs.Given.{span_at, spans_of, bad_list, bad_append}
use Rattle.days.specs.Totals.{Totals, numbers_of, totals_of, append_of, left_by, summary_after_of, append_after}
use Rattle.days.specs.declared.Fault.TheVariants.{Job, SummaryRoom, BadList}
use Rattle.days.proofs.Answered as answered
use Rattle.days.proofs.Orderly.{in_order_good, good_in_order}
use Rattle.days.proofs.Touched.{touch_yes, touched}
use Rattle.days.proofs.Working.{summary-set, summary-day}
use Rattle.days.proofs.Records.{length-summary, day-stays}
use Rattle.days.proofs.Updates as updates
use Rattle.days.proofs.Updates.{read-numbers}
use Rattle.days.proofs.Cases.{days-most, whole-ordered, list-order, Follows, good-append}
use Rattle.days.proofs.Sums.{sum-all}
use Rattle.days.proofs.Ours as ours
use Rattle.days.proofs.Longer.{list-whole, longer-summary}
use Rattle.days.proofs.summary.Kinds as summary
use Rattle.days.proofs.summary.Reads as summary-reads
use Rattle.days.proofs.append.Kinds as append
use Rattle.days.proofs.append.Reads as append-reads

-- ---- The contracts

-- a summary: the record s, the list and the bytes `old` went in, t was answered, and the lent bytes are `new` afterwards
pub record Summary (s list old : List ℕ) (t : Totals) (new : List ℕ) : Type 0 where
  pub answer : t ≡ totals_of s list (length old)
  pub bytes : new ≡ summary_after_of s list old

-- an appended piece, likewise
pub record Appended (s list piece old : List ℕ) (t : Totals) (new : List ℕ) : Type 0 where
  pub answer : t ≡ append_of s list piece old
  pub bytes : new ≡ append_after s list piece old

-- this is what the contracts say of every call that ends, as the check reads them off the source
pub by-summary_contract : (κs : Lfts 3) (a : Dens κs summary.ps) (t : (res_t summary.r κs).Denot) (x : AtExit (ended_of 3 summary.ps summary.r) κs)
    → summary-reads.Post κs a t x → Summary a.0.now a.1.0.now a.1.1.0.now t x.1.1.0.now
by-summary_contract κs a t x p = record { answer = p.0; bytes = p.1 }

pub by-append_contract : (κs : Lfts 4) (a : Dens κs append.ps) (t : (res_t append.r κs).Denot) (x : AtExit (ended_of 4 append.ps append.r) κs)
    → append-reads.Post κs a t x → Appended a.0.now a.1.0.now a.1.1.0.now a.1.1.1.0.now t x.1.1.1.0.now
by-append_contract κs a t x p = record { answer = p.0; bytes = p.1 }

-- and it is required of no call that anything holds before it
pub summary_requires_nothing : (κs : Lfts 3) (a : Dens κs summary.ps) → summary-reads.Pre κs a
summary_requires_nothing κs a = tt

pub append_requires_nothing : (κs : Lfts 4) (a : Dens κs append.ps) → append-reads.Pre κs a
append_requires_nothing κs a = tt

-- where nothing is written every byte is kept
kept : (t : Totals) → ((numbers_of t).refusal ≡ 0 → ⊥) → (a b : List ℕ) → left_by t a b ≡ b
kept (Ok days) h a b = absurd (h refl)
kept (Err fault) h a b = refl

-- In what follows, of one call: the window, and the intervals of the list.
module _ (s list old : List ℕ) (t : Totals) (new : List ℕ) (call : Summary s list old t new) where
  abbrev w : Window
  w = window_of s

  abbrev l : List Span
  l = spans_of list

  -- ---- 1. The refusals, in their order

  -- the job's own comes first, and it is the one that its list is refused for where there is room for any
  pub job-exactly : (r : Refusal) → (t ≡ Err (Job r)) ↔ (outcome_of s room_for_any ≡ Err r)
  unfolding totals_of
  job-exactly r =
      let first = answered.job-exactly s (length old) (λ v. bad_list v list) r in
      let away = away-exactly s r in
      rw call.answer (λ h. away.0 (first.0 h), λ h. first.1 (away.1 h))

  -- 11 exactly if the job is accepted by every row but 9 and the room is short of 16 bytes a day
  pub room-exactly : (t ≡ Err SummaryRoom) ↔ ((admission_of s ≡ Ok w) × (length old < 16 * days_of w))
  unfolding totals_of
  room-exactly = rw call.answer (answered.room-exactly s (length old) (λ v. bad_list v list))

  -- 12 exactly if the job is accepted, there is room, and the list is bad
  pub list-exactly : (t ≡ Err BadList) ↔ ((admission_of s ≡ Ok w) × (16 * days_of w ≤ length old) × (bad_list w list ≡ true))
  unfolding totals_of
  list-exactly = rw call.answer (answered.list-exactly s (length old) (λ v. bad_list v list))

  -- a summary exactly if the job is accepted, there is room, and the list is good; and then of as many days as the window touches
  pub written-exactly : (n : ℕ) → (t ≡ Ok n) ↔ ((admission_of s ≡ Ok w) × (16 * days_of w ≤ length old) × (bad_list w list ≡ false) × (n ≡ days_of w))
  unfolding totals_of
  written-exactly n = rw call.answer (answered.written-exactly s (length old) (λ v. bad_list v list) n)

  -- 11 never where 512 bytes are lent: a window touches at most 32 days
  pub room_enough : 16 * most_days ≤ length old → t ≡ Err SummaryRoom → ⊥
  room_enough enough h =
      let short = room-exactly.0 h in
      absurd (omega (arith, short.1, days-most w (admitted_good s short.0).1))

  -- both return field 0, number 0.0, whose bits are 0, and 0 days
  pub room_returns : t ≡ Err SummaryRoom → numbers_of t ≡ record { refusal = 11; field = 0; bits = 0; days = 0 }
  room_returns h = ap numbers_of h

  pub list_returns : t ≡ Err BadList → numbers_of t ≡ record { refusal = 12; field = 0; bits = 0; days = 0 }
  list_returns h = ap numbers_of h

  -- and the lent bytes stay
  pub summary-keeps : ((numbers_of t).refusal ≡ 0 → ⊥) → new ≡ old
  unfolding summary_after_of
  summary-keeps h = call.bytes ∙ kept (totals_of s list (length old)) (λ e. h (ap (λ (x : Totals). (numbers_of x).refusal) call.answer ∙ e)) _ _

  -- ---- 2. The summary, instant by instant

  module _ {n : ℕ} (h : t ≡ Ok n) where
    -- what was found before it was written
    found : (admission_of s ≡ Ok w) × (16 * days_of w ≤ length old) × (bad_list w list ≡ false) × (n ≡ days_of w)
    found = (written-exactly n).0 h

    -- it stands from byte 0 on, and every byte behind it is as it was
    pub summary-then_rest : new ≡ summary_of w l ++ drop (16 * n) old
    unfolding summary_after_of
    summary-then_rest =
        let told : totals_of s list (length old) ≡ Ok n = sym call.answer ∙ h in
        call.bytes ∙ rw (told, found.3) (summary-set w l old found.1)

    -- record i is that of the i-th day that the window touches: how many intervals have an instant in it, and how many instants of it lie in one
    pub day-by_day : (i : ℕ) → i < n → take 16 (drop (16 * i) new) ≡ day_record l (day_of w.t0 + i)
    day-by_day i below = ap (λ (x : List ℕ). take 16 (drop (16 * i) x)) summary-then_rest ∙ summary-day w l i (drop (16 * n) old) (rw found.3 at below)

    -- and these are the numbers that are read there: none is cut off
    pub day-numbers : (i : ℕ) → i < n
        → (read_of 4 new (16 * i) ≡ day_of w.t0 + i) × (read_of 4 new (16 * i + 4) ≡ touching l (day_of w.t0 + i)) × (read_of 8 new (16 * i + 8) ≡ instants_in l (day_of w.t0 + i))
    day-numbers i below =
        let good = (admitted_good s found.0).1 in
        let stands : take (16 * days_of w) new ≡ summary_of w l = ap (take (16 * days_of w)) summary-then_rest ∙ take_at (summary_of w l) (drop (16 * n) old) (16 * days_of w) (length-summary w l) in
        read-numbers w l new good (list-order w list found.2) stands i (rw found.3 at below)

    -- the sum of all days' instants is the instants of the list
    pub sum_of_days : sum_from l (day_of w.t0) n ≡ instants_listed l
    sum_of_days =
        let good = (admitted_good s found.0).1 in
        rw found.3 (sum-all w l good (good_in_order w.t0 w.t1 l (list-order w list found.2)))

-- an interval touches the days from that of its first to that of its last, and no other
pub touches-exactly : (x : Span) → x.first ≤ x.last → (d : ℕ) → (touches x d ≡ true) ↔ ((day_of x.first ≤ d) × (d ≤ day_of x.last))
touches-exactly x forward d = (touched x forward d, λ p. touch_yes x forward d p.0 p.1)

-- a window from the epoch to its last end touches 32 days
pub last-day : (w : Window) → w.t0 ≡ 0 → w.t1 ≡ last_end → days_of w ≡ 32
unfolding days_between day_of
last-day w from to = rw (from, to) refl

-- what 12 is for: a list is good exactly if it is whole records and its intervals are in order in the window, with an instant between neighbours
pub good-exactly : (w : Window) (list : List ℕ) → (bad_list w list ≡ false) ↔ ((length list % 24 ≡ 0) × InOrder w.t0 (spans_of list) w.t1)
good-exactly w list = (λ h. (list-whole w list h, good_in_order w.t0 w.t1 (spans_of list) (list-order w list h)), λ p. whole-ordered w list p.0 (in_order_good w.t0 w.t1 (spans_of list) p.1))

-- ---- 3. A list of ours is accepted, and its summary is that of the list

module _ (s old : List ℕ) {found : Found} (h : outcome_of s (length old) ≡ Ok found) where
  -- the bytes of its records
  abbrev made : List ℕ
  made = take (24 * found.intervals) (list_after_of s old)

  pub ours_accepted : (lent : List ℕ) (t : Totals) (new : List ℕ) → Summary s made lent t new → 16 * days_of (window_of s) ≤ length lent → t ≡ Ok (days_of (window_of s))
  ours_accepted lent t new call enough = call.answer ∙ ours.ours_accepted s old h (length lent) enough

  pub ours_summed : (lent : List ℕ) (t : Totals) (new : List ℕ) → Summary s made lent t new → 16 * days_of (window_of s) ≤ length lent
      → new ≡ summary_of (window_of s) (list_of (answers_in s) (window_of s)) ++ drop (16 * days_of (window_of s)) lent
  ours_summed lent t new call enough = summary-then_rest s made lent t new call (ours_accepted lent t new call enough) ∙ rw (ours.ours_spans s old h) refl

-- ---- 4. One interval more

module _ (s list piece old : List ℕ) (t : Totals) (new : List ℕ) (call : Appended s list piece old t new) where
  -- a refusal leaves every byte
  pub append-keeps : ((numbers_of t).refusal ≡ 0 → ⊥) → new ≡ old
  unfolding append_after
  append-keeps h = call.bytes ∙ kept (append_of s list piece old) (λ e. h (ap (λ (x : Totals). (numbers_of x).refusal) call.answer ∙ e)) _ _

  -- the refusals come in the same order; 12 is for the list, the piece and the summary
  pub append-job_exactly : (r : Refusal) → (t ≡ Err (Job r)) ↔ (outcome_of s room_for_any ≡ Err r)
  unfolding append_of
  append-job_exactly r =
      let first = answered.job-exactly s (length old) (λ v. bad_append v list piece (take (16 * days_of v) old)) r in
      let away = away-exactly s r in
      rw call.answer (λ h. away.0 (first.0 h), λ h. first.1 (away.1 h))

  pub append-room_exactly : (t ≡ Err SummaryRoom) ↔ ((admission_of s ≡ Ok (window_of s)) × (length old < 16 * days_of (window_of s)))
  unfolding append_of
  append-room_exactly = rw call.answer (answered.room-exactly s (length old) (λ v. bad_append v list piece (take (16 * days_of v) old)))

  pub append-list_exactly : (t ≡ Err BadList) ↔ ((admission_of s ≡ Ok (window_of s)) × (16 * days_of (window_of s) ≤ length old) × (bad_append (window_of s) list piece (take (16 * days_of (window_of s)) old) ≡ true))
  unfolding append_of
  append-list_exactly = rw call.answer (answered.list-exactly s (length old) (λ v. bad_append v list piece (take (16 * days_of v) old)))

  pub append-written_exactly : (n : ℕ) → (t ≡ Ok n) ↔ ((admission_of s ≡ Ok (window_of s)) × (16 * days_of (window_of s) ≤ length old) × (bad_append (window_of s) list piece (take (16 * days_of (window_of s)) old) ≡ false) × (n ≡ days_of (window_of s)))
  unfolding append_of
  append-written_exactly n = rw call.answer (answered.written-exactly s (length old) (λ v. bad_append v list piece (take (16 * days_of v) old)) n)

  module _ {n : ℕ} (h : t ≡ Ok n) where
    taken : (admission_of s ≡ Ok (window_of s)) × (16 * days_of (window_of s) ≤ length old) × (bad_append (window_of s) list piece (take (16 * days_of (window_of s)) old) ≡ false) × (n ≡ days_of (window_of s))
    taken = (append-written_exactly n).0 h

    -- so the piece is one interval that awaits behind a good list
    follows : Follows (window_of s) list piece old
    follows = good-append (window_of s) list piece old (admitted_good s taken.0).1 taken.2

    -- what is answered and what is left are those of the longer list, worked out afresh in the same bytes
    pub afresh : (t ≡ totals_of s (list ++ piece) (length old)) × (new ≡ summary_after_of s (list ++ piece) old)
    unfolding append_after summary_after_of totals_of
    afresh =
        let longer = (answered.written-exactly s (length old) (λ v. bad_list v (list ++ piece)) n).1 (taken.0, taken.1, follows.longer-good, taken.3) in
        (h ∙ sym longer, call.bytes ∙ rw (sym call.answer ∙ h, longer) (longer-summary (window_of s) list piece follows.one old follows.list-good follows.awaits))

    -- the longer list's summary stands from byte 0 on, and every byte behind it is as it was
    pub append-then_rest : new ≡ summary_of (window_of s) (spans_of list ++ span_at piece 0 ∷ []) ++ drop (16 * n) old
    unfolding append_after
    append-then_rest = call.bytes ∙ rw (sym call.answer ∙ h, taken.3) (updates.afresh (window_of s) (spans_of list) (span_at piece 0) old follows.awaits)

    -- the record of a day that the interval does not touch is as it was
    pub untouched : (i : ℕ) → i < n → touches (span_at piece 0) (day_of (window_of s).t0 + i) ≡ false → take 16 (drop (16 * i) new) ≡ take 16 (drop (16 * i) old)
    untouched i below none =
        let w = window_of s in
        let a = follows.awaits in
        let inside : i < days_of w = rw taken.3 at below in
        ap (λ (x : List ℕ). take 16 (drop (16 * i) x)) append-then_rest
        ∙ summary-day w (spans_of list ++ span_at piece 0 ∷ []) i (drop (16 * n) old) inside
        ∙ day-stays w.t0 w.t1 (spans_of list) (span_at piece 0) a.before a.next (day_of w.t0 + i) none
        ∙ sym (summary-day w (spans_of list) i (drop (16 * days_of w) old) inside)
        ∙ ap (λ (x : List ℕ). take 16 (drop (16 * i) x)) (sym (updates.stands-first w (spans_of list) old a.stands))
