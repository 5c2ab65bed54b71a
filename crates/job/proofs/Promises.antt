-- What is promised of one job: theorems about the contract of `job::list`, for every record's bytes and every lent list, and one about Kepler's search.
-- docs/PROMISES.md leads here. The proofs are a line or two each: they cite the laws that show them. The statements' words stand in
--   outcome_of, list_after_of, intervals_of, asked_of, answers_in   job/specs/Outcome.antt          table_of, window_of, question_of         job/specs/Table.antt
--   Gives, Passes, row_at                                           refusal/specs/Rows.antt         number_of, field_of, value_of, bits_of   refusal/specs/Refusal.antt
--   float_of, bits_in, Returns, Accepted                            elements/specs                  hidden_at, up_at                         geometry/specs
--   steps_of, sample_at                                             finder/specs/Samples.antt       list_of                                  finder/specs/Spans.antt
--   instants_of, changes_of                                         finder/specs/Asked.antt         records_of, interval_of, room_for_any    finder/specs/Records.antt
--   Fits, InOrder, listed, Changes                                  finder/specs/Fits.antt          record_bytes, parsed_of                  interval/specs/Record.antt
--   has, Says, Why                                                  finder/specs/Flags.antt         FirstAsked, LastAsked                    finder/specs/Asked.antt
--   Alike                                                           halving/specs/Halving.antt      sights_in, orbit_with                    job/specs/Outcome.antt
--   answer_at, sight_at, τBy, τOf                                   geometry/specs                  search_of                                kepler/specs/Kepler.antt
--   seen_from, turned_by                                            geometry/specs/Elsewhere.antt
use Prim.Native.Nat.{ℕ, suc, ◌+◌, ◌*◌, ◌≤◌, ◌<◌}
use mathlib.Core.Path.{◌≡◌, refl, sym, ap, subst, fun_ext, ◌∙◌}
use mathlib.Core.Logic.{◌↔◌, ◌⊎◌, ◌≢◌}
use mathlib.Core.Bool.{Bool, true, false, not, ◌&&◌}
use mathlib.Core.List.{List, ◌++◌}
use native.Mathlib.Omega.{arith}
use contract.Lifetimes.{Lfts}
use denote.Triple.Clauses.{AtExit}
use borrow.Fn.Kinds.{Dens, ended_of, res_t}
use lib.Dec.{T}
use lib.ListN.{length, get_or, take, drop}
use lib.Ieee.{Float}
use lib.Ieee.Positive.{positive}
use lib.Ieee.Scale.{finite}
use Rattle.std.specs.Prelude.{Ok, Err, Some}
use Rattle.words.specs.Little.{Bytes}
use Rattle.halving.specs.Halving.{Alike}
use Rattle.kepler.specs.Kepler.{search_of}
use Rattle.kepler.proofs.Laws as kepler
use Rattle.refusal.specs.Refusal.{number_of, field_of, zero, value_of, bits_of, order_of}
use Rattle.refusal.specs.Rows.{passed, row_at, Gives, Passes}
use Rattle.refusal.specs.declared.Refusal.{Refusal}
use Rattle.refusal.specs.declared.Refusal.TheVariants as refusal
use Rattle.elements.specs.Field.{bits_in, float_of}
use Rattle.elements.specs.Closest.{closest_of}
use Rattle.elements.specs.Reading.{elements_of, Returns}
use Rattle.elements.specs.Accepted.{Accepted}
use Rattle.geometry.specs.Hidden.{hidden_at}
use Rattle.geometry.specs.Visible.{τBy, τOf, up_at, visible_at, answer_at}
use Rattle.geometry.specs.declared.Station.{Station}
use Rattle.geometry.specs.declared.Orbit.{Orbit}
use Rattle.geometry.specs.declared.Sight.{Sight}
use Rattle.geometry.specs.Sight.{sight_at}
use Rattle.geometry.specs.Elsewhere.{seen_from, turned_by}
use Rattle.geometry.proofs.Told as told-by
use Rattle.geometry.proofs.Elsewhere as elsewhere
use Rattle.interval.specs.Record.{record_bytes, parsed_of}
use Rattle.finder.specs.declared.Found.{Found}
use Rattle.finder.specs.declared.Window.{Window}
use Rattle.finder.specs.Samples.{most_steps, Good, steps_of, sample_at, samples}
use Rattle.finder.specs.Spans.{Span, span, list_of}
use Rattle.finder.specs.Asked.{instants_of, changes_of, FirstAsked, LastAsked}
use Rattle.finder.specs.Flags.{has, Says, Why}
use Rattle.finder.specs.Records.{interval_of, records_of, found_of, room_for_any}
use Rattle.finder.specs.Fits.{Changes, Fits, InOrder, listed}
use Rattle.finder.proofs.Samples.{sample-first, sample-end}
use Rattle.finder.proofs.Counts.{instants-most}
use Rattle.finder.proofs.Flags.{flags_say}
use Rattle.finder.proofs.Listed.{each_at, list-fits, list_in_order, list-sample, list-step, still, list-first, list-last, list_opens, list-closes}
use Rattle.finder.proofs.Asked.{list-alike}
use Rattle.finder.proofs.Neighbours.{list-asked, records-alike}
use Rattle.finder.proofs.Reasons.{Tells, first-why, last-why}
use Rattle.job.specs.Table.{window_of, question_of, table_of}
use Rattle.job.specs.Outcome.{Outcome, intervals_of, asked_of, orbit_with, answers_in, sights_in, outcome_of, list_after_of}
use Rattle.job.proofs.Exactly as exactly
use Rattle.job.proofs.Roomy as roomy
use Rattle.job.proofs.Laws.{else_returns}
use Rattle.job.proofs.Written.{records-then_rest}
use Rattle.job.proofs.Written as written
use Rattle.job.proofs.list.Kinds as list
use Rattle.job.proofs.list.Reads as list-reads

-- ---- The contract

-- a job: the bytes s and the lent list `old` went in, o was answered, and the list holds `new` afterwards
pub record Job (s old : List ℕ) (o : Outcome) (new : List ℕ) : Type 0 where
  pub answer : o ≡ outcome_of s (length old)
  pub bytes : new ≡ list_after_of s old

-- this is what the contract of `job::list` says of every call that ends, as the check reads it off the source
pub by_contract : (κs : Lfts 2) (a : Dens κs list.ps) (o : (res_t list.r κs).Denot) (x : AtExit (ended_of 2 list.ps list.r) κs)
    → list-reads.Post κs a o x → Job a.0.now a.1.0.now o x.1.0.now
by_contract κs a o x p = record { answer = p.0; bytes = p.1 }

-- and it is required of no call that anything holds before it: any bytes, any room
pub requires_nothing : (κs : Lfts 2) (a : Dens κs list.ps) → list-reads.Pre κs a
requires_nothing κs a = tt

-- ---- Kepler's search

-- 32 halvings from 0 and 2^32 end at neighbours, whatever e and M are: so there is no refusal for a search that ends otherwise
pub one-wide : (e M : ℕ) → ((search_of e M).asked ≡ 32) × ((search_of e M).high ≡ (search_of e M).low + 1)
one-wide = kepler.one-wide

-- ---- One job

-- for the proofs below: what was answered, by the definition; and a window that was let through
module _ {s old : List ℕ} {o : Outcome} {new : List ℕ} (job : Job s old o new) where
  told : {p : Outcome} → o ≡ p → outcome_of s (length old) ≡ p
  told h = sym job.answer ∙ h

  good : {found : Found} → o ≡ Ok found → Good (window_of s)
  good h = exactly.listed-good s (length old) (told h)

-- In what follows, of one job: its room in bytes, its window and step, what is fixed of its orbit, the yes or no at each instant, what tells why there, and the list of intervals.
module _ (s old : List ℕ) (o : Outcome) (new : List ℕ) (job : Job s old o new) where
  abbrev room : ℕ
  room = length old

  abbrev w : Window
  w = window_of s

  abbrev orbit : Orbit
  orbit = orbit_with (elements_of s)

  abbrev f : ℕ → Bool
  f = answers_in s

  abbrev g : ℕ → Sight
  g = sights_in s

  abbrev l : List Span
  l = list_of f w

  -- ---- 1. Any bytes, any window, step and room: a list, or one of the refusals

  -- a refusal is given exactly if its row of the table applies and none before it does
  pub refused-exactly : (r : Refusal) → (o ≡ Err r) ↔ Gives (table_of s room) (order_of r) r
  refused-exactly r = rw job.answer (exactly.refused-exactly s room r)

  -- a list exactly if every row passes, and then with these numbers
  pub listed-exactly : (o ≡ Ok (record { intervals = length l; asked = length (instants_of f w) })) ↔ Passes (table_of s room)
  unfolding found_of
  listed-exactly = rw job.answer (exactly.listed-exactly s room)

  -- and nothing else is answered
  pub list-or_refusal : (o ≡ Ok (record { intervals = length l; asked = length (instants_of f w) })) ⊎ ((r : Refusal) × (o ≡ Err r))
  unfolding found_of
  list-or_refusal = rw job.answer (exactly.list-or_refusal s room)

  -- refusal 9 is never given where there is room for 2,049 intervals
  pub room_never : room_for_any ≤ room → o ≡ Err refusal.Room → ⊥
  room_never enough h = roomy.room_never s room enough (told job h)

  -- NaN and infinity are refused by field: the first field k that is one
  pub not_finite_refused : (k : ℕ) → 1 ≤ k → k ≤ 13 → ((j : ℕ) → j < 1 + k → row_at (table_of s room) j ≡ passed)
      → finite (float_of s k) ≡ false → o ≡ Err (refusal.NotFinite k (float_of s k) (bits_in s k))
  not_finite_refused k least most before h = job.answer ∙ exactly.not_finite_refused s room k least most before h

  -- and so are values out of range: the first field k that is finite and whose row does not pass
  pub out_of_range_refused : (k : ℕ) → 1 ≤ k → k ≤ 13 → ((j : ℕ) → j < 1 + k → row_at (table_of s room) j ≡ passed)
      → finite (float_of s k) ≡ true → (row_at (table_of s room) (1 + k) ≡ passed → ⊥) → o ≡ Err (refusal.OutOfRange k (float_of s k))
  out_of_range_refused k least most before h out = job.answer ∙ exactly.out_of_range_refused s room k least most before h out

  -- none gets through: what is listed has every field in its range, and the closest distance above R
  pub listed-accepted : {found : Found} → o ≡ Ok found → Accepted (elements_of s)
  listed-accepted h = exactly.listed-accepted s room (told job h)

  -- a refusal of a field returns that field's own number, bit for bit. `Bytes s` says that each element of s is below 256, as every u8 is
  pub refused_returns : (r : Refusal) → o ≡ Err r → Bytes s → Returns s r
  refused_returns r h b = exactly.refused_returns s room r b (told job h)

  -- refusal 5 returns the closest distance, a finite number above 0
  pub refused_distance : (d : Float) → o ≡ Err (refusal.TooClose d) → (d ≡ closest_of (float_of s 1) (float_of s 2)) × T (positive d)
  refused_distance d h = exactly.refused_distance s room d (told job h)

  -- every other refusal returns field 0, number 0.0
  pub refused_else : (r : Refusal) → o ≡ Err r → (number_of r ≡ 3 → ⊥) → (number_of r ≡ 4 → ⊥) → (number_of r ≡ 5 → ⊥) → (field_of r ≡ 0) × (value_of r ≡ zero) × (bits_of r ≡ 0)
  refused_else r h = else_returns r

  -- each returns 0 intervals and 0 instants asked
  pub refused-counts : (r : Refusal) → o ≡ Err r → (intervals_of o ≡ 0) × (asked_of o ≡ 0)
  refused-counts r h = rw h (refl, refl)

  -- and the lent list keeps every byte
  pub refused-keeps : (r : Refusal) → o ≡ Err r → new ≡ old
  refused-keeps r h = job.bytes ∙ exactly.refused-keeps s old r (told job h)

  -- ---- 2. The answer at each instant is the rules', and the list is the one that the rules and the halving give

  -- question 1 asks whether the craft is hidden
  pub asks_hidden : question_of s ≡ 1 → (t : ℕ) → f t ≡ hidden_at orbit t
  unfolding answer_at
  asks_hidden q t = rw q

  -- question 2 whether the planet is up and the craft not hidden
  pub asks_visible : question_of s ≡ 2 → (t : ℕ) → f t ≡ (up_at orbit t && not (hidden_at orbit t))
  unfolding answer_at visible_at
  asks_visible q t = rw q

  -- what tells why has the hidden answer of the same instant
  pub tells-hidden : (t : ℕ) → (g t).hidden ≡ hidden_at orbit t
  unfolding sight_at
  tells-hidden t = refl

  -- and the up answer, for question 2
  pub tells-up : question_of s ≡ 2 → (t : ℕ) → (g t).up ≡ up_at orbit t
  unfolding sight_at
  tells-up q t = rw q

  -- question 1 uses only hidden: it tells no up
  pub tells_no_up : question_of s ≡ 1 → (t : ℕ) → (g t).up ≡ false
  tells_no_up q t = told-by.no_up orbit (question_of s) t q

  -- for the proofs below: how g tells of f
  tells : Tells (question_of s) f g
  tells =
      record {
        same = told-by.same_answer orbit (question_of s);
        hidden = λ q t. told-by.asks_hidden orbit (question_of s) t q;
        no_up = tells_no_up;
      }

  -- the hidden answer does not use the station, and so not its turn
  pub hidden_anywhere : (other : Station) (t : ℕ) → hidden_at (seen_from other orbit) t ≡ hidden_at orbit t
  hidden_anywhere = elsewhere.hidden_anywhere orbit

  -- another turn of the station is another station at each instant: so turned, τ at t is that of `term` in place of the station's own term
  pub turned-is : (term t : ℕ) → τOf (seen_from (turned_by term t orbit.station) orbit) t ≡ τBy orbit term
  turned-is = elsewhere.turned_τ orbit

  -- n intervals were listed, and k instants asked
  module _ {found : Found} (h : o ≡ Ok found) where
    abbrev n : ℕ
    n = found.intervals

    abbrev k : ℕ
    k = found.asked

    -- the question was one of these two
    pub listed-question : (question_of s ≡ 1) ⊎ (question_of s ≡ 2)
    listed-question = exactly.listed-question s room (told job h)

    -- n is the length of the list that the rules give
    pub intervals-is : n ≡ length l
    unfolding found_of
    intervals-is = exactly.listed-intervals s room (told job h)

    -- its records are written from byte 0, and every byte behind them stays
    pub list-is : new ≡ records_of g w l ++ drop (24 * n) old
    list-is = job.bytes ∙ records-then_rest s old (told job h)

    -- record i has the bytes of interval i
    pub record-bytes : (i : ℕ) → i < n → take 24 (drop (24 * i) new) ≡ record_bytes (interval_of g w (get_or l i (span 0 0)))
    record-bytes i below = ap (λ (x : List ℕ). take 24 (drop (24 * i) x)) job.bytes ∙ written.record-bytes s old (told job h) i below

    -- and reads as interval i
    pub reads_as : Bytes s → (i : ℕ) → i < n → parsed_of (take 24 (drop (24 * i) new)) ≡ Some (interval_of g w (get_or l i (span 0 0)))
    reads_as b i below = ap (λ (x : List ℕ). parsed_of (take 24 (drop (24 * i) x))) job.bytes ∙ written.record_is s old (told job h) i below b

    -- each of its six flags is set exactly where it is to be
    pub flags-are : (i : ℕ) → i < n → let one = get_or l i (span 0 0) in Says g w one (interval_of g w one).flags
    unfolding interval_of
    flags-are i below = flags_say g w (get_or l i (span 0 0))

    -- the list is made of the answers at the instants asked, and no others: any answer that is alike there has the same list
    pub only-asked : (f' : ℕ → Bool) → Alike f f' (instants_of f w) → (list_of f' w ≡ l) × (instants_of f' w ≡ instants_of f w)
    only-asked f' = list-alike f f' w

    -- where a first is not t0, it and the instant before it were asked already; where a last is not t1, it and the instant after it
    pub ends_asked : (i : ℕ) → i < n → let one = get_or l i (span 0 0) in FirstAsked w (instants_of f w) one.first × LastAsked w (instants_of f w) one.last
    ends_asked i below = each_at _ l i (list-asked w (good job h) f) (subst (λ (m : ℕ). i < m) intervals-is below)

    -- so the records' flags are made of what is told at the instants asked, and no others
    pub only_told : (g' : ℕ → Sight) → Alike g g' (instants_of f w) → records_of g' w l ≡ records_of g w l
    only_told g' alike = records-alike g g' w (instants_of f w) alike l (list-asked w (good job h) f)

    -- what was written and counted is by the answers, and by what tells why, with another station, which may be another one at each instant
    abbrev ListedFrom : (ℕ → Station) → Type 0
    ListedFrom other =
        let f' : ℕ → Bool = λ t. answer_at (seen_from (other t) orbit) (question_of s) t in
        let g' : ℕ → Sight = λ t. sight_at (seen_from (other t) orbit) (question_of s) t in
        (new ≡ records_of g' w (list_of f' w) ++ drop (24 * n) old) × (k ≡ length (instants_of f' w))

    -- to question 1 it is so with any: the list does not use the station
    pub station_unused : question_of s ≡ 1 → (other : ℕ → Station) → ListedFrom other
    unfolding found_of
    station_unused q other =
        let f-same = fun_ext (λ (t : ℕ). elsewhere.answer_anywhere orbit (other t) t q) in
        let g-same = fun_ext (λ (t : ℕ). elsewhere.sight_anywhere orbit (other t) t q) in
        rw (f-same, g-same) (list-is, exactly.listed-asked s room (told job h))

    -- nor its turn: with any other, whatever its term is at each instant, it is the same list
    pub turn_unused : question_of s ≡ 1 → (term : ℕ → ℕ) → ListedFrom (λ t. turned_by (term t) t orbit.station)
    turn_unused q term = station_unused q (λ t. turned_by (term t) t orbit.station)

    -- ---- 3. Whatever the answers are

    -- the first sample is t0
    pub first-sample : sample_at w 0 ≡ w.t0
    first-sample = sym (sample-first w (good job h))

    -- the last is t1: no piece of the window is left over
    pub last-sample : sample_at w (steps_of w) ≡ w.t1
    last-sample = sample-end w (good job h)

    -- the list fits its samples; the rest, but for the counts, follows from that
    pub fits : Fits f w.t0 w.t0 (samples w) l
    fits = list-fits w (good job h) f

    -- intervals in order, inside the window, at least one instant between neighbours
    pub in-order : InOrder w.t0 l w.t1
    in-order = list_in_order w (good job h) f

    -- a sample lies in an interval exactly if its answer is yes
    pub at-samples : (i : ℕ) → i ≤ steps_of w → listed l (sample_at w i) ≡ f (sample_at w i)
    at-samples = list-sample w (good job h) f

    -- a step whose ends differ holds exactly one change: the list is as its low end up to e and as its high end from e + 1 on, and so the answers are at these two
    pub one-change : (i : ℕ) → i < steps_of w → let a = sample_at w i in let b = sample_at w (suc i) in f a ≢ f b
        → (e : ℕ) × (a ≤ e) × (e < b) × (f e ≡ f a) × (f (e + 1) ≡ f b) × ((t : ℕ) → a ≤ t → t ≤ e → listed l t ≡ f a) × ((t : ℕ) → e < t → t ≤ b → listed l t ≡ f b)
    one-change i below d =
        let s = list-step w (good job h) f i below in
        let before = s.differs d in
        (s.e, s.from, before, s.low, s.high before, s.as_a, s.as_b)

    -- no other step holds one
    pub no-change : (i : ℕ) → i < steps_of w → let a = sample_at w i in let b = sample_at w (suc i) in f a ≡ f b → (t : ℕ) → a ≤ t → t ≤ b → listed l t ≡ f a
    no-change i below = still (list-step w (good job h) f i below)

    -- every first is t0, or the yes behind a change in a step whose ends differ
    pub each_first : (j : ℕ) → j < n → let t = (get_or l j (span 0 0)).first in
        (t ≡ w.t0) ⊎ ((i : ℕ) × (i < steps_of w) × ((e : ℕ) × (t ≡ e + 1) × Changes f false true (sample_at w i) (sample_at w (suc i)) e))
    each_first j below = list-first w (good job h) f j (subst (λ (m : ℕ). j < m) intervals-is below)

    -- every last is t1, or the yes before one
    pub each_last : (j : ℕ) → j < n → let t = (get_or l j (span 0 0)).last in
        (t ≡ w.t1) ⊎ ((i : ℕ) × (i < steps_of w) × Changes f true false (sample_at w i) (sample_at w (suc i)) t)
    each_last j below = list-last w (good job h) f j (subst (λ (m : ℕ). j < m) intervals-is below)

    -- a first above t0 says why: it has 4 or 8 or both, to question 1 exactly 4
    pub first_says_why : (i : ℕ) → i < n → let one = interval_of g w (get_or l i (span 0 0)) in w.t0 < one.first → Why (question_of s) (has 4 one.flags) (has 8 one.flags)
    unfolding interval_of
    first_says_why i below = first-why (question_of s) f g tells w (good job h) i (subst (λ (m : ℕ). i < m) intervals-is below)

    -- and so does a last below t1: it has 16 or 32 or both, to question 1 exactly 16
    pub last_says_why : (i : ℕ) → i < n → let one = interval_of g w (get_or l i (span 0 0)) in one.last < w.t1 → Why (question_of s) (has 16 one.flags) (has 32 one.flags)
    unfolding interval_of
    last_says_why i below = last-why (question_of s) f g tells w (good job h) i (subst (λ (m : ℕ). i < m) intervals-is below)

    -- a yes at t0 opens the first interval there
    pub yes_at_start : f w.t0 ≡ true → (0 < n) × ((get_or l 0 (span 0 0)).first ≡ w.t0)
    yes_at_start yes' = let k = list_opens w (good job h) f yes' in (subst (λ (m : ℕ). 0 < m) (sym intervals-is) k.0, k.1)

    -- a yes at t1 closes one there
    pub yes-at-end : f w.t1 ≡ true → (j : ℕ) × (j < n) × ((get_or l j (span 0 0)).last ≡ w.t1)
    yes-at-end yes' = let k = list-closes w (good job h) f yes' in (k.0, subst (λ (m : ℕ). k.0 < m) (sym intervals-is) k.1, k.2)

    -- the count is the number of the instants asked
    pub count-is : k ≡ length (instants_of f w)
    unfolding found_of
    count-is = exactly.listed-asked s room (told job h)

    -- at most the samples and 20 a changed step
    pub count-most : k ≤ steps_of w + 1 + 20 * changes_of f w
    count-most = omega (arith, count-is, instants-most f w)

    -- of which there are at most 4,096
    pub steps-most : steps_of w ≤ most_steps
    steps-most = exactly.listed-few s room (told job h)
