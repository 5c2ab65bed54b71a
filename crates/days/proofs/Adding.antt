-- The loop of `add`, for whichever list's summary stands in the lent bytes: day after day is stored, each read before it is.
use Prim.Native.Nat.{ℕ, ◌+◌, ◌-◌, ◌*◌, ◌^◌, ◌≤◌, ◌<◌}
use mathlib.Core.Path.{◌≡◌, refl, ap, ◌∙◌}
use mathlib.Core.List.{List, [], ◌∷◌, ◌++◌}
use native.Mathlib.Omega.{arith}
use lib.ListN.{length}
use lib.Seq.{sets, length-sets}
use Rattle.words.specs.Little.{read_of}
use Rattle.finder.specs.declared.Window.{Window}
use Rattle.finder.specs.Spans.{Span}
use Rattle.finder.specs.Fits.{within}
use Rattle.days.specs.Days.{day_length, day_of, start_of}
use Rattle.days.specs.Counts.{instants_in, instants_under, touching}
use Rattle.days.specs.Summary.{day_bytes, records_from}
use Rattle.days.specs.State.{Under, Awaits, AwaitsSome, Updated}
use Rattle.days.proofs.Counting.{count_most}
use Rattle.days.proofs.Touched.{instants-most}
use Rattle.days.proofs.Updates.{Stored, lies, days_lie, few, stored-none, fits, day-reads, stored_more, stored-all}

-- the bytes of a day's record, where the first is that of day `start`
abbrev pub at : ℕ → ℕ → ℕ
at start d = 16 * (d - start)

-- the days before d are stored, whichever list it is
abbrev pub Added : ℕ → Span → List ℕ → ℕ → List ℕ → Type 0
Added start s lent d out = (w : Window) (l : List Span) → start ≡ day_of w.t0 → (a : Awaits w l s lent) → Stored w l s lent a d out

-- what a turn on day d relies on
pub record Turn (start : ℕ) (s : Span) (d : ℕ) (out : List ℕ) : Type 0 where
  pub started : start ≤ d
  pub small : d ≤ 31
  pub room : at start d + 16 ≤ length out
  pub few : read_of 4 out (at start d + 4) + 1 < 256 ^ 4
  pub sum : read_of 8 out (at start d + 8) + instants_under s d < 256 ^ 8
  pub under : Under s d

module _ {start : ℕ} {s : Span} {lent : List ℕ} where
  pub added_none : {d : ℕ} → d ≡ day_of s.first → Added start s lent d lent
  added_none e w l here a = rw e (stored-none w l s lent a)

  pub added-all : {d : ℕ} {out : List ℕ} (w : Window) → start ≡ day_of w.t0 → d ≡ day_of s.last + 1 → Added start s lent d out → Updated w s lent out
  added-all w here end st l a = stored-all w l s lent a _ _ end (st w l here a)

  module _ {d : ℕ} {out : List ℕ} (st : Added start s lent d out) (from : day_of s.first ≤ d) (to : d ≤ day_of s.last) where
    -- one day more
    pub added_more : {r4 r8 n : ℕ} {out' : List ℕ} → r4 ≡ read_of 4 out (at start d + 4) → r8 ≡ read_of 8 out (at start d + 8) → n ≡ instants_under s d
        → out' ≡ sets out (at start d) (day_bytes d (r4 + 1) (r8 + n)) → Added start s lent (d + 1) out'
    added_more {r4} {r8} {n} {out'} four eight under put w l here a =
        let reads = day-reads w l s lent a d out from to (st w l here a) in
        let intervals : r4 ≡ touching l d = four ∙ rw here reads.0 in
        let instants : r8 ≡ instants_in l d = eight ∙ rw here reads.1 in
        stored_more w l s lent a d out from to (st w l here a) out' (put ∙ rw (intervals, instants, under, here) refl)

    -- so a turn may go on, for some list
    pub turn : (w : Window) → start ≡ day_of w.t0 → AwaitsSome w s lent → Turn start s d out
    unfolding instants_under
    turn w here some =
        let l = some.0 in
        let a = some.1 in
        let stored = st w l here a in
        let days = days_lie w l s lent a in
        let reads = day-reads w l s lent a d out from to stored in
        let long : length out ≡ length lent = ap length stored ∙ length-sets lent (16 * (day_of s.first - day_of w.t0)) (records_from (l ++ s ∷ []) (day_of s.first) (d - day_of s.first)) in
        record {
          started = omega (arith, here, days.0);
          small = omega (arith, days.2, days.3);
          room = rw (here, long) (fits w l s lent a d out from to stored);
          few = rw (here, reads.0) (few w l s lent a d);
          sum = rw (here, reads.1) (omega (arith, instants-most l d, count_most (within s) (start_of d) day_length));
          under = record { forward = (lies w l s lent a).1; from = from; to = to; early = omega (arith, (lies w l s lent a).2, a.good.end) };
        }
