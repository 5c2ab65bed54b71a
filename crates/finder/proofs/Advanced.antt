-- What the code makes of one step is what the definitions say, by its three cases: the state, the bytes, and the room for them.
use Prim.Native.Nat.{ℕ, suc, ◌+◌, ◌*◌}
use mathlib.Core.Path.{◌≡◌, refl, sym, ap, ◌∙◌}
use mathlib.Core.Logic.{◌≢◌}
use mathlib.Core.List.{List, [], ◌∷◌, append-nil}
use mathlib.Core.Bool.{Bool, true, false, not, beq, true≢false}
use native.Mathlib.Omega.{arith}
use lib.ListN.{length}
use Rattle.std.specs.Prelude.{Option, Some, None, is_some}
use Rattle.halving.specs.declared.Edge.{Edge}
use Rattle.geometry.specs.declared.Sight.{Sight}
use Rattle.interval.specs.Record.{write_of}
use Rattle.finder.specs.declared.Begun.{Begun}
use Rattle.finder.specs.declared.Found.{Found}
use Rattle.finder.specs.declared.State.{State}
use Rattle.finder.specs.declared.Window.{Window}
use Rattle.finder.specs.Spans.{span, edge, closed_in, ended}
use Rattle.finder.specs.Asked.{middles_in}
use Rattle.finder.specs.Flags.{differing, first_flags, last_flags, flags_of}
use Rattle.finder.specs.Records.{interval_of, records_of, written}
use Rattle.finder.specs.State.{Along, AtEnd, Turned, RoomFor, Flagged, was_of, first_in, first_of, opened, closed_out, advanced, finished}
use Rattle.finder.proofs.OneStep.{beq_refl, beq_true, closed_same, first-same, closed_ends, closed_begins, first-begins, middles-same, middles-differ}
use Rattle.finder.proofs.Edged.{Edged, edged}
use Rattle.finder.proofs.Flags.{bits_most, first-most, last_cut, first-behind, last-before}

-- of two answers that differ each is the other's opposite
opposite : (x y : Bool) → beq x y ≡ false → (y ≡ not x) × (not y ≡ x)
opposite true true d = (d, sym d)
opposite true false d = (refl, refl)
opposite false true d = (refl, refl)
opposite false false d = (sym d, d)

-- the record of an interval, with the flags of its first and of its last
record_is : (g : ℕ → Sight) (w : Window) (o : Begun) (count last flags : ℕ) → o.flags ≡ first_flags g w o.first → flags ≡ last_flags g w last
    → (out : List ℕ) → closed_out w count o last flags out ≡ written g w out count (span o.first last ∷ [])
unfolding write_of records_of interval_of flags_of
record_is g w o count last flags p q out = rw (p, q, append-nil)

-- ---- what is open behind a sample

module _ (g : ℕ → Sight) (w : Window) where
  -- something is open exactly after a yes
  pub opened-was : (told : Bool) (first : ℕ) → is_some (opened g w told first) ≡ told
  opened-was true first = refl
  opened-was false first = refl

  pub opened-again : (told : Bool) (first : ℕ) → opened g w told first ≡ opened g w told (first_in (opened g w told first))
  opened-again true first = refl
  opened-again false first = refl

  -- its flags are those of its first
  opened-flags : (told : Bool) (first : ℕ) (o : Begun) → Some o ≡ opened g w told first → o.flags ≡ first_flags g w o.first
  opened-flags true first o e = let same : o ≡ record { first = first; flags = first_flags g w first } = cc in rw same
  opened-flags false first o e = cc

  -- and so are those of a state's
  pub begun-flags : (s : State) (told : Bool) (first : ℕ) → s.begun ≡ opened g w told first
      → (o : Begun) → s.begun ≡ Some o → o.flags ≡ first_flags g w o.first
  begun-flags s told first here o is = opened-flags told first o (sym is ∙ here)

-- ---- one step

-- the state r and the bytes out' are those after the step
abbrev Made : (ℕ → Bool) → (ℕ → Sight) → Window → State → ℕ → List ℕ → State → List ℕ → Type 0
Made f g w s b out r out' = (r ≡ advanced f g w s b) × (out' ≡ written g w out s.count (closed_in f (first_of s) s.at b))

-- what the code has of a step whose ends differ: b answered told, and the neighbours e were found
pub record Parted (f : ℕ → Bool) (g : ℕ → Sight) (w : Window) (s : State) (b : ℕ) (out : List ℕ) (told : Bool) (e : Edge) : Type 0 where
  pub along : Along f g w s b out
  pub at_b : told ≡ f b
  pub apart : beq told (was_of s) ≡ false
  pub found : e ≡ edge f s.at b

module _ {f : ℕ → Bool} {g : ℕ → Sight} {w : Window} {s : State} {b : ℕ} {out : List ℕ} {told : Bool} where
  -- a step whose ends agree
  module _ (along : Along f g w s b out) (at_b : told ≡ f b) (agree : beq told (was_of s) ≡ true) where
    same : f s.at ≡ f b
    same = sym along.stretch.answered ∙ sym (beq_true told (was_of s) agree) ∙ at_b

    still-open : s.begun ≡ opened g w (f b) (first_of s)
    still-open = rw same at along.here

    pub stays : Made f g w s b out (record { at = b; begun = s.begun; count = s.count; asked = s.asked + 1 }) out
    unfolding advanced records_of
    stays =
        let none : s.count ≡ s.count + 0 = omega arith in
        rw (
          closed_same f (first_of s) s.at b same,
          first-same f (first_of s) s.at b same,
          middles-same f s.at b (rw (← along.stretch.answered, ← at_b) agree),
        )
        (cc still-open, refl)

  -- a step whose ends differ
  module _ {e : Edge} (p : Parted f g w s b out told e) where
    abbrev at_a : was_of s ≡ f s.at
    at_a = p.along.stretch.answered

    others : (was_of s ≡ not told) × (not (was_of s) ≡ told)
    others = opposite told (was_of s) p.apart

    unlike : f s.at ≢ f b
    unlike same = true≢false (sym (beq_refl told) ∙ ap (beq told) (p.at_b ∙ sym same ∙ sym at_a) ∙ p.apart)

    -- the neighbours that were found
    sides : Edged f s.at b e
    sides = rw p.found (edged f s.at b p.along.stretch.from p.along.stretch.near unlike)

    pub turned : Turned f e (was_of s)
    turned = record { low = at_a ∙ sym sides.low; high = others.1 ∙ p.at_b ∙ sym sides.high ∙ ap f (sym sides.next) }

    counted : s.asked + 1 + e.asked ≡ s.asked + suc (length (middles_in f s.at b))
    counted = rw p.found (omega (arith, middles-differ f s.at b (rw (← at_a, ← p.at_b) p.apart)))

    module _ {why : ℕ} (says : why ≡ differing 4 8 (g e.low) (g e.high)) where
      -- from no to yes
      module _ (none : s.begun ≡ None) where
        from_no : f s.at ≡ false
        from_no = sym at_a ∙ ap is_some none

        to_yes : f b ≡ true
        to_yes = sym p.at_b ∙ sym others.1 ∙ ap (λ (x : Option Begun). not (is_some x)) none

        first-told : why ≡ first_flags g w e.high
        first-told = says ∙ rw sides.next (sym (first-behind g w e.low (omega (arith, p.along.from, sides.from))))

        pub begins : Made f g w s b out (record { at = b; begun = Some (record { first = e.high; flags = why }); count = s.count; asked = s.asked + 1 + e.asked }) out
        unfolding advanced records_of
        begins =
            let none : s.count ≡ s.count + 0 = omega arith in
            rw (
              closed_begins f (first_of s) s.at b from_no to_yes,
              first-begins f (first_of s) s.at b from_no to_yes,
              to_yes,
              ← p.found,
              ← counted,
              ← first-told,
            )
            (cc, refl)

      -- from yes to no
      module _ {o : Begun} (is : s.begun ≡ Some o) where
        from_yes : f s.at ≡ true
        from_yes = sym at_a ∙ ap is_some is

        to_no : f b ≡ false
        to_no = sym p.at_b ∙ sym others.1 ∙ ap (λ (x : Option Begun). not (is_some x)) is

        abbrev first-told' : o.flags ≡ first_flags g w o.first
        first-told' = begun-flags g w s (f s.at) (first_of s) p.along.here o is

        last-told : 4 * why ≡ last_flags g w e.low
        last-told = ap (λ (n : ℕ). 4 * n) says ∙ rw sides.next (sym (last-before g w e.low (omega (arith, p.along.to, sides.to))))

        closes : closed_in f (first_of s) s.at b ≡ span o.first e.low ∷ []
        closes =
            closed_ends f (first_of s) s.at b from_yes to_no
            ∙ ap (λ (x : Option Begun). span (first_in x) (edge f s.at b).low ∷ []) is
            ∙ ap (λ (x : Edge). span o.first x.low ∷ []) (sym p.found)

        pub ends-room : RoomFor s.count 1 out × Flagged o (4 * why)
        ends-room = (rw closes at p.along.room, omega (arith, first-told', first-most g w o.first, bits_most _ 4 8 _ _ says))

        pub ends : {out' : List ℕ} → out' ≡ closed_out w s.count o e.low (4 * why) out
            → Made f g w s b out (record { at = b; begun = None; count = s.count + 1; asked = s.asked + 1 + e.asked }) out'
        unfolding advanced
        ends h = rw (closes, to_no, ← counted) (cc, h ∙ record_is g w o s.count e.low (4 * why) first-told' last-told out)

-- ---- after the last sample

module _ {f : ℕ → Bool} {g : ℕ → Sight} {w : Window} {s : State} {out : List ℕ} (p : AtEnd f g w s out) where
  abbrev Finished : Found → List ℕ → Type 0
  Finished r out' = (r ≡ finished s) × (out' ≡ written g w out s.count (ended (was_of s) (first_of s) s.at))

  -- a yes there closes an interval
  module _ {o : Begun} (is : s.begun ≡ Some o) where
    first-last : o.flags ≡ first_flags g w o.first
    first-last = begun-flags g w s (f s.at) (first_of s) p.here o is

    closes-last : ended (was_of s) (first_of s) s.at ≡ span o.first s.at ∷ []
    closes-last = ap (λ (x : Option Begun). ended (is_some x) (first_in x) s.at) is

    pub last-room : RoomFor s.count 1 out × Flagged o 2
    last-room = (rw closes-last at p.room, omega (arith, first-last, first-most g w o.first))

    pub last_yes : {out' : List ℕ} → out' ≡ closed_out w s.count o s.at 2 out → Finished (record { intervals = s.count + 1; asked = s.asked }) out'
    unfolding finished
    last_yes h = rw closes-last (refl, h ∙ record_is g w o s.count s.at 2 first-last (rw p.last (sym (last_cut g w))) out)

  pub last_no : s.begun ≡ None → Finished (record { intervals = s.count; asked = s.asked }) out
  unfolding finished records_of
  last_no is =
      let none : s.count ≡ s.count + 0 = omega arith in
      rw (ap (λ (x : Option Begun). ended (is_some x) (first_in x) s.at) is) (cc, refl)
