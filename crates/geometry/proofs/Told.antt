-- What tells why at an instant, and its yes or no: most of the one is known from the other, and where the first is the same so is the second.
use mathlib.Core.Path.{◌≡◌, refl, sym, ◌∙◌}
use mathlib.Core.Bool.{Bool, true, false, not, ◌&&◌, cond}
use Prim.Native.Nat.{ℕ}
use lib.Dec.{eqb}
use Rattle.geometry.specs.declared.Orbit.{Orbit}
use Rattle.geometry.specs.declared.Sight.{Sight}
use Rattle.geometry.specs.Hidden.{hidden_at}
use Rattle.geometry.specs.Visible.{up_at, visible_at, answer_at}
use Rattle.geometry.specs.Sight.{sight_at, Answered}

abbrev sight : Bool → Bool → Sight
sight hidden up = record { hidden = hidden; up = up }

-- a yes is up and not hidden
yes_both : (u h : Bool) → true ≡ (u && not h) → (false ≡ h) × (true ≡ u)
yes_both true true e = (sym e, refl)
yes_both true false e = (refl, refl)
yes_both false true e = (sym e, e)
yes_both false false e = (refl, e)

-- a no while up is hidden
no_hidden : (u h : Bool) → true ≡ u → false ≡ (u && not h) → true ≡ h
no_hidden true true p e = refl
no_hidden true false p e = sym e
no_hidden false h p e = cc

module _ (o : Orbit) (question t : ℕ) where
  -- question 1 asks for hidden
  pub asks_hidden : question ≡ 1 → answer_at o question t ≡ (sight_at o question t).hidden
  unfolding answer_at sight_at
  asks_hidden e = rw e

  -- and tells no up
  pub no_up : question ≡ 1 → (sight_at o question t).up ≡ false
  unfolding sight_at
  no_up e = rw e

  -- question 1: hidden is the answer
  pub by-hidden : {told : Bool} → Answered o question t told → eqb question 1 ≡ true → sight told false ≡ sight_at o question t
  unfolding sight_at answer_at
  by-hidden {told} answered q = let is : told ≡ hidden_at o t = answered ∙ rw q in rw (q, is)

  -- question 2
  module _ (q : eqb question 1 ≡ false) where
    -- both are what they are
    pub by_both : {u h : Bool} → u ≡ up_at o t → h ≡ hidden_at o t → sight h u ≡ sight_at o question t
    unfolding sight_at
    by_both is hid = rw (q, is, hid)

    visible-is : answer_at o question t ≡ (up_at o t && not (hidden_at o t))
    unfolding answer_at visible_at
    visible-is = rw q

    -- a yes tells both
    pub by_yes : {told : Bool} → Answered o question t told → told ≡ true → sight false true ≡ sight_at o question t
    by_yes answered e = let b = yes_both (up_at o t) (hidden_at o t) (sym e ∙ answered ∙ visible-is) in by_both b.1 b.0

    -- a no while up tells hidden
    pub by_no : {told u : Bool} → Answered o question t told → told ≡ false → u ≡ up_at o t → u ≡ true → sight u u ≡ sight_at o question t
    by_no answered e is risen = by_both is (risen ∙ no_hidden (up_at o t) (hidden_at o t) (sym risen ∙ is) (sym e ∙ answered ∙ visible-is))

-- where both are the same at two instants, so is the answer
pub same_answer : (o : Orbit) (question a b : ℕ) → let x = sight_at o question a in let y = sight_at o question b in x.hidden ≡ y.hidden → x.up ≡ y.up → answer_at o question a ≡ answer_at o question b
unfolding sight_at answer_at visible_at
same_answer o question a b h = by (eqb question 1)
  where
    by : (x : Bool) → cond x false (up_at o a) ≡ cond x false (up_at o b)
        → cond x (hidden_at o a) (up_at o a && not (hidden_at o a)) ≡ cond x (hidden_at o b) (up_at o b && not (hidden_at o b))
    by true u = h
    by false u = rw (u, h)
