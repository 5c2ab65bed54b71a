-- What follows from rows 6 to 9 that pass, test by test: a good window of at most 4,096 steps, question 1 or 2, and enough room.
use Prim.Native.Nat.{ℕ, suc, ◌+◌, ◌-◌, ◌*◌, ◌/◌, ◌≤◌, ◌<◌}
use mathlib.Core.Path.{◌≡◌, refl, sym, ap, ◌∙◌}
use mathlib.Core.Logic.{◌⊎◌, inl, inr}
use mathlib.Core.Bool.{Bool, true, false, not, ◌&&◌, ◌||◌, true≢false}
use mathlib.Core.List.{List, [], ◌∷◌}
use native.Mathlib.Omega.{arith}
use native.Mathlib.Nat.{le-div_iff_mul-le, div-lt_iff_lt-mul, suc-mul}
use borrow.Author.Tests.{ltb-true, ltb-false, leb-false, eqb-true, eqb-false, lt-ltb, le-ltb}
use lib.Dec.{eqb, ltb, leb, lit≤}
use Rattle.std.specs.Prelude.{Err}
use Rattle.refusal.specs.Rows.{Verdict, passed, ◌then◌, first, row_at}
use Rattle.refusal.specs.Refusal.{number_of, field_of, zero, value_of, bits_of}
use Rattle.refusal.specs.declared.Refusal.{Refusal}
use Rattle.refusal.specs.declared.Refusal.TheVariants as refusal
use Rattle.refusal.proofs.Order.{then-passed, when-passed, passed-exactly}
use Rattle.elements.proofs.Bounds.{bounded}
use Rattle.finder.specs.declared.Window.{Window}
use Rattle.finder.specs.Samples.{last_end, longest_step, most_steps, Good, steps_of}
use Rattle.finder.specs.Records.{room_of}
use Rattle.finder.proofs.Samples.{steps-fit}
use Rattle.job.specs.Table.{bad_window, bad_step, bad_question, no_room_of, window_row, step_row, question_row, room_row, rows_to_question}

neither : (a b : Bool) → (a || b) ≡ false → (a ≡ false) × (b ≡ false)
neither true b h = (h, absurd (true≢false h))
neither false b h = (refl, h)

-- two rows that pass together pass each
pub both : (a b : Verdict) → (a then b) ≡ passed → (a ≡ passed) × (b ≡ passed)
unfolding first row_at
both a b h = let p = (passed-exactly (a ∷ b ∷ [])).0 (ap (λ (v : Verdict). a then v) (then-passed b) ∙ h) in (p 0, p 1)

-- ---- rows in turn

-- a row that refuses ends it
pub stopped : {v : Verdict} (vs : List Verdict) {r : Refusal} → v ≡ Err r → first (v ∷ vs) ≡ Err r
unfolding first ◌then◌
stopped vs h = rw h refl

-- one that passes hands on
pub handed_on : {v : Verdict} (vs : List Verdict) → v ≡ passed → first (v ∷ vs) ≡ first vs
unfolding first ◌then◌
handed_on vs h = rw h refl

-- and the last decides
pub decided : (v : Verdict) → first (v ∷ []) ≡ v
unfolding first
decided v = then-passed v

-- two that `then` joins are the table of both
pub joined : (a b : Verdict) → (a then b) ≡ first (a ∷ b ∷ [])
unfolding first
joined a b = ap (λ (v : Verdict). a then v) (sym (then-passed b))

-- for the check of `window_to_question`
pub ruleset rows = (stopped, handed_on, decided, joined)

-- ---- steps

-- more than m steps: a window longer than m of them
module _ (w : Window) (m : ℕ) (some : 1 ≤ w.step) where
  many : m * w.step < w.t1 - w.t0 → m < steps_of w
  unfolding steps_of
  many h = (le-div_iff_mul-le some).1 (rw (suc-mul m w.step) (omega arith))

  few : w.t1 - w.t0 ≤ m * w.step → steps_of w < suc m
  unfolding steps_of
  few h = (div-lt_iff_lt-mul some).1 (rw (suc-mul m w.step) (omega arith))

  pub more-steps : ltb (m * w.step) (w.t1 - w.t0) ≡ ltb m (steps_of w)
  more-steps = by (ltb (m * w.step) (w.t1 - w.t0)) refl
    where
      by : (t : Bool) → ltb (m * w.step) (w.t1 - w.t0) ≡ t → t ≡ ltb m (steps_of w)
      by true e = sym (lt-ltb m (steps_of w) (many (ltb-true _ _ e)))
      by false e = sym (le-ltb m (steps_of w) (let k = few (ltb-false _ _ e) in omega arith))

-- the room as `no_room` computes it
pub room-is : (w : Window) → 24 * ((steps_of w + 2) / 2) ≡ room_of w
unfolding room_of
room-is w = omega arith

-- what `bad_step` and `no_room` say of the steps, for the check
pub ruleset counts = (more-steps, steps-fit, room-is)

-- ---- 6 and 7

module _ (w : Window) (h6 : window_row w ≡ passed) (h7 : step_row w ≡ passed) where
  step_tests : ((eqb w.step 0 || ltb longest_step w.step) ≡ false) × (ltb most_steps (steps_of w) ≡ false)
  unfolding bad_step
  step_tests = neither (eqb w.step 0 || ltb longest_step w.step) (ltb most_steps (steps_of w)) (when-passed (bad_step w) refusal.Step h7)

  pub good : Good w
  unfolding bad_window
  good =
      let a = neither (leb w.t1 w.t0) (ltb last_end w.t1) (when-passed (bad_window w) refusal.Window h6) in
      let b = neither (eqb w.step 0) (ltb longest_step w.step) step_tests.0 in
      let some : w.step ≡ 0 → ⊥ = eqb-false w.step 0 b.0 in
      record {
        window = omega (arith, leb-false w.t1 w.t0 a.0);
        end = ltb-false last_end w.t1 a.1;
        some = omega arith;
        short = ltb-false longest_step w.step b.1;
      }

  pub few-steps : steps_of w ≤ most_steps
  few-steps = ltb-false most_steps (steps_of w) step_tests.1

-- ---- 6 to 8 together

-- leave a good window of at most 4,096 steps
pub let_through : (w : Window) (q : ℕ) → first (rows_to_question w q) ≡ passed → Good w × (steps_of w ≤ most_steps)
unfolding row_at
let_through w q h = let p = (passed-exactly (rows_to_question w q)).0 h in (good w (p 0) (p 1), few-steps w (p 0) (p 1))

-- ---- 8 and 9

pub one-or_two : (q : ℕ) → question_row q ≡ passed → (q ≡ 1) ⊎ (q ≡ 2)
unfolding bad_question
one-or_two q h = by (eqb q 1) (eqb q 2) refl refl (when-passed (bad_question q) refusal.Question h)
  where
    by : (a b : Bool) → eqb q 1 ≡ a → eqb q 2 ≡ b → (not a && not b) ≡ false → (q ≡ 1) ⊎ (q ≡ 2)
    by true b x y n = inl (eqb-true q 1 x)
    by false true x y n = inr (eqb-true q 2 y)
    by false false x y n = absurd (true≢false n)

pub roomy : (w : Window) (room : ℕ) → room_row w room ≡ passed → room_of w ≤ room
unfolding no_room_of
roomy w room h = ltb-false room (room_of w) (when-passed (no_room_of w room) refusal.Room h)

-- ---- numbers

pub number-most : (r : Refusal) → number_of r ≤ 9
number-most refusal.Length = lit≤ tt
number-most refusal.Word = lit≤ tt
number-most (refusal.NotFinite k x b) = lit≤ tt
number-most (refusal.OutOfRange k x) = lit≤ tt
number-most (refusal.TooClose d) = lit≤ tt
number-most refusal.Window = lit≤ tt
number-most refusal.Step = lit≤ tt
number-most refusal.Question = lit≤ tt
number-most refusal.Room = lit≤ tt

-- of the refusals 1, 2 and 6 to 9 the table says: field 0, number 0.0
pub else_returns : (r : Refusal) → (number_of r ≡ 3 → ⊥) → (number_of r ≡ 4 → ⊥) → (number_of r ≡ 5 → ⊥) → (field_of r ≡ 0) × (value_of r ≡ zero) × (bits_of r ≡ 0)
else_returns refusal.Length three four five = (refl, refl, refl)
else_returns refusal.Word three four five = (refl, refl, refl)
else_returns (refusal.NotFinite k x b) three four five = absurd (three refl)
else_returns (refusal.OutOfRange k x) three four five = absurd (four refl)
else_returns (refusal.TooClose d) three four five = absurd (five refl)
else_returns refusal.Window three four five = (refl, refl, refl)
else_returns refusal.Step three four five = (refl, refl, refl)
else_returns refusal.Question three four five = (refl, refl, refl)
else_returns refusal.Room three four five = (refl, refl, refl)

-- ---- before the list

-- the elements' whole numbers are bounded, and there is room: for the check of `from_room`
pub ruleset ready = (bounded, roomy)
