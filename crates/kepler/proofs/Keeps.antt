-- K falls by at most 2 from any point on, and what that settles; of the numbers lifted by a large one, since the sine rises by at most 8/5 of the way.
use mathlib.Core.Path.{◌≡◌, ap, ◌∙◌}
use mathlib.Core.Bool.{true}
use Prim.Native.Nat.{ℕ, ◌+◌, ◌-◌, ◌*◌, ◌/◌, ◌%◌, ◌^◌, ◌≤◌, ◌<◌}
use native.Mathlib.Nat.{le_refl, mul-le-mul_left, mul-le-mul_right, mul-add, mul_assoc}
use native.Mathlib.Omega.{arith}
use lib.Dec.{lit≤}
use lib.IntN.{ℤ, pos, ◌+ℤ◌}
use lib.Signed.{le_z, lt_z, ◌≤ℤ◌}
use Rattle.halving.specs.Foretold.{YesUpTo, NoFrom}
use Rattle.fixed.specs.Scaled.{one, ◌∘◌}
use Rattle.fixed.specs.Within.{Within}
use Rattle.fixed.proofs.Within.{scaled-within, sub_within, add-within, wider}
use Rattle.fixed.proofs.Lift.{up, up-scaled, scaled-up, up_more, up-add, up-sub, le_up, up_le, above-up, up_above}
use Rattle.angle.specs.Turn.{turn}
use Rattle.sine.specs.Sine.{sine_of}
use Rattle.sine.proofs.Laws.{sine-small}
use Rattle.sine.proofs.Slope.{sine_rise}
use Rattle.kepler.specs.Kepler.{Eccentricity, radian, K, reached}
use Rattle.kepler.proofs.Laws.{passed, beyond}

-- ---- what K takes from E

term : ℕ → ℕ → ℤ
term e E = pos e ∘ sine_of (E % turn) ∘ pos radian

-- the sine at E, lifted
lifted : ℕ → ℕ
lifted E = up (one * one) (sine_of (E % turn))

lifted_rise : (E F : ℕ) → E ≤ F → F ≤ turn → 5 * (lifted F - lifted E) ≤ 8 * (F - E) + 5
unfolding lifted
lifted_rise E F h k = omega (arith, sine_rise (one * one) E F (lit≤ tt) h k)

-- lifted by so much that nothing is cut off
abbrev height : ℕ
height = 2 ^ 62

module _ (e : ℕ) (h : Eccentricity e) where
  term-within : (E : ℕ) → Within (term e E) (radian * e)
  unfolding term
  term-within E =
      let shift : Within (pos e ∘ sine_of (E % turn)) e = scaled-within e (record { within = le_refl e }) (sine-small (E % turn)) (le_refl (e * one)) in
      scaled-within (radian * e) shift (record { within = le_refl radian }) (omega arith)

  term-below : (E : ℕ) → Within (term e E) height
  term-below E = wider (term-within E) (omega arith)

  term_up : (E : ℕ) → up height (term e E) ≡ radian * (e * lifted E / one) / one + (height - radian * e)
  unfolding lifted term
  term_up E =
      let s = sine_of (E % turn) in
      let all : radian * e + (height - radian * e) ≡ height = omega arith in
      let exact : up (radian * e) (term e E) ≡ radian * (e * lifted E / one) / one = scaled-up (pos e ∘ s) radian e ∙ ap (λ (v : ℕ). radian * v / one) (up-scaled e one s) in
      rw (all, exact) at (up_more (height - radian * e) (term-within E))

  -- it rises no faster than E, but for two units that the floors add
  term_rise : (E F : ℕ) → E ≤ F → F ≤ turn → up height (term e F) ≤ up height (term e E) + (F - E) + 2
  term_rise E F k l =
      let d = lifted F - lifted E in
      let near : lifted F ≤ lifted E + d = omega arith in
      let part : 32 * e ≤ 31 * one = omega arith in
      rw (term_up E, term_up F)
      (omega (arith, lifted_rise E F k l, rw mul-add at (mul-le-mul_left e near), rw (mul_assoc 32 e d) at (mul-le-mul_right d part)))

  -- ---- K

  K-within : (E : ℕ) → E ≤ turn → Within (K e E) (turn + radian * e)
  unfolding K term
  K-within E k = let start : Within (pos E) turn = record { within = k } in sub_within start (term-within E)

  K-below : (E : ℕ) → E ≤ turn → Within (K e E) height
  K-below E k = wider (K-within E k) (omega arith)

  more-below : (n E : ℕ) → n ≤ turn → E ≤ turn → Within (K e E +ℤ pos n) height
  more-below n E l k = let more : Within (pos n) turn = record { within = l } in wider (add-within (K-within E k) more) (omega arith)

  up-keeps : (E F : ℕ) → E ≤ F → F ≤ turn → up height (K e E) ≤ up height (K e F) + 2
  unfolding K term
  up-keeps E F k l = omega (arith, up-sub E (term-below E), up-sub F (term-below F), term_rise E F k l)

  -- K falls by at most 2 from any point on
  pub keeps : (E F : ℕ) → E ≤ F → F ≤ turn → K e E ≤ℤ (K e F +ℤ pos 2)
  keeps E F k l = passed _ _ (up_le (K-below E (omega arith)) (more-below 2 F (lit≤ tt) l) (omega (arith, up-add 2 (K-below F l), up-keeps E F k l)))

  -- ---- what that settles, where K at a point is M with n units to spare, which are two or more

  module _ (M n : ℕ) (m : M < turn) (two : 2 ≤ n) (small : n ≤ turn) where
    M_below : Within (pos M) height
    M_below = record { within = omega arith }

    fallen : (E F : ℕ) → E ≤ F → F ≤ turn → up height (K e E) ≤ up height (K e F) + n
    fallen E F k l = omega (arith, le_up (K-below E (omega arith)) (more-below 2 F (lit≤ tt) l) (keeps E F k l), up-add 2 (K-below F l))

    -- below a sure low every middle says yes
    pub yes_up_to : (low : ℕ) → low ≤ turn → le_z (K e low +ℤ pos n) (pos M) ≡ true → YesUpTo (reached e M) low
    unfolding reached
    yes_up_to low k t E z l =
        up_le (K-below E (omega arith)) M_below
        (omega (arith, le_up (more-below n low small k) M_below (passed _ _ t), up-add n (K-below low k), fallen E low l k))

    -- above a sure high none does
    pub no_from : (high : ℕ) → lt_z (pos (M + n)) (K e high) ≡ true → NoFrom (reached e M) high turn
    unfolding reached
    no_from high t E l k =
        let further : Within (pos (M + n)) height = record { within = omega arith } in
        up_above (K-below E (omega arith)) M_below
        (omega (arith, above-up (K-below high (omega arith)) further (beyond (pos (M + n)) (K e high) t), fallen high E l (omega arith)))
