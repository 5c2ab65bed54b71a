-- The laws of M and of Kepler's search, for every eccentricity and every instant: by those of halving, and by the sine of 0.
use mathlib.Core.Path.{◌≡◌, refl, subst, sym}
use mathlib.Core.Bool.{Bool, true, false, not}
use Prim.Native.Nat.{ℕ, ◌+◌, ◌*◌, ◌/◌, ◌%◌, ◌≤◌, ◌<◌}
use native.Mathlib.Nat.{le_refl, lt_of_le_of_lt, mul-le-mul, div-lt_iff_lt-mul, mod-lt}
use native.Mathlib.Omega.{arith}
use lib.Dec.{T, leb-zero, lt→ltb, nleb→lt}
use lib.IntN.{ℤ, pos, negsuc, +ℤ_idr}
use lib.Signed.{le_z, lt_z, ◌≤ℤ◌, ◌<ℤ◌, le_z_yes, lt_z_yes, clash_ℤ}
use borrow.Author.Tests.{lt-leb}
use Rattle.halving.proofs.Laws.{Differ, exactly, differ}
use Rattle.fixed.proofs.Within.{scaled-zero, zero-scaled}
use Rattle.nearest.specs.Nearest.{nearest}
use Rattle.angle.specs.Turn.{turn}
use Rattle.sine.specs.Table.{π, π-unit}
use Rattle.sine.proofs.Laws.{sine_0}
use Rattle.kepler.specs.Kepler.{Period, phase_of, radian, K, reached, search_of, kepler_of}

-- 683,565,276 is the nearest whole number to 2^32/2π, with the table's π
pub radian-nearest : radian ≡ nearest (turn * π-unit) (2 * π)
radian-nearest = refl

-- what is left of a period is less than a turn, where the whole period is n units and n no more than a turn
pub part-lt : {n p : ℕ} (t : ℕ) → Period p → n ≤ turn → t % p * n / p < turn
part-lt {n} {p} t h k = (div-lt_iff_lt-mul h).1 (lt_of_le_of_lt (mul-le-mul (le_refl (t % p)) k) (omega (arith, mod-lt t h)))

-- a phase is less than a turn
pub phase-lt : (p t : ℕ) → Period p → phase_of p t < turn
unfolding phase_of
phase-lt p t h = part-lt t h (le_refl turn)

-- ---- K at the ends of the search: at a whole turn the two anomalies agree

K-whole : (e E : ℕ) → E % turn ≡ 0 → K e E ≡ pos E
unfolding K
K-whole e E h = rw (h, sine_0, scaled-zero, zero-scaled) (+ℤ_idr (pos E))

-- ---- where the search ends

-- 32 halvings from 0 and 2^32 end at neighbours, whatever e and M are (document 02, wish 6)
pub one-wide : (e M : ℕ) → ((search_of e M).asked ≡ 32) × ((search_of e M).high ≡ (search_of e M).low + 1)
unfolding search_of
one-wide e M = exactly (reached e M) 32 0 0

-- ---- K(E) ≤ M < K(E + 1), for M less than a turn

pub passed : (a b : ℤ) → le_z a b ≡ true → a ≤ℤ b
passed a b t = le_z_yes (subst T (sym t) tt)

not-le : (a b : ℤ) → T (not (le_z a b)) → T (lt_z b a)
not-le (pos a) (pos b) t = lt→ltb b a (nleb→lt a b t)
not-le (pos a) (negsuc b) t = tt
not-le (negsuc a) (pos b) t = absurd t
not-le (negsuc a) (negsuc b) t = lt→ltb a b (nleb→lt b a t)

failed : (a b : ℤ) → le_z a b ≡ false → b <ℤ a
failed a b t = lt_z_yes (not-le a b (subst (λ (x : Bool). T (not x)) (sym t) tt))

-- a test that passed, as the opposite one that failed
pub beyond : (a b : ℤ) → lt_z a b ≡ true → le_z b a ≡ false
beyond a b t = on (le_z b a) refl
  where
    on : (u : Bool) → le_z b a ≡ u → u ≡ false
    on true e = clash_ℤ (lt_z_yes (subst T (sym t) tt)) (passed b a e)
    on false e = refl

search-differs : (e M : ℕ) → M < turn → Differ (reached e M) (search_of e M).low (search_of e M).high
unfolding search_of reached
search-differs e M h =
    differ (reached e M) 32 0 turn 0
    (record { low_moves = rw (K-whole e 0 refl) (leb-zero M); high-stays = rw (K-whole e turn refl) (lt-leb turn M h) })

pub record Solves (e M E : ℕ) : Type 0 where
  pub reached-here : K e E ≤ℤ pos M
  pub not_beyond : pos M <ℤ K e (E + 1)

pub kepler_solves : (e M : ℕ) → M < turn → Solves e M (kepler_of e M)
unfolding reached kepler_of
kepler_solves e M h =
    record {
      reached-here = passed _ _ (search-differs e M h).low_moves;
      not_beyond = subst (λ (E : ℕ). pos M <ℤ K e E) (one-wide e M).1 (failed _ _ (search-differs e M h).high-stays);
    }
