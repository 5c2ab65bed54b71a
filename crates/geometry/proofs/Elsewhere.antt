-- Question 1 does not use the station: hidden, its answer and what tells why are the same with any other, by unfolding. Another turn is another station, by arithmetic.
use mathlib.Core.Path.{◌≡◌, refl}
use Prim.Native.Nat.{ℕ, ◌*◌, ◌<◌}
use native.Mathlib.Omega.{arith}
use lib.Dec.{lit<}
use Rattle.angle.specs.Turn.{turn, negate_of, add_of}
use Rattle.kepler.proofs.Laws.{phase-lt}
use Rattle.geometry.specs.declared.Station.{Station}
use Rattle.geometry.specs.declared.Orbit.{Orbit}
use Rattle.geometry.specs.Placed.{mean_of, anomaly_of, place_of}
use Rattle.geometry.specs.Hidden.{depth_of, behind_of, hidden_at}
use Rattle.geometry.specs.Visible.{ten_turns, term_at, τBy, τOf, answer_at}
use Rattle.geometry.specs.Sight.{sight_at}
use Rattle.geometry.specs.Elsewhere.{seen_from, turned_by}

module _ (o : Orbit) (s : Station) (t : ℕ) where
  -- the hidden answer uses no station
  pub hidden_anywhere : hidden_at (seen_from s o) t ≡ hidden_at o t
  unfolding hidden_at behind_of depth_of place_of anomaly_of mean_of
  hidden_anywhere = refl

  -- nor does the answer to question 1
  pub answer_anywhere : {question : ℕ} → question ≡ 1 → answer_at (seen_from s o) question t ≡ answer_at o question t
  unfolding answer_at
  answer_anywhere e = rw e hidden_anywhere

  -- nor what tells why there
  pub sight_anywhere : {question : ℕ} → question ≡ 1 → sight_at (seen_from s o) question t ≡ sight_at o question t
  unfolding sight_at
  sight_anywhere e = rw (e, hidden_anywhere)

-- a station's term is below a turn
term-lt : (t : ℕ) → term_at t < turn
unfolding term_at
term-lt t = phase-lt ten_turns (10 * t) (lit< tt)

-- another turn is another meridian at each instant: so turned, τ is that of `term` in place of the station's own
pub turned_τ : (o : Orbit) (term t : ℕ) → τOf (seen_from (turned_by term t o.station) o) t ≡ τBy o term
unfolding τOf
turned_τ o term t = further o.station.meridian.units (term_at t) (term-lt t)
  where
    further : (m x : ℕ) → x < turn → add_of (add_of (add_of m term) (negate_of x)) x ≡ add_of m term
    further m x below = omega (arith, below)
