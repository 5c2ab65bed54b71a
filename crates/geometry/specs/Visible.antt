-- When the station sees the planet, and the answer to a question (document 01, "Hidden and visible"; document 02, wish 2).
use Rattle.std.specs.Prelude.{Bool, ◌&&◌, not, cond, List, ℕ, ◌*◌, eqb, ℤ, neg_ℤ}
use Rattle.std.specs.Int.Signed.{le_z}
use Rattle.fixed.specs.Scaled.{dot_of}
use Rattle.angle.specs.Turn.{add_of}
use Rattle.kepler.specs.Kepler.{phase_of}
use Rattle.rotation.specs.Rotation.{turn_of, direction_of}
use Rattle.geometry.specs.declared.Orbit.{Orbit}
use Rattle.geometry.specs.Hidden.{hidden_at}

-- ten turns of the station, in ms: the stars see one turn in 86,164.0905 s (document 02, wish 2)
abbrev pub ten_turns : ℕ
ten_turns = 861640905

-- the station's term: floor(((10·t) mod 861,640,905)·2^32 / 861,640,905) (document 02, wish 2; source 002's equation (7) has one turn a day)
unfoldable pub term_at : ℕ → ℕ
term_at t = phase_of ten_turns (10 * t)

-- τ = longitude + Greenwich + the station's term, modulo 2^32
abbrev pub τBy : Orbit → ℕ → ℕ
τBy o term = add_of o.station.meridian.units term

-- at t
unfoldable pub τOf : Orbit → ℕ → ℕ
τOf o t = τBy o (term_at t)

-- u = (cos lat∘cos τ, cos lat∘sin τ, sin lat)
unfoldable pub zenith_of : Orbit → ℕ → List ℤ
zenith_of o t = direction_of (turn_of (τOf o t)) o.station.latitude

-- −(ux∘Ex + uy∘Ey + uz∘Ez) ≥ sine of field 13: the planet is taken as infinitely far, along −E. Equality is up (source 002,
-- equation (6): occulted when less)
unfoldable pub up_at : Orbit → ℕ → Bool
up_at o t = le_z o.station.least (neg_ℤ (dot_of (zenith_of o t) o.body.toward))

-- visible: up and not hidden. Question 2 supposes that the far body is the Earth (document 01, "Hidden and visible")
unfoldable pub visible_at : Orbit → ℕ → Bool
visible_at o t = up_at o t && not (hidden_at o t)

-- question 1 is hidden and 2 visible; refusal 8 is for any other
unfoldable pub answer_at : Orbit → ℕ → ℕ → Bool
answer_at o question t = cond (eqb question 1) (hidden_at o t) (visible_at o t)
