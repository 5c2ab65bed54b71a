-- The marked cases (document 01, "On both sides", ★) in one table: what the rules give, and what document 01 says.
use Rattle.std.specs.Prelude.{◌≡◌, List, [], ◌∷◌, ℕ, ◌*◌, ◌^◌, ℤ, pos, neg_ℤ}
use Rattle.nearest.specs.Nearest.{metres_of, eccentricity_of, decimal, number}
use Rattle.angle.specs.Turn.{degrees_of}
use Rattle.sine.specs.Sine.{sine_of}
use Rattle.kepler.specs.Kepler.{kepler_of}

-- a case: what the rules give, and after `is` what document 01 says
infix 68 ◌is◌
pub data Case : Type 0 where
  ◌is◌ : ℤ → ℤ → Case

-- in every case the two are equal
abbrev pub AllHold : List Case → Type 0
AllHold [] = Unit
AllHold (given is said ∷ rest) = (given ≡ said) × AllHold rest

-- e = 0.5
abbrev pub half : ℕ
half = eccentricity_of (decimal 5 10)

-- in document 01's order, each number as it stands there; that of e 0.95 is the one that `most_eccentric` names
abbrev pub cases : List Case
cases =
    sine_of 0 is pos 0
    ∷ sine_of (2 ^ 29) is pos 759250125
    ∷ sine_of (2 ^ 30) is pos (2 ^ 30)
    ∷ sine_of (2 ^ 31) is pos 0
    ∷ sine_of (3 * 2 ^ 30) is neg_ℤ (pos (2 ^ 30))
    ∷ pos (degrees_of (number 1)) is pos 11930465
    ∷ pos (degrees_of (number 5)) is pos 59652324
    ∷ pos (degrees_of (number 90)) is pos (2 ^ 30)
    ∷ pos (eccentricity_of (decimal 95 100)) is pos 1020054733
    ∷ pos (metres_of (decimal 33934 10)) is pos 3393400
    ∷ pos (kepler_of half (2 ^ 31)) is pos (2 ^ 31)
    ∷ pos (kepler_of half 0) is pos 0
    ∷ []
