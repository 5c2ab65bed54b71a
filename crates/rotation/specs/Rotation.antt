-- The body direction and the rotation (document 01, "Place in the orbit"). A letter stands for the turn of its angle: ω of the
-- periapsis argument, Ω of the node, i of the inclination, α of the right ascension, δ of the declination.
use Rattle.std.specs.Prelude.{List, [], ◌∷◌, ℕ, get_or, ℤ, neg_ℤ, ◌+ℤ◌, ◌-ℤ◌}
use Rattle.fixed.specs.Scaled.{◌∘◌}
use Rattle.sine.specs.Sine.{sine_of, cosine_of}
use Rattle.rotation.specs.declared.Turn.{Turn}

-- the turn of θ: its cosine and its sine
unfoldable pub turn_of : ℕ → Turn
turn_of θ = record { cos = cosine_of θ; sin = sine_of θ }

-- body direction (cos δ∘cos α, cos δ∘sin α, sin δ)
unfoldable pub direction_of : Turn → Turn → List ℤ
direction_of α δ = (δ.cos ∘ α.cos) ∷ (δ.cos ∘ α.sin) ∷ δ.sin ∷ []

-- The rows are those of source 000's matrix RPQW, in the order of factors that document 01 states: that of the listing, subroutine
-- RXYZPQW, lines RPQW(1,1) to RPQW(3,3). The printed matrix has cos i in the middle in three of its four products of three
-- (its (2,2) entry is cosΩ cosω cos i).

-- P: cosω∘cosΩ − sinω∘sinΩ∘cos i, cosω∘sinΩ + sinω∘cosΩ∘cos i, sinω∘sin i
unfoldable pub row_p : Turn → Turn → Turn → List ℤ
row_p ω Ω i =
    (ω.cos ∘ Ω.cos -ℤ ω.sin ∘ Ω.sin ∘ i.cos)
    ∷ (ω.cos ∘ Ω.sin +ℤ ω.sin ∘ Ω.cos ∘ i.cos)
    ∷ (ω.sin ∘ i.sin)
    ∷ []

-- Q: −(sinω∘cosΩ) − cosω∘sinΩ∘cos i, −(sinω∘sinΩ) + cosω∘cosΩ∘cos i, cosω∘sin i. Source 002's equation (8) prints a minus on
-- the third; its own listing, Q(3)=DCOS(OMEGA)*DSIN(XI), has plus, and so has document 01
unfoldable pub row_q : Turn → Turn → Turn → List ℤ
row_q ω Ω i =
    (neg_ℤ (ω.sin ∘ Ω.cos) -ℤ ω.cos ∘ Ω.sin ∘ i.cos)
    ∷ (neg_ℤ (ω.sin ∘ Ω.sin) +ℤ ω.cos ∘ Ω.cos ∘ i.cos)
    ∷ (ω.cos ∘ i.sin)
    ∷ []

-- W: sinΩ∘sin i, −(cosΩ∘sin i), cos i
unfoldable pub row_w : Turn → Turn → List ℤ
row_w Ω i = (Ω.sin ∘ i.sin) ∷ neg_ℤ (Ω.cos ∘ i.sin) ∷ i.cos ∷ []

-- three rows of three numbers
unfoldable pub rotation_of_of : Turn → Turn → Turn → List (List ℤ)
rotation_of_of ω Ω i = row_p ω Ω i ∷ row_q ω Ω i ∷ row_w Ω i ∷ []

-- P, Q and W are rows 0, 1 and 2
abbrev pub row_of : List (List ℤ) → ℕ → List ℤ
row_of m k = get_or m k []
