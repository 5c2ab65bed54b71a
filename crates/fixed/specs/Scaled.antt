-- The scaled product (document 01, the first paragraph), and its sum over rows of three (document 01, "Place in the orbit").
use Rattle.std.specs.Prelude.{List, ℕ, ◌^◌, get_or, ℤ, pos, ◌+ℤ◌, ◌*ℤ◌}
use Rattle.fixed.specs.Floor.{floor_div_of}

-- 2^30 stands for one
abbrev pub one : ℕ
one = 2 ^ 30

-- a∘b = floor(a·b / 2^30); products of three are taken from the left
infixl 7 ◌∘◌
unfoldable pub ◌∘◌ : ℤ → ℤ → ℤ
a ∘ b = floor_div_of (a *ℤ b) one

-- entry i of a row of three
abbrev pub at : List ℤ → ℕ → ℤ
at v i = get_or v i (pos 0)

-- the sum of p's entries each ∘ e's
unfoldable pub dot_of : List ℤ → List ℤ → ℤ
dot_of p e = at p 0 ∘ at e 0 +ℤ at p 1 ∘ at e 1 +ℤ at p 2 ∘ at e 2
