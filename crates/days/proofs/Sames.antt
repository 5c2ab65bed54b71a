-- The same bytes: what `==` of slices tells, and so one list.
use Prim.Native.Nat.{ℕ}
use mathlib.Core.Path.{◌≡◌, refl, sym, ap}
use mathlib.Core.Bool.{Bool, true, ◌&&◌, true≢false}
use mathlib.Core.List.{List, [], ◌∷◌}
use borrow.Author.Tests.{eqb-true}
use lib.Dec.{eqb}
use lib.Pointwise.{pointwise}
use Rattle.days.specs.Given.{same}
use Rattle.days.proofs.Bools.{both}

-- two lists with the same bytes are one
pub same-is : (a b : List ℕ) → same a b ≡ true → a ≡ b
unfolding same
same-is [] [] h = refl
same-is [] (y ∷ b) h = absurd (true≢false (sym h))
same-is (x ∷ a) [] h = absurd (true≢false (sym h))
same-is (x ∷ a) (y ∷ b) h =
    let p = both (eqb x y) (same a b) h in
    rw (eqb-true x y p.0, same-is a b p.1) refl

-- `==` goes through both byte by byte
pub pointwise-same : (a b : List ℕ) → pointwise eqb a b ≡ same a b
unfolding same
pointwise-same [] [] = refl
pointwise-same [] (y ∷ b) = refl
pointwise-same (x ∷ a) [] = refl
pointwise-same (x ∷ a) (y ∷ b) = ap (λ (t : Bool). eqb x y && t) (pointwise-same a b)
