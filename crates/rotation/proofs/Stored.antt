-- What the machine stores: a product of two or of three, as a call gave it of operands that were read back, and a row of three.
use mathlib.Core.Path.{◌≡◌, ◌∙◌}
use mathlib.Core.List.{List, [], ◌∷◌}
use lib.IntN.{ℤ}
use Rattle.fixed.specs.Scaled.{one, at, ◌∘◌}
use Rattle.fixed.specs.Within.{Small, Is}
use Rattle.fixed.proofs.Machine.{loc, held, back, unit-is}

pub two : {r x y : ℤ} → Is r (loc x ∘ loc y) one → Small x → Small y → Is (loc r) (x ∘ y) one
two h k l = held (unit-is h (back k tt) (back l tt)) tt

times : {x y z u v w : ℤ} → x ≡ u → y ≡ v → z ≡ w → x ∘ y ∘ z ≡ u ∘ v ∘ w
times e f g = cc

pub three : {r x y z : ℤ} → Is r (loc x ∘ loc y ∘ loc z) one → Small x → Small y → Small z → Is (loc r) (x ∘ y ∘ z) one
three h k l m = held (record { is = h.is ∙ times (back k tt) (back l tt) (back m tt); bound = h.bound }) tt

pub row : {A : Type 0} {x y z u v w : A} → x ≡ u → y ≡ v → z ≡ w → ◌≡◌ {A = List A} (x ∷ y ∷ z ∷ []) (u ∷ v ∷ w ∷ [])
row e f g = cc

-- the three entries of a row
pub entries : {x y z : ℤ} (v : List ℤ) → x ≡ at v 0 → y ≡ at v 1 → z ≡ at v 2
    → ◌≡◌ {A = List ℤ} (x ∷ y ∷ z ∷ []) (at v 0 ∷ at v 1 ∷ at v 2 ∷ [])
entries v e f g = row e f g
