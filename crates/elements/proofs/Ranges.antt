-- What std says of a range and of a finite float, in the words of the record's fields.
use mathlib.Core.Path.{◌≡◌, refl, ap, ◌∙◌}
use mathlib.Core.List.{List}
use Prim.Native.Nat.{ℕ}
use mathlib.Core.Bool.{Bool, true, false, ◌||◌, cond}
use lib.Ieee.{Float, nan, inf, fin, le, lt, eq}
use lib.Ieee.Scale.{finite}
use Rattle.std.specs.Prelude.{Some, None}
use Rattle.refusal.specs.Rows.{Verdict}
use Rattle.std.specs.Float.{float_is_finite}
use Rattle.std.specs.Ordering.{float_partial_cmp, is_some_and, is_le, is_lt, partial_le, partial_lt}
use Rattle.std.specs.declared.cmp.Ordering.TheVariants.{Less, Equal, Greater}
use Rattle.std.specs.declared.ops.Bound.{Bound}
use Rattle.std.specs.declared.ops.Bound.TheVariants.{Included, Excluded}
use Rattle.nearest.specs.Nearest.{number}
use Rattle.elements.specs.Field.{within, below, accepts, judge, field_row_of, turn_in}

pub std_finite : (x : Float) → float_is_finite x ≡ finite x
unfolding float_is_finite
std_finite nan = refl
std_finite (inf s) = refl
std_finite (fin s m e) = refl

-- a comparison's three tests, of which `<=` asks the first two and `<` the first
at_most : (p q r : Bool) → is_some_and is_le (cond p (Some Less) (cond q (Some Equal) (cond r (Some Greater) None))) ≡ (p || q)
at_most true q r = refl
at_most false true r = refl
at_most false false true = refl
at_most false false false = refl

under : (p q r : Bool) → is_some_and is_lt (cond p (Some Less) (cond q (Some Equal) (cond r (Some Greater) None))) ≡ p
under true q r = refl
under false true r = refl
under false false true = refl
under false false false = refl

partial_le-is : (x y : Float) → partial_le float_partial_cmp x y ≡ le x y
unfolding le
partial_le-is x y = at_most (lt x y) (eq x y) (lt y x)

partial_lt-is : (x y : Float) → partial_lt float_partial_cmp x y ≡ lt x y
partial_lt-is x y = under (lt x y) (eq x y) (lt y x)

-- `low..=high` and `low..high`
pub from_to : (low high x : Float) → accepts (Included low) (Included high) x ≡ within low high x
unfolding accepts
from_to low high x = simp partial_le-is

pub up_to : (low high x : Float) → accepts (Included low) (Excluded high) x ≡ below low high x
unfolding accepts
up_to low high x = simp (partial_le-is, partial_lt-is)

-- ---- a field's row, by what `field` says of its range

module _ (s : List ℕ) (k : ℕ) (x : Float) {v : Verdict} {low high a b : Float} where
  pub included : v ≡ field_row_of s k x (accepts (Included a) (Included b)) → a ≡ low → b ≡ high → v ≡ field_row_of s k x (within low high)
  included h p q = h ∙ ap (judge s k x) (from_to a b x ∙ (λ i. within (p i) (q i) x))

  pub excluded : v ≡ field_row_of s k x (accepts (Included a) (Excluded b)) → a ≡ low → b ≡ high → v ≡ field_row_of s k x (below low high)
  excluded h p q = h ∙ ap (judge s k x) (up_to a b x ∙ (λ i. below (p i) (q i) x))

-- and for `0.0..360.0`, by its ends as its type has them: the row of a turn
pub of_a_turn : (s : List ℕ) (k : ℕ) (x : Float) {v : Verdict} {from to : Bound Float} → v ≡ field_row_of s k x (accepts from to) → from ≡ Included (number 0) → to ≡ Excluded (number 360) → v ≡ field_row_of s k x turn_in
of_a_turn s k x h p q = excluded s k x (h ∙ (λ i. field_row_of s k x (accepts (p i) (q i)))) refl refl
