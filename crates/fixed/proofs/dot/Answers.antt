-- `fixed::dot` meets its contract: each product is within four, so each sum fits.
use mathlib.Core.Path.{◌≡◌}
use Prim.Native.Nat.{◌*◌}
use lib.IntN.{ℤ, ◌+ℤ◌}
use mir.Syntax.{w64}
use mir.Val.{to_z, of_z}
use borrow.Author.Rules.{rules}
use Rattle.fixed.specs.Scaled.{one, at, ◌∘◌, dot_of}
use Rattle.fixed.specs.Within.{Within, Is}
use Rattle.fixed.proofs.Machine.{bounded, fit, held, operand, sum, product, scaled-is}
use Rattle.fixed.proofs.dot.Goals as goal
use Rattle.fixed.proofs.dot.Goals.{After-scaled-2}

-- an entry of p ∘ one of e is within four
term : {x y r : ℤ} → Within x (2 * one) → Within y (2 * one) → r ≡ to_z w64 (of_z w64 x) ∘ to_z w64 (of_z w64 y) → Is (to_z w64 (of_z w64 r)) (x ∘ y) (4 * one)
term h k e = held (scaled-is (4 * one) e (operand h tt) (operand k tt) tt) tt

two : (c : After-scaled-2) → Is (to_z w64 (of_z w64 c.scaled.result) +ℤ to_z w64 (of_z w64 c.scaled-2.result))
    (at c.args.p 0 ∘ at c.args.e 0 +ℤ at c.args.p 1 ∘ at c.args.e 1) (8 * one)
two c =
    sum (term c.requires.0.e₀ c.requires.1.e₀ c.scaled.ensures) (term c.requires.0.e₁ c.requires.1.e₁ c.scaled-2.ensures)

pub scaled-requires : goal.scaled-requires
scaled-requires c = search (rules, bounded)

pub scaled-requires-2 : goal.scaled-requires-2
scaled-requires-2 c = search (rules, bounded)

pub overflow_add-result : goal.overflow_add-result
overflow_add-result c = fit (two (goal.at.overflow_add-result c).After-scaled-2) tt

pub scaled-requires-3 : goal.scaled-requires-3
scaled-requires-3 c = fit (product (operand c.requires.0.e₂ tt) (operand c.requires.1.e₂ tt)) tt

pub overflow_add-result-2 : goal.overflow_add-result-2
overflow_add-result-2 c = fit (sum (held (two (goal.at.overflow_add-result-2 c).After-scaled-2) tt) (term c.requires.0.e₂ c.requires.1.e₂ c.scaled-3.ensures)) tt

pub returns : goal.returns
unfolding dot_of
returns c = (held (sum (held (two (goal.at.returns c).After-scaled-2) tt) (term c.requires.0.e₂ c.requires.1.e₂ c.scaled-3.ensures)) tt).is
