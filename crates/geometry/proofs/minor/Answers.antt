-- `geometry::minor` meets its contract: q is at most one.
use mathlib.Core.Path.{ap, ◌∙◌}
use Prim.Native.Nat.{ℕ}
use native.Mathlib.Omega.{arith}
use lib.IntN.{pos}
use Rattle.fixed.specs.Scaled.{◌∘◌}
use Rattle.fixed.specs.Within.{Small}
use Rattle.fixed.proofs.Machine.{fit, held, plain, cast, product, scaled-is}
use Rattle.elements.specs.Rounding.{most_axis}
use Rattle.kepler.proofs.Stored.{natural}
use Rattle.geometry.specs.Prepared.{minor_of}
use Rattle.geometry.proofs.Bounds.{root-small}
use Rattle.geometry.proofs.minor.Goals as goal
use Rattle.geometry.proofs.minor.Goals.{After-whole_root-q}

q-small : (c : After-whole_root-q) → Small (pos c.whole_root-q.result)
q-small c = rw c.whole_root-q.ensures (root-small _ (omega arith))

pub overflow_cast-q : goal.overflow_cast-q
overflow_cast-q c = fit (plain (q-small (goal.at.overflow_cast-q c).After-whole_root-q)) tt

pub scaled-requires : goal.scaled-requires
scaled-requires c = fit (product (natural c.from.ensures c.requires.axis tt) (cast (q-small (goal.at.scaled-requires c).After-whole_root-q).within tt)) tt

pub returns : goal.returns
unfolding minor_of
returns c =
    (held (scaled-is most_axis c.scaled.ensures (natural c.from.ensures c.requires.axis tt) (cast (q-small (goal.at.returns c).After-whole_root-q).within tt) tt) tt).is
    ∙ ap (λ (q : ℕ). pos c.args.w.axis ∘ pos q) (rw c.from-e.ensures at c.whole_root-q.ensures)
