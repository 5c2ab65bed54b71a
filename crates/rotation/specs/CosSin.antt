-- A turn as contracts see it.
use Rattle.std.specs.Prelude.{ℤ}
use Rattle.fixed.specs.Within.{Small}

-- the cosine and the sine of one angle
pub record CosSin : Type 0 where
  pub cos : ℤ
  pub sin : ℤ

-- both at most one away from 0
pub record UnitTurn (θ : CosSin) : Type 0 where
  pub cos : Small θ.cos
  pub sin : Small θ.sin
