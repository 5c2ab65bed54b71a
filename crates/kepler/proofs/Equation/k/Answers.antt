-- `Equation::k` meets its contract: each signed number on the way is the definition's.
use mathlib.Core.Path.{◌≡◌, refl}
use Prim.Native.Nat.{ℕ, ◌%◌}
use native.Mathlib.Nat.{le_trans}
use lib.Dec.{lit≤}
use lib.IntN.{ℤ, pos}
use Rattle.fixed.specs.Scaled.{one}
use Rattle.fixed.specs.Within.{Is}
use Rattle.fixed.proofs.Machine.{loc, held, called, cast, difference, unit-is}
use Rattle.angle.specs.Turn.{turn}
use Rattle.sine.specs.Sine.{sine_of}
use Rattle.sine.proofs.Laws.{sine-small}
use Rattle.kepler.specs.Kepler.{Eccentricity, K}
use Rattle.kepler.proofs.Stored.{natural}
use Rattle.kepler.proofs.Equation.k.Goals as goal

-- e and sin E, as the machine holds them
e-is : {r : ℤ} {e : ℕ} → r ≡ pos e → Eccentricity e → Is (loc r) (pos e) one
e-is k h = natural k (le_trans h (lit≤ tt)) tt

sine-is : {r : ℤ} (E : ℕ) → r ≡ sine_of (E % turn) → Is (loc r) (sine_of (E % turn)) one
sine-is E h = held (called h (sine-small (E % turn))) tt

pub unit-es-requires : goal.unit-es-requires
unit-es-requires c = ((e-is c.from.ensures c.args.self.now.bounded).bound, (sine-is c.args.anomaly c.sine.ensures).bound)

pub returns : goal.returns
unfolding K
returns c =
    let e = e-is c.from.ensures c.args.self.now.bounded in
    let shift = held (unit-is c.unit-es.ensures e.is (sine-is c.args.anomaly c.sine.ensures).is) tt in
    held (difference (cast c.requires tt) (held (unit-is c.unit.ensures shift.is refl) tt)) tt
