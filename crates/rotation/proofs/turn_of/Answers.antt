-- `rotation::turn_of` meets its contract: each of the two is what its own call gave.
use mathlib.Core.Path.{◌≡◌}
use Prim.Native.Nat.{ℕ}
use lib.IntN.{ℤ}
use Rattle.fixed.proofs.Machine.{loc, called, held}
use Rattle.sine.specs.Sine.{sine_of, cosine_of}
use Rattle.sine.proofs.Laws.{sine-small, cosine-small}
use Rattle.rotation.specs.CosSin.{CosSin}
use Rattle.rotation.specs.Rotation.{turn_of}
use Rattle.rotation.proofs.Rows.{made-unit}
use Rattle.rotation.proofs.turn_of.Goals as goal

both : {c s v w : ℤ} → c ≡ v → s ≡ w → ◌≡◌ {A = CosSin} (record { cos = c; sin = s }) (record { cos = v; sin = w })
both e f = cc

made : (θ : ℕ) {c s : ℤ} → c ≡ cosine_of θ → s ≡ sine_of θ → record { cos = loc c; sin = loc s } ≡ turn_of θ
unfolding turn_of
made θ e f = both (held (called e (cosine-small θ)) tt).is (held (called f (sine-small θ)) tt).is

pub invariant_of-result : goal.invariant_of-result
invariant_of-result c = made-unit c.args.theta.units (made _ c.cosine-cos.ensures c.sine-sin.ensures)

pub returns : goal.returns
returns c = made _ c.cosine-cos.ensures c.sine-sin.ensures
