-- `geometry::ellipse_of` meets its contract, field by field.
use mathlib.Core.Path.{◌≡◌, ◌∙◌}
use Prim.Native.Nat.{ℕ, ◌*◌}
use lib.IntN.{ℤ}
use Rattle.fixed.proofs.Machine.{got}
use Rattle.kepler.proofs.Stored.{natural}
use Rattle.geometry.specs.declared.Ellipse.{Ellipse}
use Rattle.geometry.specs.Prepared.{ellipse_of}
use Rattle.geometry.proofs.ellipse_of.Goals as goal

fields : {a b v w : ℤ} {e p r s : ℕ} → a ≡ v → b ≡ w → r ≡ s
    → ◌≡◌ {A = Ellipse} (record { axis = a; eccentricity = e; minor = b; period = p; radius2 = r * r })
    (record { axis = v; eccentricity = e; minor = w; period = p; radius2 = s * s })
fields e f g = cc

pub returns : goal.returns
unfolding ellipse_of
returns c =
    let part = c.minor in
    fields (natural c.from.ensures c.requires.axis tt).is (got part.result part.type_inv ∙ part.ensures) c.from-radius.ensures
