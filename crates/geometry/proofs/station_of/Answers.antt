-- `geometry::station_of` meets its contract, field by field.
use mathlib.Core.Path.{◌≡◌, ap, ◌∙◌}
use Prim.Native.Nat.{ℕ}
use lib.IntN.{ℤ}
use Rattle.angle.specs.declared.Angle.{Angle}
use Rattle.fixed.proofs.Machine.{got}
use Rattle.rotation.specs.CosSin.{CosSin}
use Rattle.geometry.specs.declared.Station.{Station}
use Rattle.geometry.specs.Prepared.{station_of}
use Rattle.geometry.proofs.station_of.Goals as goal

fields : {l k : CosSin} {m n : Angle} {s r : ℤ} → l ≡ k → m ≡ n → s ≡ r
    → ◌≡◌ {A = Station} (record { latitude = l; meridian = m; least = s })
    (record { latitude = k; meridian = n; least = r })
fields e f g = cc

pub returns : goal.returns
unfolding station_of
returns c =
    fields c.turn_of.ensures (ap (λ (u : ℕ). record { units = u }) c.add.ensures)
    (got c.sine.result c.sine.type_inv ∙ c.sine.ensures)
