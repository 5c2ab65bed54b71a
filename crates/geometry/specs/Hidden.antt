-- When the planet hides the far body (document 01, "Hidden and visible"; source 000, equation (8): on the edge E·r = −√(r² − rs²)).
use Rattle.std.specs.Prelude.{Bool, ◌&&◌, ℕ, ℤ, pos, ◌+ℤ◌, ◌-ℤ◌, ◌*ℤ◌}
use Rattle.std.specs.Int.Signed.{lt_z}
use Rattle.fixed.specs.Scaled.{◌∘◌}
use Rattle.geometry.specs.declared.Orbit.{Orbit}
use Rattle.geometry.specs.declared.Place.{Place}
use Rattle.geometry.specs.Placed.{place_of}

-- d = X∘Ep + Y∘Eq
unfoldable pub depth_of : Orbit → Place → ℤ
depth_of o a = a.x ∘ o.body.p +ℤ a.y ∘ o.body.q

-- d < 0 and X² + Y² − d² < R². Equality is not hidden
unfoldable pub behind_of : Orbit → Place → ℤ → Bool
behind_of o a d = lt_z d (pos 0) && lt_z (a.x *ℤ a.x +ℤ a.y *ℤ a.y -ℤ d *ℤ d) (pos o.ellipse.radius2)

-- hidden, at t
unfoldable pub hidden_at : Orbit → ℕ → Bool
hidden_at o t =
    let a = place_of o t in
    behind_of o a (depth_of o a)
