-- `Sky::place` meets its contract: cos E − e is at most two, and each product fits.
use mathlib.Core.Path.{◌≡◌, ap, ◌∙◌}
use Prim.Native.Nat.{◌+◌, ◌*◌}
use lib.IntN.{ℤ, pos, ◌-ℤ◌}
use Rattle.fixed.specs.Scaled.{one}
use Rattle.fixed.specs.Within.{Is}
use Rattle.fixed.proofs.Machine.{bounded, loc, fit, held, called, operand, product, difference, scaled-is}
use Rattle.nearest.specs.Nearest.{most_eccentric}
use Rattle.sine.specs.Sine.{sine_of, cosine_of}
use Rattle.sine.proofs.Laws.{sine-small, cosine-small}
use Rattle.elements.specs.Rounding.{most_axis}
use Rattle.kepler.proofs.Stored.{natural}
use Rattle.geometry.specs.declared.Place.{Place}
use Rattle.geometry.specs.Placed.{anomaly_of, place_of}
use Rattle.geometry.proofs.Bounds.{placed}
use Rattle.geometry.proofs.Sky.place.Goals as goal
use Rattle.geometry.proofs.Sky.place.Goals.{After-from, After-sine-sin}

both : {x y v w : ℤ} → x ≡ v → y ≡ w → ◌≡◌ {A = Place} (record { x = x; y = y }) (record { x = v; y = w })
both e f = cc

-- cos E − e, and sin E, as the machine holds them
reach-is : (c : After-from) → let o = c.self.inside.orbit in
    Is (loc c.cosine-cos.result -ℤ loc c.from.result) (cosine_of (anomaly_of o c.args.at) -ℤ pos o.ellipse.eccentricity) (one + most_eccentric)
reach-is c =
    let o = c.self.inside.orbit in
    let E = anomaly_of o c.args.at in
    difference
    (held (called (c.cosine-cos.ensures ∙ ap cosine_of (rw c.self.view_is c.anomaly-e.ensures)) (cosine-small E)) tt)
    (natural c.from.ensures c.self.invariant.ellipse.eccentricity tt)

sine-is : (c : After-sine-sin) → let o = c.self.inside.orbit in Is (loc c.sine-sin.result) (sine_of (anomaly_of o c.args.at)) one
sine-is c =
    let E = anomaly_of c.self.inside.orbit c.args.at in
    held (called (c.sine-sin.ensures ∙ ap sine_of (rw c.self.view_is c.anomaly-e.ensures)) (sine-small E)) tt

pub overflow_sub-cos : goal.overflow_sub-cos
overflow_sub-cos c = fit (reach-is (goal.at.overflow_sub-cos c).After-from) tt

pub scaled-x-requires : goal.scaled-x-requires
scaled-x-requires c = fit (product (operand c.self.invariant.ellipse.axis tt) (held (reach-is (goal.at.scaled-x-requires c).After-from) tt)) tt

-- half of either axis times sin E fits
pub scaled-y-requires : goal.scaled-y-requires
scaled-y-requires c =
    let axis = (operand c.self.invariant.ellipse.axis tt).bound in
    let minor = (operand c.self.invariant.ellipse.minor tt).bound in
    let sin = (sine-is (goal.at.scaled-y-requires c).After-sine-sin).bound in
    search bounded

pub returns : goal.returns
unfolding place_of
returns c =
    let a = goal.at.returns c in
    let l = c.self.invariant.ellipse in
    let is : record { x = loc c.scaled-x.result; y = loc c.scaled-y.result } ≡ place_of c.self.inside.orbit c.args.at =
    both
    (held (scaled-is (2 * most_axis) c.scaled-x.ensures (operand l.axis tt) (held (reach-is a.After-from) tt) tt) tt).is
    (held (scaled-is most_axis c.scaled-y.ensures (operand l.minor tt) (sine-is a.After-sine-sin) tt) tt).is in
    rw (← c.self.view_is) (record { place = is; in_orbit = placed c.args.at c.self.invariant is })
