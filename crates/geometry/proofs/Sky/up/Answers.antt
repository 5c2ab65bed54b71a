-- `Sky::up` meets its contract: the sum of three products of at most one fits.
use mathlib.Core.Path.{◌≡◌, ap, ◌∙◌}
use mathlib.Core.List.{List}
use Prim.Native.Nat.{◌+◌}
use lib.Dec.{lit≤}
use lib.IntN.{ℤ, pos, neg_ℤ, ◌-ℤ◌}
use Rattle.fixed.specs.Scaled.{one, dot_of}
use Rattle.fixed.specs.Within.{Is}
use Rattle.fixed.proofs.Within.{wider-entries}
use Rattle.fixed.proofs.Machine.{loc, fit, held, called, negation, back, compared}
use Rattle.geometry.specs.Visible.{zenith_of, up_at}
use Rattle.geometry.proofs.Bounds.{zenith-entries, rise_within}
use Rattle.geometry.proofs.Sky.up.Goals as goal
use Rattle.geometry.proofs.Sky.up.Goals.{After-dot-rise}

-- −(ux∘Ex + uy∘Ey + uz∘Ez), as the machine holds it
rise-is : (c : After-dot-rise) → let o = c.self.inside.orbit in
    Is (pos 0 -ℤ loc c.dot-rise.result) (neg_ℤ (dot_of (zenith_of o c.args.at) o.body.toward)) (one + one + one)
rise-is c =
    let o = c.self.inside.orbit in
    let zenith : c.zenith.result ≡ zenith_of o c.args.at = rw c.self.view_is c.zenith.ensures in
    negation (held (called (c.dot-rise.ensures ∙ ap (λ (u : List ℤ). dot_of u o.body.toward) zenith) (rise_within c.self.invariant c.args.at)) tt)

pub dot-rise-requires : goal.dot-rise-requires
dot-rise-requires c =
    (rw (c.zenith.ensures, ← c.self.view_is) (wider-entries (zenith-entries c.self.invariant c.args.at) (lit≤ tt)), wider-entries c.self.invariant.body.toward (lit≤ tt))

pub overflow_sub-rise : goal.overflow_sub-rise
overflow_sub-rise c = fit (rise-is (goal.at.overflow_sub-rise c).After-dot-rise) tt

pub returns : goal.returns
unfolding up_at
returns c = rw (← c.self.view_is) (compared (back c.self.invariant.station.least tt) (held (rise-is (goal.at.returns c).After-dot-rise) tt).is)
