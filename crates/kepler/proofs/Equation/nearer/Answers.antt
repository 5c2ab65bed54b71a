-- `Equation::nearer` meets its contract: the last sum fits, since no quotient is further from 0 than what is divided.
use Prim.Native.Nat.{◌≤◌}
use native.Mathlib.Nat.{le_refl}
use native.Mathlib.Omega.{arith}
use lib.IntN.{◌-ℤ◌}
use Rattle.fixed.proofs.Machine.{loc, fit, held, called, cast, sum, difference, product}
use Rattle.fixed.proofs.Within.{quotient-within}
use Rattle.fixed.proofs.Mirrored.{test_above}
use Rattle.angle.specs.Turn.{turn}
use Rattle.sine.specs.Sine.{segment}
use Rattle.kepler.proofs.Stored.{natural}
use Rattle.kepler.proofs.Equation.nearer.Goals as goal

pub overflow_add-low-2 : goal.overflow_add-low-2
overflow_add-low-2 c =
    let at_low : c.from-low.result ≤ turn = omega arith in
    let small : c.args.self.now.mean.units ≤ turn = omega arith in
    let width = natural c.from-3.ensures (le_refl segment) tt in
    let missing = held (difference (natural c.from-2.ensures small tt) (held c.k-here.ensures tt)) tt in
    let divided = held (product missing width) tt in
    let rises = (test_above (loc (loc c.k.result -ℤ loc c.k-here.result)) c.if-rise-le0.false).1 in
    fit (sum (cast at_low tt) (held (called c.floor_div.ensures (quotient-within _ divided.bound rises)) tt)) tt
