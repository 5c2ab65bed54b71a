use native.Mathlib.Omega.{arith}
use Rattle.fixed.proofs.Digits.{takes, passes, ends}
use Rattle.fixed.proofs.Roots.{root_unique, root_is}
use Rattle.fixed.proofs.whole_root.Goals as goal
use Rattle.fixed.proofs.whole_root.Goals.{then-growth-rest, else-growth-rest}

pub loop-bit-init : goal.loop-bit-init
loop-bit-init c = (32, 0, record { left = omega arith; high = omega arith; product = omega arith; square = omega arith; room = omega arith })

pub loop-bit-preserved : goal.loop-bit-preserved
loop-bit-preserved c =
    let found = c.loop-bit.invariant in
    elim c.if-growth-rest.branch [
      | then-growth-rest w ↦ rw (w.rest-is, w.root-is) (takes found (omega arith) (omega arith))
      | else-growth-rest w ↦ rw (w.rest-is, w.root-is) (passes found (omega arith) (omega arith))
    ]

pub returns : goal.returns
returns c = root_unique (ends c.loop-bit.invariant (omega arith)) (root_is c.args.n)
