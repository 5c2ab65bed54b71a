use Prim.Native.Nat.{◌+◌, ◌^◌, ◌≤◌, ◌<◌}
use mathlib.Core.Path.{sym, ◌∙◌}
use native.Mathlib.Omega.{arith}
use Rattle.halving.proofs.Loop.{look_done, look_more, look_up, look_down}
use Rattle.halving.proofs.halve.Goals as goal

pub overflow_add-edge : goal.overflow_add-edge
overflow_add-edge g c =
    let enough : c.args.high ≤ c.args.low + 2 ^ 64 = omega arith in
    omega (arith, look_more _ (c.loop-edge.invariant.looking 64 enough) (omega arith))

pub loop-edge-preserved-then-moves : goal.loop-edge-preserved-then-moves
loop-edge-preserved-then-moves g c =
    let before = c.loop-edge.invariant in
    let far : c.loop-edge.edge.low + 1 < c.loop-edge.edge.high = omega arith in
    record {
      from = omega arith;
      ordered = omega arith;
      to = omega arith;
      looking = λ n wide. look_up _ (before.looking n wide) far (sym c.moves.ensures ∙ c.if-moves.true);
    }

pub loop-edge-preserved : goal.loop-edge-preserved
loop-edge-preserved g c =
    let before = c.loop-edge.invariant in
    let far : c.loop-edge.edge.low + 1 < c.loop-edge.edge.high = omega arith in
    record {
      from = omega arith;
      ordered = omega arith;
      to = omega arith;
      looking = λ n wide. look_down _ (before.looking n wide) far (sym c.moves.ensures ∙ c.if-moves.false);
    }

pub returns : goal.returns
returns g c = λ n wide. look_done _ (c.loop-edge.invariant.looking n wide) (omega arith)
