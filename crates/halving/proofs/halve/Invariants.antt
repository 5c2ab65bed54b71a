-- `halving::halve` meets its contract. The loop's invariant: what is left of the halvings, of however many are enough, finds the edge.
use Prim.Native.Nat.{ℕ, ◌+◌, ◌-◌, ◌^◌, ◌≤◌}
use Rattle.halving.specs.Halving.{halve}
use Rattle.halving.proofs.Loop.{Looking}
use Rattle.halving.proofs.halve.Given as goal

abbrev pub invariant-loop-edge : goal.invariant-loop-edge
invariant-loop-edge g l =
    let moves = g.S.Search.moves l.search in
    record {
      from : l.low ≤ l.edge.low;
      ordered : l.edge.low ≤ l.edge.high;
      to : l.edge.high ≤ l.high;
      looking : (n : ℕ) → l.high ≤ l.low + 2 ^ n → Looking moves n (halve moves n l.low l.high 0) l.edge.low l.edge.high l.edge.asked;
    }

abbrev pub decreases-loop-edge : goal.decreases-loop-edge
decreases-loop-edge g l = l.edge.high - l.edge.low
