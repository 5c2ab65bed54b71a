-- `days::work_out` meets its contract. Whenever the loop's test is reached, the intervals so far are good and their summary stands in `own`.
use Prim.Native.Nat.{◌*◌}
use mathlib.Core.Path.{◌≡◌}
use lib.ListN.{length, drop}
use Rattle.std.specs.Slice.Iter.{chunks_exact_rest, chunks_exact_size}
use Rattle.days.proofs.Working.{Working}
use Rattle.days.proofs.work_out.Given as goal

abbrev pub invariant-loop-piece : goal.invariant-loop-piece
invariant-loop-piece l =
    Working l.w l.list l.initial.own l.own l.next (length l.yielded)
    × (chunks_exact_size l.piece-iterator ≡ 24)
    × (chunks_exact_rest l.piece-iterator ≡ drop (24 * length l.yielded) l.list)
