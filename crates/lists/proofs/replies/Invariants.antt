-- Whenever the loop goes on, the replies to the pieces so far stand in `out`, and the pieces behind them are left.
use Rattle.std.proofs.Common.{◌≡◌, ◌<◌, ◌+◌, ◌*◌, length, drop}
use Rattle.std.specs.Slice.Iter.{chunks_rest, chunks_size}
use Rattle.lists.proofs.Laws.{Stand}
use Rattle.lists.proofs.replies.Given as goal

abbrev pub invariant-loop-piece : goal.invariant-loop-piece
invariant-loop-piece l =
    (goal.iterator-loop-piece).can_next l.piece-iterator
    × (goal.iterator-loop-piece).is_finite l.piece-iterator
    × (chunks_size l.piece-iterator ≡ 136)
    × (chunks_rest l.piece-iterator ≡ drop (136 * l.pieces) l.src)
    × Stand l.pieces l.src l.fn.out l.out l.used
    × (136 * l.pieces < length l.src + 136)
