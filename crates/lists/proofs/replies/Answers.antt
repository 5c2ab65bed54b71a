-- `lists::replies` meets its contract: each reply stands behind those before it, and where there is no room for one more there is one.
use Rattle.std.proofs.Common.{arith, rules, ap, sym, ◌∙◌, ◌≡◌, ◌<◌, ◌*◌, ◌-◌, length, length-drop}
use Rattle.io.proofs.Counting.{prefix_len_of_le}
use Rattle.lists.specs.Replies.{RoomBehind}
use Rattle.lists.proofs.Laws.{piece_next, reply-ends, reply-stands, stand_none, stand_long, stand_fit, stand_some, stand_more}
use Rattle.lists.proofs.replies.Goals as goal

pub loop-piece-init : goal.loop-piece-init
loop-piece-init c = (search rules, tt, search rules, search rules, stand_none _ _, omega arith)

pub overflow_add-used : goal.overflow_add-used
overflow_add-used c =
    let stand = c.loop-piece.invariant.4 in
    let long : length c.loop-piece.out ≡ 65536 = omega (arith, stand_long stand) in
    let room : RoomBehind c.loop-piece.used c.loop-piece.out = omega (arith, long, stand_fit stand) in
    let ends = reply-ends _ c.loop-piece.out 65536 c.loop-piece.used _ _ long room c.reply-used.ensures.value c.reply-used.ensures.out_after in
    omega (arith, ends, long)

pub loop-piece-preserved : goal.loop-piece-preserved
loop-piece-preserved c =
    let i = c.loop-piece.invariant in
    let stand = i.4 in
    let steps = c.in-Some.ensures.steps in
    let long : length c.loop-piece.out ≡ 65536 = omega (arith, stand_long stand) in
    let room : RoomBehind c.loop-piece.used c.loop-piece.out = omega (arith, long, stand_fit stand) in
    let next = piece_next c.loop-piece.pieces c.args.src.now i.3 steps.1.0 (rw i.2 at steps.1.1) in
    let s = reply-stands _ c.loop-piece.out 65536 c.loop-piece.used _ _ long room c.reply-used.ensures.value c.reply-used.ensures.out_after in
    let left : 0 < length c.args.src.now - 136 * c.loop-piece.pieces = simp length-drop at (rw i.3 at steps.1.2) in
    (search rules, tt, steps.0 ∙ i.2, next.1, stand_more stand next.0 room s.0 s.1, omega (arith, left))

pub returns-in-None-clause-pieces : goal.returns-in-None-clause-pieces
returns-in-None-clause-pieces c =
    let i = c.loop-piece.invariant in
    let none : length c.args.src.now - 136 * c.loop-piece.pieces ≡ 0 = sym (length-drop (136 * c.loop-piece.pieces) c.args.src.now) ∙ ap length (sym i.3) ∙ c.in-None.ensures.steps.1.0 in
    ((omega (arith, none), i.5), prefix_len_of_le _ _ (stand_fit i.4))

pub returns-then-used-lt-ROOM-clause-pieces : goal.returns-then-used-lt-ROOM-clause-pieces
returns-then-used-lt-ROOM-clause-pieces c =
    let i = c.loop-piece.invariant in
    let long : length c.loop-piece.out ≡ 65536 = omega (arith, stand_long i.4) in
    ((stand_some i.4 (omega arith) (omega (arith, long)), i.5), prefix_len_of_le _ _ (stand_fit i.4))
