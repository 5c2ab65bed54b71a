-- `job::reply` meets its contract: the records in all of the buffer but 24 bytes, then the closing record.
use Prim.Native.Nat.{◌+◌, ◌*◌, ◌≤◌}
use mathlib.Core.Path.{◌≡◌, ap, ◌∙◌}
use native.Mathlib.Omega.{arith}
use Rattle.std.proofs.Common.{rules}
use lib.ListN.{length}
use Rattle.job.specs.Outcome.{intervals_of}
use Rattle.job.specs.Reply.{closing_of}
use Rattle.job.proofs.Parts.{too_short, room-left, room_for, replied}
use Rattle.job.proofs.reply.Goals as goal
use Rattle.job.proofs.reply.Goals.{After-map_or-at}

counted : (c : After-map_or-at) → c.map_or-at.result ≡ intervals_of c.list-o.result
counted c = search rules

-- the records and the closing record fit
fits : (c : After-map_or-at) → 24 * c.map_or-at.result + 24 ≤ length c.args.out.now
fits c =
    let a = c.args in
    room-left a.s.now a.out.now c.if-room-lt24.false _ _ _ c.list-o.ensures.value c.list-o.ensures.list_after (counted c)

pub returns-then-room-lt24 : goal.returns-then-room-lt24
returns-then-room-lt24 c =
    let a = c.args in
    let p = too_short a.s.now a.out.now c.if-room-lt24.true in
    record { value = p.0; out_after = p.1 }

pub overflow_mul-at : goal.overflow_mul-at
overflow_mul-at c = omega (arith, fits c)

pub write-requires : goal.write-requires
write-requires c =
    let a = c.args in
    room_for a.s.now a.out.now c.if-room-lt24.false _ _ _ c.list-o.ensures.value c.list-o.ensures.list_after (counted (goal.at.write-requires c).After-map_or-at)

pub overflow_add-result : goal.overflow_add-result
overflow_add-result c = omega (arith, fits (goal.at.overflow_add-result c).After-map_or-at)

pub returns : goal.returns
returns c =
    let a = c.args in
    let closes = c.closing.ensures ∙ ap (λ j. closing_of j c.list-o.result) c.job_number.ensures in
    let n = counted (goal.at.returns c).After-map_or-at in
    let p = replied a.s.now a.out.now c.if-room-lt24.false _ _ _ c.list-o.ensures.value c.list-o.ensures.list_after n _ _ closes c.write.ensures in
    record { value = p.0; out_after = p.1 }
