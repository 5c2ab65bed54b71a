use Prim.Native.Nat.{◌+◌, ◌*◌, ◌/◌, ◌<◌}
use mathlib.Core.Path.{◌≡◌, sym, ap, ◌∙◌}
use native.Mathlib.Omega.{arith}
use lib.ListN.{length, drop}
use Rattle.std.specs.Slice.Iter.{chunks_exact_rest, chunks_exact_size}
use Rattle.std.proofs.lemmas.List.{length_push}
use Rattle.finder.specs.Spans.{Span}
use Rattle.days.specs.Given.{span_at}
use Rattle.days.proofs.Orderly.{good-span}
use Rattle.days.proofs.Pieces.{next-piece, pieces-end}
use Rattle.days.proofs.Working.{blank-room, blank-behind, work_start, work_more, work_bad, work_halves, work_done, worked_bad}
use Rattle.days.proofs.work_out.Goals as goal
use Rattle.days.proofs.work_out.Goals.{In-Some}

-- the piece that came, with what is left behind it
came : (c : In-Some) → let k = length c.loop-piece.yielded in (span_at c.in-Some.piece.now 0 ≡ span_at c.args.list.now k) × (k < length c.args.list.now / 24) × (chunks_exact_rest c.next.new.self ≡ drop (24 * (k + 1)) c.args.list.now)
came c =
    let step = c.in-Some.ensures.steps in
    next-piece _ _ _ _ (sym c.loop-piece.invariant.2 ∙ step.1.0) (step.1.1 ∙ c.loop-piece.invariant.1)

pub returns-then-list-ne0 : goal.returns-then-list-ne0
returns-then-list-ne0 c =
    let bad = worked_bad c.args.w c.args.list.now c.args.own.now c.args.own.now (work_halves _ _ c.if-list-ne0.true) in
    record { value = bad.0; summed_up = bad.1 }

pub loop-piece-init : goal.loop-piece-init
loop-piece-init c =
    let same = c.into_iter-piece-iterator.ensures.into_iter_gives in
    (work_start c.requires c.blank.ensures _, ap chunks_exact_size same ∙ c.chunks_exact-piece-items.ensures.size, ap chunks_exact_rest same ∙ c.chunks_exact-piece-items.ensures.rest)

pub returns-then-is_bad : goal.returns-then-is_bad
returns-then-is_bad c =
    let piece = came (goal.at.returns-then-is_bad c).In-Some in
    let list = c.args.list.now in
    let bad = worked_bad c.args.w list c.args.own.now c.loop-piece.own (work_bad (blank-room c.requires c.blank.ensures) c.loop-piece.invariant.0 (c.read-s.ensures ∙ piece.0) piece.1 (sym c.is_bad.ensures ∙ c.if-is_bad.true)) in
    record { value = bad.0; summed_up = bad.1 }

pub overflow_add-next : goal.overflow_add-next
overflow_add-next c =
    let good = good-span _ _ _ (sym c.is_bad.ensures ∙ c.if-is_bad.false) in
    omega (arith, ap (λ (x : Span). x.last) c.s.view_is, good.2, c.requires.good.end)

pub loop-piece-preserved : goal.loop-piece-preserved
loop-piece-preserved c =
    let piece = came (goal.at.loop-piece-preserved c).In-Some in
    let more = length_push c.loop-piece.yielded c.in-Some.piece in
    rw (more, ap (λ (x : Span). x.last) c.s.view_is) (
      work_more (blank-room c.requires c.blank.ensures) c.loop-piece.invariant.0 (c.read-s.ensures ∙ piece.0) piece.1 (sym c.is_bad.ensures ∙ c.if-is_bad.false) c.add.ensures,
      c.in-Some.ensures.steps.0 ∙ c.loop-piece.invariant.1,
      piece.2,
    )

pub returns : goal.returns
returns c =
    let short = c.in-None.ensures.steps.1.0 in
    let all = pieces-end c.args.list.now (length c.loop-piece.yielded) c.loop-piece.invariant.0.most (omega (arith, ap length c.loop-piece.invariant.2, short, c.loop-piece.invariant.1)) in
    let done = work_done c.loop-piece.invariant.0 c.if-list-ne0.false all c.args.own.now c.requires (blank-behind c.requires c.blank.ensures) in
    record { value = done.0; summed_up = done.1 }
