-- `totals::reply` meets its contract: by the job's outcome; the summary of the list that the job made is worked out behind the head.
use Rattle.std.proofs.Common.{sym, refl, ap, ◌∙◌, arith}
use Rattle.std.specs.Prelude.{Ok, Err}
use Rattle.job.specs.Reply.{closing_of}
use Rattle.totals.proofs.Laws.{refused, summed-up, days-fit, listed}
use Rattle.totals.proofs.reply.Goals as goal

pub unwrap-days-requires : goal.unwrap-days-requires
unwrap-days-requires c =
    let is = summed-up c.args.s.now c.args.list.now (sym c.in-Ok.ensures.value) _ c.args.out.now 536 (omega arith) (omega arith) _ _ c.list.ensures.list_after c.summary.ensures.value c.summary.ensures.out_after in
    rw is refl

-- and the head and the days in the lent bytes
pub overflow_mul-result : goal.overflow_mul-result
overflow_mul-result c =
    let list = sym c.in-Ok.ensures.value in
    let fit = days-fit c.args.s.now c.args.list.now list _ c.args.out.now 536 (omega arith) (omega arith) _ _ c.list.ensures.list_after c.summary.ensures.value c.summary.ensures.out_after _ c.unwrap-days.ensures in
    omega (arith, fit)

pub overflow_add-result : goal.overflow_add-result
overflow_add-result c =
    let list = sym c.in-Ok.ensures.value in
    let fit = days-fit c.args.s.now c.args.list.now list _ c.args.out.now 536 (omega arith) (omega arith) _ _ c.list.ensures.list_after c.summary.ensures.value c.summary.ensures.out_after _ c.unwrap-days.ensures in
    omega (arith, fit)

pub returns-in-Err : goal.returns-in-Err
returns-in-Err c =
    let closes = c.closing.ensures ∙ ap (λ j. closing_of j (Err c.in-Err.r)) c.job_number-job.ensures in
    let r = refused c.args.s.now c.args.list.now c.args.out.now _ _ _ (omega arith) (omega arith) (sym c.in-Err.ensures.value) closes c.write.ensures in
    record { prefix_len = r.0; out_after = r.1 }

pub returns-in-Ok : goal.returns-in-Ok
returns-in-Ok c =
    let list = sym c.in-Ok.ensures.value in
    let closes = c.closing-in-Ok.ensures ∙ ap (λ j. closing_of j (Ok (record { intervals = c.unwrap-days.result; asked = c.in-Ok.found.asked }))) c.job_number-job.ensures in
    let r = listed c.args.s.now c.args.list.now list _ c.args.out.now 536 (omega arith) (omega arith) _ _ c.list.ensures.list_after c.summary.ensures.value c.summary.ensures.out_after _ c.unwrap-days.ensures _ _ (omega arith) closes c.write-in-Ok.ensures in
    record { prefix_len = r.0; out_after = r.1 }
