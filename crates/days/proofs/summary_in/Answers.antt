-- `days::summary_in` meets its contract: 11, 12, or the summary, copied from where it was worked out.
use Prim.Native.Nat.{◌*◌}
use mathlib.Core.Path.{◌≡◌, refl, sym, ◌∙◌}
use native.Mathlib.Omega.{arith}
use lib.ListN.{length, take}
use lib.Seq.{length-take-le, take-length}
use Rattle.std.proofs.lemmas.Result.{err_from_is_err_and}
use Rattle.days.proofs.Cases.{days-most, has_room, worked-summary, copied, told_bad, told-good, or_bad, or-good, answer-short, answer_bad, answer-written}
use Rattle.days.proofs.summary_in.Goals as goal

pub returns-then-out-used : goal.returns-then-out-used
returns-then-out-used c = record { value = answer-short _ _ _ (omega (arith, c.days-n.ensures.value)); out_after = refl }

pub work_out-requires : goal.work_out-requires
work_out-requires c = has_room _ _ c.requires refl

pub returns-in_err-ok_or : goal.returns-in_err-ok_or
returns-in_err-ok_or c =
    let p = err_from_is_err_and c.from_residual.result c.from_residual.ensures.1 in
    let told = or_bad c.work_out.result (sym c.ok_or.ensures.value ∙ c.in_err-ok_or.was) in
    rw (p.1, p.2, told.1) (record { value = answer_bad _ _ _ (omega (arith, c.days-n.ensures.value)) (told_bad _ _ (sym c.work_out.ensures.value ∙ told.0)); out_after = refl })

pub returns : goal.returns
returns c =
    let good = told-good _ _ _ (sym c.work_out.ensures.value ∙ or-good _ c.work_out.result (sym c.ok_or.ensures.value ∙ c.in_ok-ok_or.was)) in
    let own = worked-summary _ _ _ _ c.work_out.ensures.summed_up good.0 c.requires refl c.days-n.ensures.value in
    let part = take (16 * c.days-n.result) c.work_out.new.own in
    let long : length part ≡ 16 * c.days-n.result = length-take-le _ _ (omega (arith, c.days-n.ensures.value, days-most _ c.requires)) in
    record {
      value = answer-written _ _ _ c.days-n.ensures.value (omega (arith, c.days-n.ensures.value)) good.0;
      out_after = copied _ _ part _ own (omega (arith, c.days-n.ensures.value)) (rw (take-length part, long, c.copy_from_slice.ensures.after) refl);
    }
