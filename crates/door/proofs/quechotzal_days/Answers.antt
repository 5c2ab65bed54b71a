-- `door::quechotzal_days` meets its contract: by whether an answer can be heard.
use mathlib.Core.Path.{sym, ap, ◌∙◌}
use Rattle.door.specs.Answer.{totals_answer}
use Rattle.door.specs.Door.{days_told}
use Rattle.days.specs.Totals.{summary_after_of}
use Rattle.door.proofs.Heard.{heard_all, unheard_all}
use borrow.Author.Tests.{eqb-true}
use Rattle.door.proofs.quechotzal_days.Goals as goal

pub returns-then-not-is_heard : goal.returns-then-not-is_heard
returns-then-not-is_heard c =
    let m = unheard_all c.args.answer.now (days_told c.args.«record».now c.args.list.now c.args.out.now) c.args.out.now (summary_after_of c.args.«record».now c.args.list.now c.args.out.now) (sym c.is_heard.ensures ∙ c.if-not-is_heard.true) in
    record { value = m.0; out_after = m.1.0; answer_after = m.1.1.0; reads_back = m.1.1.1 }

pub write-requires : goal.write-requires
write-requires c = eqb-true _ _ (sym c.is_heard.ensures ∙ c.if-not-is_heard.false)

pub returns : goal.returns
returns c =
    let m = heard_all c.args.answer.now (days_told c.args.«record».now c.args.list.now c.args.out.now) c.args.out.now (summary_after_of c.args.«record».now c.args.list.now c.args.out.now) (sym c.is_heard.ensures ∙ c.if-not-is_heard.false) (c.from.ensures ∙ ap totals_answer c.summary.ensures.value) c.summary.ensures.out_after c.write.ensures.answer_after c.write.ensures.reads_back in
    record { value = m.0; out_after = m.1.0; answer_after = m.1.1.0; reads_back = m.1.1.1 }
