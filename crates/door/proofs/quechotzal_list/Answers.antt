-- `door::quechotzal_list` meets its contract: by whether an answer can be heard.
use mathlib.Core.Path.{sym, ap, ◌∙◌}
use Rattle.door.specs.Answer.{answer_of}
use Rattle.door.specs.Door.{list_told}
use Rattle.job.specs.Outcome.{list_after_of}
use Rattle.door.proofs.Heard.{heard_all, unheard_all}
use borrow.Author.Tests.{eqb-true}
use Rattle.door.proofs.quechotzal_list.Goals as goal

pub returns-then-not-is_heard : goal.returns-then-not-is_heard
returns-then-not-is_heard c =
    let m = unheard_all c.args.answer.now (list_told c.args.«record».now c.args.list.now) c.args.list.now (list_after_of c.args.«record».now c.args.list.now) (sym c.is_heard.ensures ∙ c.if-not-is_heard.true) in
    record { value = m.0; list_after = m.1.0; answer_after = m.1.1.0; reads_back = m.1.1.1 }

pub write-requires : goal.write-requires
write-requires c = eqb-true _ _ (sym c.is_heard.ensures ∙ c.if-not-is_heard.false)

pub returns : goal.returns
returns c =
    let m = heard_all c.args.answer.now (list_told c.args.«record».now c.args.list.now) c.args.list.now (list_after_of c.args.«record».now c.args.list.now) (sym c.is_heard.ensures ∙ c.if-not-is_heard.false) (c.from.ensures ∙ ap answer_of c.list.ensures.value) c.list.ensures.list_after c.write.ensures.answer_after c.write.ensures.reads_back in
    record { value = m.0; list_after = m.1.0; answer_after = m.1.1.0; reads_back = m.1.1.1 }
