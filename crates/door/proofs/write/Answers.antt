-- `door::write` meets its contract: the five numbers, put one behind the other, are the answer, which fills the 32 bytes and is read back.
use mathlib.Core.Path.{sym, ap, ◌∙◌}
use native.Mathlib.Omega.{arith}
use Rattle.words.proofs.Stores.{sets-all}
use Rattle.door.specs.Answer.{answer_bytes, answer_in, Sized}
use Rattle.door.proofs.Laws.{length-answer, answer_puts, answer_back}
use Rattle.door.proofs.write.Goals as goal

pub returns : goal.returns
returns c =
    let wrote =
    answer_puts c.args.answer.now c.args.a c.put.ensures c.put-2.ensures c.put-3.ensures c.put-4.ensures c.put-5.ensures
    ∙ sets-all (answer_bytes c.args.a) c.args.answer.now (c.requires ∙ sym (length-answer c.args.a)) in
    -- each of the five numbers is one of its type
    let sized : Sized c.args.a =
    record { refusal_fits = omega arith; field_fits = omega arith; number_fits = omega arith; intervals-fits = omega arith; asked-fits = omega arith } in
    record { answer_after = wrote; reads_back = ap answer_in wrote ∙ answer_back c.args.a sized }
