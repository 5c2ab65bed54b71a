-- `elements::checked` meets its contract: row 2, the rows of fields 1 to 7, those of 8 to 13, and row 5.
use mathlib.Core.Path.{sym, ◌∙◌}
use Rattle.std.proofs.Common.{rules}
use Rattle.elements.proofs.Exactly.{in_parts}
use Rattle.refusal.proofs.Order.{goes_on, ends_at}
use Rattle.elements.proofs.reading.checked.Goals as goal

pub returns-in_err-word_row : goal.returns-in_err-word_row
returns-in_err-word_row c = ends_at _ _ (search rules) c.in_err-word_row.ensures ∙ sym (in_parts c.args.s.now c.args.e)

pub returns-in_err-orbit : goal.returns-in_err-orbit
returns-in_err-orbit c = goes_on _ _ c.in_ok-word_row.ensures (ends_at _ _ (search rules) c.in_err-orbit.ensures) ∙ sym (in_parts c.args.s.now c.args.e)

pub returns-in_err-sky : goal.returns-in_err-sky
returns-in_err-sky c =
    goes_on _ _ c.in_ok-word_row.ensures (goes_on _ _ c.in_ok-orbit.ensures (ends_at _ _ (search rules) c.in_err-sky.ensures)) ∙ sym (in_parts c.args.s.now c.args.e)

pub returns : goal.returns
returns c =
    goes_on _ _ c.in_ok-word_row.ensures (goes_on _ _ c.in_ok-orbit.ensures (goes_on _ _ c.in_ok-sky.ensures c.close_row.ensures)) ∙ sym (in_parts c.args.s.now c.args.e)
