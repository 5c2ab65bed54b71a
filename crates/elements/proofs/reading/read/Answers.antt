-- `elements::read` meets its contract: by the length, and then by the rows behind the first.
use mathlib.Core.Path.{sym, ◌∙◌}
use Rattle.std.proofs.Common.{rules}
use Rattle.elements.proofs.Exactly.{not-whole, whole}
use Rattle.elements.proofs.reading.read.Goals as goal

pub returns-in_default : goal.returns-in_default
returns-in_default c = sym (not-whole c.args.s.now (search rules))

pub returns-in_err-checked : goal.returns-in_err-checked
returns-in_err-checked c = let w = c.in-Ok.ensures.1 in search rules ∙ whole c.args.s.now w.long w.same c.floats-e.ensures c.in_err-checked.ensures

pub returns : goal.returns
returns c = let w = c.in-Ok.ensures.1 in whole c.args.s.now w.long w.same c.floats-e.ensures c.in_ok-checked.ensures
