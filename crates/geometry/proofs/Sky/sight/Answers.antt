-- `Sky::sight` meets its contract: by the question, by the answer that was told, and by up.
use borrow.Author.Tests.{eq-eqb, ne_eqb}
use Rattle.geometry.proofs.Told.{by-hidden, by_yes, by_no, by_both}
use Rattle.geometry.proofs.Sky.sight.Goals as goal

pub returns-then-question-eq1 : goal.returns-then-question-eq1
returns-then-question-eq1 c = by-hidden _ _ _ c.requires (eq-eqb _ _ c.if-question-eq1.true)

pub returns-then-told : goal.returns-then-told
returns-then-told c = by_yes _ _ _ (ne_eqb _ _ c.if-question-eq1.false) c.requires c.if-told.true

pub returns-then-risen : goal.returns-then-risen
returns-then-risen c = by_no _ _ _ (ne_eqb _ _ c.if-question-eq1.false) c.requires c.if-told.false c.up-risen.ensures c.if-risen.true

pub returns-else-risen : goal.returns-else-risen
returns-else-risen c = by_both _ _ _ (ne_eqb _ _ c.if-question-eq1.false) c.up-risen.ensures c.hidden.ensures
