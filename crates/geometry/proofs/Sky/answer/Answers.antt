-- `Sky::answer` meets its contract, question by question.
use mathlib.Core.Path.{◌≡◌, sym, ap, ◌∙◌}
use mathlib.Core.Bool.{Bool, true, false, cond}
use borrow.Author.Tests.{eq-eqb, ne_eqb}
use Rattle.geometry.specs.Hidden.{hidden_at}
use Rattle.geometry.specs.Visible.{visible_at, answer_at}
use Rattle.geometry.proofs.Sky.answer.Goals as goal

first : {b x : Bool} (y : Bool) → b ≡ true → x ≡ cond b x y
first {x = x} y e = sym (ap (λ (t : Bool). cond t x y) e)

second : {b y : Bool} (x : Bool) → b ≡ false → y ≡ cond b x y
second {y = y} x e = sym (ap (λ (t : Bool). cond t x y) e)

pub returns-then-question-eq1 : goal.returns-then-question-eq1
unfolding answer_at
returns-then-question-eq1 c = c.hidden.ensures ∙ first (visible_at c.args.self.now c.args.at) (eq-eqb c.args.question 1 c.if-question-eq1.true)

pub returns-else-question-eq1 : goal.returns-else-question-eq1
unfolding answer_at
returns-else-question-eq1 c = c.visible.ensures ∙ second (hidden_at c.args.self.now c.args.at) (ne_eqb c.args.question 1 c.if-question-eq1.false)
