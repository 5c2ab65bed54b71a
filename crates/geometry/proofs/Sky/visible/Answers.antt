-- `Sky::visible` meets its contract: hidden is asked only where up said yes.
use mathlib.Core.Path.{◌≡◌, sym, ap, ◌∙◌}
use mathlib.Core.Bool.{Bool, true, false, not, ◌&&◌}
use Rattle.geometry.specs.Hidden.{hidden_at}
use Rattle.geometry.specs.Visible.{visible_at}
use Rattle.geometry.proofs.Sky.visible.Goals as goal

if-up : {u v h g : Bool} → u ≡ v → u ≡ true → h ≡ g → not h ≡ (v && not g)
if-up {g = g} e t f = ap not f ∙ ap (λ (b : Bool). b && not g) (sym t ∙ e)

if-down : {u v : Bool} (g : Bool) → u ≡ v → u ≡ false → u ≡ (v && not g)
if-down g e t = t ∙ ap (λ (b : Bool). b && not g) (sym t ∙ e)

pub returns-then-up : goal.returns-then-up
unfolding visible_at
returns-then-up c =
    let asked = c.up in
    if-up asked.ensures c.if-up.true c.hidden.ensures

pub returns-else-up : goal.returns-else-up
unfolding visible_at
returns-else-up c = if-down (hidden_at c.args.self.now c.args.at) c.up.ensures c.if-up.false
