-- `Sines::cosine` meets its contract, by those of the angle's sum and of the sine.
use mathlib.Core.Path.{◌∙◌, ap}
use borrow.Author.Rules.{rules}
use Rattle.sine.specs.Sine.{sine_of, cosine_of}
use Rattle.sine.proofs.Sines.cosine.Goals as goal

pub returns : goal.returns
unfolding cosine_of
returns c = search rules ∙ c.sine.ensures ∙ ap sine_of c.add.ensures
