-- `days::days` meets its contract: the window ends after it starts, so no difference wraps, and by the last end.
use mathlib.Core.Path.{refl}
use Rattle.days.specs.Days.{day_of, days_between}
use Rattle.days.proofs.Cases.{days-most}
use Rattle.days.proofs.days.Goals as goal

pub returns : goal.returns
unfolding days_between day_of
returns c = record { value = refl; few = days-most c.args.w c.requires }
