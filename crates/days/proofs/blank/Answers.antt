use mathlib.Core.Path.{◌≡◌, refl}
use native.Mathlib.Omega.{arith}
use Rattle.days.specs.Days.{day_of, days_between}
use Rattle.days.specs.Summary.{records_from, summary_of}
use Rattle.days.proofs.Records.{none_more}
use Rattle.days.proofs.blank.Goals as goal

pub loop-i-init : goal.loop-i-init
unfolding records_from
loop-i-init c = refl

pub overflow_cast-start : goal.overflow_cast-start
unfolding days_between day_of
overflow_cast-start c = omega (arith, c.days-i-end.ensures.value, c.requires.good.end)

pub loop-i-preserved : goal.loop-i-preserved
loop-i-preserved c = none_more _ _ _ c.loop-i.invariant c.put_day.ensures

pub returns : goal.returns
unfolding summary_of day_of
returns c =
    let all : c.loop-i.i ≡ c.days-i-end.result = omega arith in
    rw (all, c.days-i-end.ensures.value) at c.loop-i.invariant
