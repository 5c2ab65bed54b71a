use Prim.Native.Nat.{◌+◌, ◌/◌}
use mathlib.Core.Path.{◌≡◌, refl, ap}
use native.Mathlib.Omega.{arith}
use Rattle.finder.specs.Spans.{Span}
use Rattle.days.specs.Days.{day_of}
use Rattle.days.proofs.Adding.{added_none, added-all, added_more, Turn, turn}
use Rattle.days.proofs.Updates.{lies}
use Rattle.days.proofs.add.Goals as goal
use Rattle.days.proofs.add.Goals.{In-loop-d}

-- what a turn relies on
turned : (c : In-loop-d) → Turn (c.args.w.t0 / 86400000) c.args.s c.loop-d.d c.loop-d.out
unfolding day_of
turned c = turn c.loop-d.invariant.0 c.loop-d.invariant.1 c.loop-d.invariant.2 c.args.w refl c.requires

pub loop-d-init : goal.loop-d-init
unfolding day_of
loop-d-init c =
    let first = ap (λ (x : Span). x.first) c.s.view_is in
    let last = ap (λ (x : Span). x.last) c.s.view_is in
    (added_none (ap (λ (x : Span). day_of x.first) c.s.view_is), omega (arith, first), omega (arith, first, last, (lies _ _ _ _ c.requires.1).1))

pub overflow_sub-at : goal.overflow_sub-at
overflow_sub-at c = omega (arith, (turned (goal.at.overflow_sub-at c).In-loop-d).started)

pub read-intervals-requires : goal.read-intervals-requires
read-intervals-requires c = omega (arith, (turned (goal.at.read-intervals-requires c).In-loop-d).room)

pub overflow_add-intervals : goal.overflow_add-intervals
overflow_add-intervals c = omega (arith, c.read-intervals.ensures, (turned (goal.at.overflow_add-intervals c).In-loop-d).few)

pub read-requires : goal.read-requires
read-requires c = omega (arith, (turned (goal.at.read-requires c).In-loop-d).room)

pub inside-requires : goal.inside-requires
inside-requires c = (turned (goal.at.inside-requires c).In-loop-d).under

pub overflow_add-instants : goal.overflow_add-instants
overflow_add-instants c = omega (arith, c.inside.ensures, c.read.ensures, (turned (goal.at.overflow_add-instants c).In-loop-d).sum)

pub overflow_cast-d : goal.overflow_cast-d
overflow_cast-d c = omega (arith, (turned (goal.at.overflow_cast-d c).In-loop-d).small)

pub put_day-requires : goal.put_day-requires
put_day-requires c = omega (arith, (turned (goal.at.put_day-requires c).In-loop-d).room)

pub loop-d-preserved : goal.loop-d-preserved
unfolding day_of
loop-d-preserved c =
    let last = ap (λ (x : Span). x.last) c.s.view_is in
    (added_more c.loop-d.invariant.0 c.loop-d.invariant.1 c.loop-d.invariant.2 c.read-intervals.ensures c.read.ensures c.inside.ensures c.put_day.ensures, omega arith, omega (arith, last))

pub returns : goal.returns
unfolding day_of
returns c =
    let last = ap (λ (x : Span). x.last) c.s.view_is in
    absurd (omega (arith, last, c.loop-d.invariant.2))

pub returns-2 : goal.returns-2
unfolding day_of
returns-2 c =
    let last = ap (λ (x : Span). x.last) c.s.view_is in
    let end : c.loop-d.d + 1 ≡ c.args.s.last / 86400000 + 1 = omega (arith, last, c.loop-d.invariant.2) in
    added-all c.args.w refl end (added_more c.loop-d.invariant.0 c.loop-d.invariant.1 c.loop-d.invariant.2 c.read-intervals.ensures c.read.ensures c.inside.ensures c.put_day.ensures)
