-- `days::Span::inside` meets its contract: the instants from the later beginning to the earlier end.
use mathlib.Core.Path.{ap}
use native.Mathlib.Omega.{arith}
use Rattle.finder.specs.Spans.{Span}
use Rattle.days.specs.Days.{day_of}
use Rattle.days.proofs.Touched.{under-is}
use Rattle.days.proofs.Span.inside.Goals as goal

pub overflow_mul-begins : goal.overflow_mul-begins
unfolding day_of
overflow_mul-begins c = omega (arith, c.requires.to, c.requires.early)

pub overflow_add-begins : goal.overflow_add-begins
unfolding day_of
overflow_add-begins c = omega (arith, c.requires.to, c.requires.early)

pub overflow_sub-result : goal.overflow_sub-result
unfolding day_of
overflow_sub-result c =
    let first = ap (λ (s : Span). s.first) c.self.view_is in
    let last = ap (λ (s : Span). s.last) c.self.view_is in
    omega (arith, first, last, c.min-end.ensures, c.max.ensures, c.requires.forward, c.requires.from, c.requires.to)

pub returns : goal.returns
returns c =
    let first = ap (λ (s : Span). s.first) c.self.view_is in
    let last = ap (λ (s : Span). s.last) c.self.view_is in
    omega (arith, first, last, c.min-end.ensures, c.max.ensures, under-is c.args.self c.requires.forward c.args.d)
