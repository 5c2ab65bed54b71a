-- `days::Span::is_bad` meets its contract: the definition's three tests.
use mathlib.Core.Logic.{inl, inr}
use native.Mathlib.Omega.{arith}
use borrow.Author.Tests.{lt-ltb, le-ltb}
use Rattle.days.specs.Given.{bad_span}
use Rattle.days.proofs.Span.is_bad.Goals as goal
use Rattle.days.proofs.Span.is_bad.Goals.{then-self, else-self}

pub returns-then-self-low : goal.returns-then-self-low
unfolding bad_span
returns-then-self-low c =
    elim c.if-self.branch [
      | then-self w ↦ rw (← c.self.view_is, w.t-5-is, lt-ltb _ _ w.if-self.true)
      | else-self w ↦
          elim c.if-self-low.either [
            | inl wrong ↦ absurd (omega (arith, wrong, w.if-self.false))
            | inr early ↦ rw (← c.self.view_is, w.t-5-is, le-ltb _ _ early.0, lt-ltb _ _ early.1)
          ]
    ]

pub returns-else-self-low : goal.returns-else-self-low
unfolding bad_span
returns-else-self-low c = rw (← c.self.view_is, le-ltb _ _ c.if-self-low.false.0, le-ltb _ _ c.if-self-low.false.1)
