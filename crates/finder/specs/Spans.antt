-- The list of intervals, over any yes/no answer f (document 01, "The list").
use Rattle.std.specs.Prelude.{ℕ, List, [], ◌∷◌, ◌++◌, Bool, cond, not, ◌&&◌}
use Rattle.std.specs.Bool.{beq}
use Rattle.halving.specs.declared.Edge.{Edge}
use Rattle.halving.specs.Halving.{halve}
use Rattle.finder.specs.declared.Window.{Window}
use Rattle.finder.specs.Samples.{samples}

-- an interval: both instants belong to it; first = last is allowed
pub record Span : Type 0 where
  pub first : ℕ
  pub last : ℕ

abbrev pub span : ℕ → ℕ → Span
span first last = record { first = first; last = last }

-- each interval of a list has it
abbrev pub Each : (Span → Type 0) → List Span → Type 0
Each P [] = Unit {0}
Each P (s ∷ l) = P s × Each P l

-- m answers as a
abbrev pub same_as : (ℕ → Bool) → ℕ → ℕ → Bool
same_as f a m = beq (f m) (f a)

-- the neighbours at which a step from a to b changes: low moves if the middle answers as the low end, else high. A step is at most 2^20 ms, so
-- 20 halvings end at neighbours
unfoldable pub edge : (ℕ → Bool) → ℕ → ℕ → Edge
edge f a b = halve (same_as f a) 20 a b 0

-- change no→yes: high is a first
unfoldable pub first_after : (ℕ → Bool) → ℕ → ℕ → ℕ → ℕ
first_after f first a b = cond (not (f a) && f b) (edge f a b).high first

-- yes→no: low is a last, of the interval that began at `first`
unfoldable pub closed_in : (ℕ → Bool) → ℕ → ℕ → ℕ → List Span
closed_in f first a b = cond (f a && not (f b)) (span first (edge f a b).low ∷ []) []

-- a yes at t1, the last sample, closes one there
abbrev pub ended : Bool → ℕ → ℕ → List Span
ended was first a = cond was (span first a ∷ []) []

-- the intervals from the sample a on; where a says yes, the open one began at `first`
unfoldable pub walk : (ℕ → Bool) → ℕ → ℕ → List ℕ → List Span
walk f first a [] = ended (f a) first a
walk f first a (b ∷ ts) = closed_in f first a b ++ walk f (first_after f first a b) b ts

-- the list: a yes at t0 opens an interval there
unfoldable pub list_of : (ℕ → Bool) → Window → List Span
list_of f w = walk f w.t0 w.t0 (samples w)
