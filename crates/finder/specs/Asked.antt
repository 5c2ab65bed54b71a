-- The instants asked, over any yes/no answer f (document 01, "The list": n+1 samples and one per halving).
use Rattle.std.specs.Prelude.{ℕ, ◌+◌, ◌-◌, ◌≡◌, ◌⊎◌, List, [], ◌∷◌, ◌++◌, Bool, cond}
use Rattle.halving.specs.Halving.{middles_of, Among}
use Rattle.finder.specs.declared.Window.{Window}
use Rattle.finder.specs.Samples.{samples}
use Rattle.finder.specs.Spans.{same_as}

-- the middles of a step from a to b, one per halving; none where its ends agree
unfoldable pub middles_in : (ℕ → Bool) → ℕ → ℕ → List ℕ
middles_in f a b = cond (same_as f a b) [] (middles_of (same_as f a) 20 a b)

-- after the sample a: each sample, and then the middles of the step that ends there
unfoldable pub asked_after : (ℕ → Bool) → ℕ → List ℕ → List ℕ
asked_after f a [] = []
asked_after f a (b ∷ ts) = b ∷ middles_in f a b ++ asked_after f b ts

-- the instants asked, in the order in which they are asked
unfoldable pub instants_of : (ℕ → Bool) → Window → List ℕ
instants_of f w = w.t0 ∷ asked_after f w.t0 (samples w)

-- how many steps have ends that differ
unfoldable pub changes_in : (ℕ → Bool) → ℕ → List ℕ → ℕ
changes_in f a [] = 0
changes_in f a (b ∷ ts) = cond (same_as f a b) 0 1 + changes_in f b ts

unfoldable pub changes_of : (ℕ → Bool) → Window → ℕ
changes_of f w = changes_in f w.t0 (samples w)

-- ---- both instants at an end were asked already (document 02, wish 1)

-- a first is t0, or both it and the instant before it are among these
abbrev pub FirstAsked : Window → List ℕ → ℕ → Type 0
FirstAsked w asked first = (first ≡ w.t0) ⊎ (Among (first - 1) asked × Among first asked)

-- a last is t1, or both it and the instant after it are
abbrev pub LastAsked : Window → List ℕ → ℕ → Type 0
LastAsked w asked last = (last ≡ w.t1) ⊎ (Among last asked × Among (last + 1) asked)
