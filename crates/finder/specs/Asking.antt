-- What a finder asks, for the contracts of its functions. No rule of document 01.
use Rattle.std.specs.Prelude.{ℕ, Bool}
use Rattle.geometry.specs.declared.Sight.{Sight}
use Rattle.geometry.specs.Visible.{answer_at}
use Rattle.geometry.specs.Sight.{sight_at}
use Rattle.finder.specs.declared.Finder.{Finder}

-- its answer at an instant
abbrev pub answers : Finder → ℕ → Bool
answers k = answer_at k.sky.now k.question

-- what tells why there
abbrev pub sights : Finder → ℕ → Sight
sights k = sight_at k.sky.now k.question
