-- The search by halving (document 01, "Place in the orbit" and "The list"), over any yes/no answer.
use Rattle.std.specs.Prelude.{ℕ, zero, suc, ◌+◌, ◌/◌, ◌≤◌, ◌<◌, ◌≡◌, Bool, cond, ltb}
use mathlib.Core.List.{List, [], ◌∷◌, Memᴰ}
use Rattle.halving.specs.declared.Edge.{Edge}

-- the ends of a search are in order
abbrev pub InOrder : ℕ → ℕ → Type 0
InOrder low high = low ≤ high

-- a search between these ends may ask at each point between them
abbrev pub AskableBetween : (ℕ → Type 0) → ℕ → ℕ → Type 0
AskableBetween can_ask low high = (m : ℕ) → low < m → m < high → can_ask m

-- the middle is floor((low + high) / 2)
abbrev pub middle : ℕ → ℕ → ℕ
middle low high = (low + high) / 2

-- low moves to the middle if `moves` says so there, else high does; until they are neighbours, or k halvings more are made.
-- `asked` counts the middles asked
unfoldable pub halve : (ℕ → Bool) → ℕ → ℕ → ℕ → ℕ → Edge
halve moves zero low high asked = record { low = low; high = high; asked = asked }
halve moves (suc k) low high asked =
    let m = middle low high in
    let next = halve moves k (cond (moves m) m low) (cond (moves m) high m) (asked + 1) in
    cond (ltb (low + 1) high) next (record { low = low; high = high; asked = asked })

-- the middles that it asks, in order
unfoldable pub middles_of : (ℕ → Bool) → ℕ → ℕ → ℕ → List ℕ
middles_of moves zero low high = []
middles_of moves (suc k) low high =
    let m = middle low high in
    let next = middles_of moves k (cond (moves m) m low) (cond (moves m) high m) in
    cond (ltb (low + 1) high) (m ∷ next) []

-- g tells the same as f at each of these points: for the law that a search is made of the answers at its middles
abbrev pub Alike : {A : Type 0} → (ℕ → A) → (ℕ → A) → List ℕ → Type 0
Alike f g [] = Unit {0}
Alike f g (t ∷ ts) = (g t ≡ f t) × Alike f g ts

-- t is one of these points: for the law that a search ends at points that it was given or asked
abbrev pub Among : ℕ → List ℕ → Type 0
Among = Memᴰ
