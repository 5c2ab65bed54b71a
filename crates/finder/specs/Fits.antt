-- What a list of intervals has to be, over any yes/no answer f and whoever made it (document 01, "The list" and "Holding the promises to
-- account"): in order, right at each sample, with one change in each step whose ends differ and none elsewhere.
use Rattle.std.specs.Prelude.{ℕ, ◌+◌, ◌≤◌, ◌<◌, ◌≡◌, ◌≢◌, ◌⊎◌, List, [], ◌∷◌, Bool, true, false, ◌&&◌, ◌||◌, leb}
use Rattle.finder.specs.Samples.{longest_step}
use Rattle.finder.specs.Spans.{Span, span, Each}

-- ---- the relation

-- from a to b the answer goes from x to y, and so it does from e to e + 1
pub record Changes (f : ℕ → Bool) (x y : Bool) (a b e : ℕ) : Type 0 where
  pub at_a : f a ≡ x
  pub at_b : f b ≡ y
  pub from : a ≤ e
  pub to : e < b
  pub before : f e ≡ x
  pub after : f (e + 1) ≡ y

-- a list that fits the samples a and ts: each step whose ends differ holds one change, between neighbours that differ in its direction,
-- no other step holds one, and a yes at the last sample closes an interval there. Where a says yes, the open interval began at `first`
pub data Fits (f : ℕ → Bool) : ℕ → ℕ → List ℕ → List Span → Type 0 where
  shut : {first a : ℕ} → f a ≡ false → Fits f first a [] []
  closes : {first a : ℕ} → f a ≡ true → Fits f first a [] (span first a ∷ [])
  stays : {first a b : ℕ} {ts : List ℕ} {l : List Span} → f a ≡ f b → Fits f first b ts l → Fits f first a (b ∷ ts) l
  begins : {first a b e : ℕ} {ts : List ℕ} {l : List Span} → Changes f false true a b e → Fits f (e + 1) b ts l → Fits f first a (b ∷ ts) l
  ends : {first a b e : ℕ} {ts : List ℕ} {l : List Span} → Changes f true false a b e → Fits f first b ts l → Fits f first a (b ∷ ts) (span first e ∷ l)

-- the samples a and ts are in order
abbrev pub Rising : ℕ → List ℕ → Type 0
Rising a [] = Unit {0}
Rising a (b ∷ ts) = (a ≤ b) × Rising b ts

-- none of their steps is too long for the halvings
abbrev pub Short : ℕ → List ℕ → Type 0
Short a [] = Unit {0}
Short a (b ∷ ts) = (b ≤ a + longest_step) × Short b ts

-- the last of the samples a and ts
unfoldable pub last_of : ℕ → List ℕ → ℕ
last_of a [] = a
last_of a (b ∷ ts) = last_of b ts

-- ---- what follows from it

-- intervals in order, from low to high, with at least one instant between neighbours
abbrev pub InOrder : ℕ → List Span → ℕ → Type 0
InOrder low [] high = Unit {0}
InOrder low (s ∷ l) high = (low ≤ s.first) × (s.first ≤ s.last) × (s.last ≤ high) × InOrder (s.last + 2) l high

-- t lies in an interval
abbrev pub within : Span → ℕ → Bool
within s t = leb s.first t && leb t s.last

-- t lies in some interval of the list
unfoldable pub listed : List Span → ℕ → Bool
listed [] t = false
listed (s ∷ l) t = within s t || listed l t

-- from a to b, g answers as f at a up to e, and from then on as f at b; where f differs at a and b, e lies before b and f itself
-- differs in that direction at e and e + 1
pub record Step (f g : ℕ → Bool) (a b : ℕ) : Type 0 where
  pub e : ℕ
  pub from : a ≤ e
  pub to : e ≤ b
  pub as_a : (t : ℕ) → a ≤ t → t ≤ e → g t ≡ f a
  pub as_b : (t : ℕ) → e < t → t ≤ b → g t ≡ f b
  pub low : f e ≡ f a
  pub high : e < b → f (e + 1) ≡ f b
  pub differs : f a ≢ f b → e < b

-- so it is in every step, and at the last sample g is f
abbrev pub Follows : (ℕ → Bool) → (ℕ → Bool) → ℕ → List ℕ → Type 0
Follows f g a [] = g a ≡ f a
Follows f g a (b ∷ ts) = Step f g a b × Follows f g b ts

-- some step of the samples a and ts has it
abbrev pub SomeStep : (ℕ → ℕ → Type 0) → ℕ → List ℕ → Type 0
SomeStep P a [] = ⊥
SomeStep P a (b ∷ ts) = P a b ⊎ SomeStep P b ts

-- t is t0, or the yes behind a change in a step that goes from no to yes
abbrev pub Begun : (ℕ → Bool) → ℕ → List ℕ → ℕ → Type 0
Begun f t0 ts t = (t ≡ t0) ⊎ SomeStep (λ a b. (e : ℕ) × (t ≡ e + 1) × Changes f false true a b e) t0 ts

-- t is the last sample, or the yes before a change in a step that goes from yes to no
abbrev pub Over : (ℕ → Bool) → ℕ → List ℕ → ℕ → Type 0
Over f t0 ts t = (t ≡ last_of t0 ts) ⊎ SomeStep (λ a b. Changes f true false a b t) t0 ts

-- so each interval begins and ends
abbrev pub Endpoints : (ℕ → Bool) → ℕ → List ℕ → List Span → Type 0
Endpoints f t0 ts = Each (λ s. Begun f t0 ts s.first × Over f t0 ts s.last)
