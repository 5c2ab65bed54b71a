-- Where a search ends was asked: each of its two ends is one of those that it began from, or a middle. By the induction that follows the search.
use Prim.Native.Nat.{ℕ, suc, ◌+◌, ◌<◌}
use mathlib.Core.Path.{◌≡◌, refl, sym, ap, ◌∙◌}
use mathlib.Core.List.Memᴰ.{head}
use mathlib.Core.List.Memᴰ.{tail}
use mathlib.Core.List.{List, ◌∷◌}
use mathlib.Core.Bool.{Bool, true, false}
use Rattle.halving.specs.declared.Edge.{Edge}
use Rattle.halving.specs.Halving.{halve, middle, middles_of, Alike, Among}
use Rattle.halving.proofs.Laws.{follow, middles-turn}

-- what tells the same at each of some points does so at one among them
pub alike_at : {A : Type 0} (f g : ℕ → A) {t : ℕ} {ts : List ℕ} → Among t ts → Alike f g ts → g t ≡ f t
alike_at f g (head e) h = ap g e ∙ h.0 ∙ ap f (sym e)
alike_at f g (tail m) h = alike_at f g m h.1

-- both ends are among these
abbrev pub Met : Edge → List ℕ → Type 0
Met e ts = Among e.low ts × Among e.high ts

-- one point more is no harm
up_too : {t low m high : ℕ} {ts : List ℕ} → Among t (m ∷ high ∷ ts) → Among t (low ∷ high ∷ m ∷ ts)
up_too (head e) = tail (tail (head e))
up_too (tail (head e)) = tail (head e)
up_too (tail (tail e)) = tail (tail (tail e))

down_too : {t low m high : ℕ} {ts : List ℕ} → Among t (low ∷ m ∷ ts) → Among t (low ∷ high ∷ m ∷ ts)
down_too (head e) = head e
down_too (tail e) = tail (tail e)

module _ (moves : ℕ → Bool) where
  abbrev points : ℕ → ℕ → ℕ → List ℕ
  points k low high = low ∷ high ∷ middles_of moves k low high

  up_met : (k low high : ℕ) (e : Edge) → low + 1 < high → moves (middle low high) ≡ true → Met e (points k (middle low high) high) → Met e (points (suc k) low high)
  up_met k low high e far t h = rw (middles-turn moves true k low high far t) (up_too h.0, up_too h.1)

  down_met : (k low high : ℕ) (e : Edge) → low + 1 < high → moves (middle low high) ≡ false → Met e (points k low (middle low high)) → Met e (points (suc k) low high)
  down_met k low high e far t h = rw (middles-turn moves false k low high far t) (down_too h.0, down_too h.1)

  pub ends_met : (k low high asked : ℕ) → Met (halve moves k low high asked) (points k low high)
  ends_met =
      follow moves (λ k low high asked e. Met e (points k low high))
      (λ low high asked. (head refl, tail (head refl)))
      (λ k low high asked near. (head refl, tail (head refl)))
      (λ k low high asked e far t h. up_met k low high e far t h)
      (λ k low high asked e far t h. down_met k low high e far t h)
