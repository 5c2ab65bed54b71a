-- A search is made of the answers at the middles that it asks: two answers that are alike there make one search. By induction on the fuel.
use Prim.Native.Nat.{ℕ, zero, suc, ◌+◌}
use mathlib.Core.Path.{◌≡◌, refl, ap}
use mathlib.Core.List.{List, [], ◌∷◌, ◌++◌}
use mathlib.Core.Bool.{Bool, true, false, cond}
use lib.Dec.{ltb}
use Rattle.halving.specs.Halving.{halve, middle, middles_of, Alike}

pub alike_both : (f g : ℕ → Bool) (ts us : List ℕ) → Alike f g (ts ++ us) → Alike f g ts × Alike f g us
alike_both f g [] us h = (tt, h)
alike_both f g (t ∷ ts) us h = let k = alike_both f g ts us h.1 in ((h.0, k.0), k.1)

module _ (f g : ℕ → Bool) where
  -- the same ends and count, and the same middles
  abbrev Same : ℕ → ℕ → ℕ → ℕ → Type 0
  Same k low high asked = (halve g k low high asked ≡ halve f k low high asked) × (middles_of g k low high ≡ middles_of f k low high)

  pub alike : (k low high asked : ℕ) → Alike f g (middles_of f k low high) → Same k low high asked
  unfolding halve middles_of
  alike zero low high asked h = (refl, refl)
  alike (suc k) low high asked h = by (ltb (low + 1) high) h (alike k)
    where
      m : ℕ
      m = middle low high

      by : (t : Bool) → Alike f g (cond t (m ∷ middles_of f k (cond (f m) m low) (cond (f m) high m)) [])
          → ((l h n : ℕ) → Alike f g (middles_of f k l h) → Same k l h n)
          → (cond t (halve g k (cond (g m) m low) (cond (g m) high m) (asked + 1)) (record { low = low; high = high; asked = asked })
          ≡ cond t (halve f k (cond (f m) m low) (cond (f m) high m) (asked + 1)) (record { low = low; high = high; asked = asked }))
          × (cond t (m ∷ middles_of g k (cond (g m) m low) (cond (g m) high m)) [] ≡ cond t (m ∷ middles_of f k (cond (f m) m low) (cond (f m) high m)) [])
      by false h rest = (refl, refl)
      by true h rest =
          let next = rest (cond (f m) m low) (cond (f m) high m) (asked + 1) h.1 in
          rw h.0 (next.0, ap (λ (ts : List ℕ). m ∷ ts) next.1)
