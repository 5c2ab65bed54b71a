-- The laws of halving, over any yes/no answer, each by one induction that follows the search.
use Prim.Native.Nat.{ℕ, zero, suc, ◌+◌, ◌^◌, ◌≤◌, ◌<◌}
use mathlib.Core.Path.{◌≡◌, refl, ap}
use mathlib.Core.List.{◌∷◌}
use mathlib.Core.Bool.{Bool, true, false, cond}
use native.Mathlib.Omega.{arith}
use native.Mathlib.Nat.{pow-succ'}
use lib.Dec.{ltb}
use lib.Pow.{pow_pos}
use lib.ListN.{length}
use borrow.Author.Tests.{lt-ltb, le-ltb, ltb-true, ltb-false}
use Rattle.halving.specs.declared.Edge.{Edge}
use Rattle.halving.specs.Halving.{halve, middle, middles_of}

-- neighbours, inside the ends that the search began from
pub record Ends (low high : ℕ) (e : Edge) : Type 0 where
  pub neighbours : e.high ≡ e.low + 1
  pub from : low ≤ e.low
  pub to : e.high ≤ high

-- the answer is yes at the low end and no at the high end
pub record Differ (moves : ℕ → Bool) (low high : ℕ) : Type 0 where
  pub low_moves : moves low ≡ true
  pub high-stays : moves high ≡ false

-- at most k halvings beside those behind
pub record Counted (k asked : ℕ) (e : Edge) : Type 0 where
  pub least : asked ≤ e.asked
  pub most : e.asked ≤ asked + k

-- a power of two that is at most one has no factor
no_power : (k : ℕ) → 2 ^ k ≤ 1 → k ≡ 0
no_power zero h = refl
no_power (suc k) h = absurd (omega (arith, pow-succ' 2 k, pow_pos k))

module _ (moves : ℕ → Bool) where
  -- ---- one turn of the search

  abbrev here : ℕ → ℕ → ℕ → Edge
  here low high asked = record { low = low; high = high; asked = asked }

  pub halve-done : (k low high asked : ℕ) → high ≤ low + 1 → halve moves k low high asked ≡ record { low = low; high = high; asked = asked }
  unfolding halve
  halve-done zero low high asked h = refl
  halve-done (suc k) low high asked h = rw (le-ltb (low + 1) high h)

  pub halve-turn : (k low high asked : ℕ) → low + 1 < high
      → let m = middle low high in halve moves (suc k) low high asked ≡ halve moves k (cond (moves m) m low) (cond (moves m) high m) (asked + 1)
  unfolding halve
  halve-turn k low high asked h = rw (lt-ltb (low + 1) high h)

  -- ---- the induction: what holds where the search stops, and goes back over each of its two moves, holds of every search

  module _ (Q : ℕ → ℕ → ℕ → ℕ → Edge → Type 0)
      (none : (low high asked : ℕ) → Q 0 low high asked (here low high asked))
      (stop : (k low high asked : ℕ) → high ≤ low + 1 → Q k low high asked (here low high asked))
      (up : (k low high asked : ℕ) (e : Edge) → low + 1 < high → moves (middle low high) ≡ true → Q k (middle low high) high (asked + 1) e → Q (suc k) low high asked e)
      (down : (k low high asked : ℕ) (e : Edge) → low + 1 < high → moves (middle low high) ≡ false → Q k low (middle low high) (asked + 1) e → Q (suc k) low high asked e)
    where
      more : (k : ℕ) → ((low high asked : ℕ) → Q k low high asked (halve moves k low high asked)) → (low high asked : ℕ) → Q (suc k) low high asked (halve moves (suc k) low high asked)
      unfolding halve
      more k rest low high asked = by (ltb (low + 1) high) refl
        where
          m : ℕ
          m = middle low high

          move : low + 1 < high → (t : Bool) → moves m ≡ t → Q (suc k) low high asked (halve moves k (cond t m low) (cond t high m) (asked + 1))
          move far true e = up k low high asked _ far e (rest m high (asked + 1))
          move far false e = down k low high asked _ far e (rest low m (asked + 1))

          by : (t : Bool) → ltb (low + 1) high ≡ t → Q (suc k) low high asked (cond t (halve moves k (cond (moves m) m low) (cond (moves m) high m) (asked + 1)) (here low high asked))
          by true e = move (ltb-true (low + 1) high e) (moves m) refl
          by false e = stop (suc k) low high asked (ltb-false (low + 1) high e)

      pub follow : (k low high asked : ℕ) → Q k low high asked (halve moves k low high asked)
      unfolding halve
      follow zero = none
      follow (suc k) = more k (follow k)

  -- ---- where it ends

  -- ends at most 2 ^ k apart become neighbours in k halvings, whatever is answered
  pub ends : (k low high asked : ℕ) → low < high → high ≤ low + 2 ^ k → Ends low high (halve moves k low high asked)
  ends =
      follow (λ k low high asked e. low < high → high ≤ low + 2 ^ k → Ends low high e)
      (λ low high asked below wide. at_once below (omega arith))
      (λ k low high asked near below wide. at_once below near)
      (λ k low high asked e far t rest below wide. wider (omega arith) (omega arith) (rest (omega arith) (omega (arith, pow-succ' 2 k))))
      (λ k low high asked e far t rest below wide. wider (omega arith) (omega arith) (rest (omega arith) (omega (arith, pow-succ' 2 k))))
    where
      at_once : {low high asked : ℕ} → low < high → high ≤ low + 1 → Ends low high (here low high asked)
      at_once below near = record { neighbours = omega arith; from = omega arith; to = omega arith }

      wider : {low high l h : ℕ} {e : Edge} → low ≤ l → h ≤ high → Ends l h e → Ends low high e
      wider p q b = record { neighbours = b.neighbours; from = omega arith; to = omega arith }

  -- ends that differ become ends that differ in that direction
  pub differ : (k low high asked : ℕ) → Differ moves low high → Differ moves (halve moves k low high asked).low (halve moves k low high asked).high
  differ =
      follow (λ k low high asked e. Differ moves low high → Differ moves e.low e.high)
      (λ low high asked d. d)
      (λ k low high asked near d. d)
      (λ k low high asked e far t rest d. rest (record { low_moves = t; high-stays = d.high-stays }))
      (λ k low high asked e far t rest d. rest (record { low_moves = d.low_moves; high-stays = t }))

  -- ---- how many it asks

  -- at most k, wherever the ends are
  pub counted : (k low high asked : ℕ) → Counted k asked (halve moves k low high asked)
  counted =
      follow (λ k low high asked e. Counted k asked e)
      (λ low high asked. record { least = omega arith; most = omega arith })
      (λ k low high asked near. record { least = omega arith; most = omega arith })
      (λ k low high asked e far t rest. record { least = omega arith; most = omega arith })
      (λ k low high asked e far t rest. record { least = omega arith; most = omega arith })

  -- from ends that are 2 ^ k apart: exactly k, and then the width is one
  all_asked : (k low high asked : ℕ) → high ≡ low + 2 ^ k → (halve moves k low high asked).asked ≡ asked + k
  all_asked =
      follow (λ k low high asked e. high ≡ low + 2 ^ k → e.asked ≡ asked + k)
      (λ low high asked wide. omega arith)
      (λ k low high asked near wide. omega (arith, no_power k (omega arith)))
      (λ k low high asked e far t rest wide. omega (arith, pow-succ' 2 k, rest (omega (arith, pow-succ' 2 k))))
      (λ k low high asked e far t rest wide. omega (arith, pow-succ' 2 k, rest (omega (arith, pow-succ' 2 k))))

  pub exactly : (k low asked : ℕ) → let e = halve moves k low (low + 2 ^ k) asked in (e.asked ≡ asked + k) × (e.high ≡ e.low + 1)
  exactly k low asked =
      (all_asked k low (low + 2 ^ k) asked refl, (ends k low (low + 2 ^ k) asked (omega (arith, pow_pos k)) (omega arith)).neighbours)

  -- the ends do not depend on the count that it begins with
  pub uncounted : (k low high a b : ℕ) → ((halve moves k low high a).low ≡ (halve moves k low high b).low) × ((halve moves k low high a).high ≡ (halve moves k low high b).high)
  unfolding halve
  uncounted =
      follow (λ k low high asked e. (b : ℕ) → (e.low ≡ (halve moves k low high b).low) × (e.high ≡ (halve moves k low high b).high))
      (λ low high asked b. (refl, refl))
      (λ k low high asked near b. rw (halve-done k low high b near) (refl, refl))
      (λ k low high asked e far t rest b. rw (halve-turn k low high b far, t) (rest (b + 1)))
      (λ k low high asked e far t rest b. rw (halve-turn k low high b far, t) (rest (b + 1)))

  -- the count is that of the middles asked
  middles-none : (low high : ℕ) → length (middles_of moves 0 low high) ≡ 0
  unfolding middles_of
  middles-none low high = refl

  middles-done : (k low high : ℕ) → high ≤ low + 1 → length (middles_of moves k low high) ≡ 0
  unfolding middles_of
  middles-done zero low high h = refl
  middles-done (suc k) low high h = rw (le-ltb (low + 1) high h)

  pub middles-turn : (t : Bool) (k low high : ℕ) → low + 1 < high → moves (middle low high) ≡ t
      → let m = middle low high in middles_of moves (suc k) low high ≡ m ∷ middles_of moves k (cond t m low) (cond t high m)
  unfolding middles_of
  middles-turn t k low high h e = rw (lt-ltb (low + 1) high h, e)

  pub asked-middles : (k low high asked : ℕ) → (halve moves k low high asked).asked ≡ asked + length (middles_of moves k low high)
  asked-middles =
      follow (λ k low high asked e. e.asked ≡ asked + length (middles_of moves k low high))
      (λ low high asked. omega (arith, middles-none low high))
      (λ k low high asked near. omega (arith, middles-done k low high near))
      (λ k low high asked e far t rest. omega (arith, ap length (middles-turn true k low high far t)))
      (λ k low high asked e far t rest. omega (arith, ap length (middles-turn false k low high far t)))
