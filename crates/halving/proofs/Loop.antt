-- A loop that halves: what holds at each turn of the search that it is to make, over any yes/no answer.
use Prim.Native.Nat.{ℕ, zero, suc, ◌+◌, ◌-◌, ◌/◌, ◌^◌, ◌≤◌, ◌<◌}
use mathlib.Core.Path.{◌≡◌, refl, sym, ◌∙◌}
use mathlib.Core.Bool.{Bool, true, false, cond}
use native.Mathlib.Omega.{arith}
use native.Mathlib.Nat.{pow-succ'}
use Rattle.halving.specs.declared.Edge.{Edge}
use Rattle.halving.specs.Halving.{halve, middle}
use Rattle.halving.proofs.Laws.{halve-done, halve-turn}

-- of n halvings `asked` are behind, and the others find e
pub record Looking (moves : ℕ → Bool) (n : ℕ) (e : Edge) (low high asked : ℕ) : Type 0 where
  pub left : ℕ
  pub all : asked + left ≡ n
  pub wide : high ≤ low + 2 ^ left
  pub rest : halve moves left low high asked ≡ e

module _ (moves : ℕ → Bool) where
  pub look_start : (n low high : ℕ) → high ≤ low + 2 ^ n → Looking moves n (halve moves n low high 0) low high 0
  look_start n low high h = record { left = n; all = omega arith; wide = h; rest = refl }

  module _ {n : ℕ} {e : Edge} {low high asked : ℕ} (l : Looking moves n e low high asked) where
    pub look_done : high ≤ low + 1 → record { low = low; high = high; asked = asked } ≡ e
    look_done h = sym (halve-done moves l.left low high asked h) ∙ l.rest

    abbrev m : ℕ
    m = middle low high

    turn : low + 1 < high → Looking moves n e (cond (moves m) m low) (cond (moves m) high m) (asked + 1)
    turn far = go l.left l.all l.wide l.rest
      where
        narrower : (t : Bool) (k : ℕ) → high ≤ low + 2 ^ suc k → cond t high m ≤ cond t m low + 2 ^ k
        narrower true k h = omega (arith, pow-succ' 2 k)
        narrower false k h = omega (arith, pow-succ' 2 k)

        go : (k : ℕ) → asked + k ≡ n → high ≤ low + 2 ^ k → halve moves k low high asked ≡ e → Looking moves n e (cond (moves m) m low) (cond (moves m) high m) (asked + 1)
        go zero all wide rest = absurd (omega arith)
        go (suc k) all wide rest =
            record { left = k; all = omega arith; wide = narrower (moves m) k wide; rest = sym (halve-turn moves k low high asked far) ∙ rest }

    -- ends that are no neighbours have a halving left
    pub look_more : low + 1 < high → asked < n
    look_more far = let next = turn far in omega arith

    -- the middle as the loop computes it, from ends whose sum need not fit
    half : low + 1 < high → middle low high ≡ low + (high - low) / 2
    half far = omega arith

    pub look_up : low + 1 < high → moves (low + (high - low) / 2) ≡ true → Looking moves n e (low + (high - low) / 2) high (asked + 1)
    look_up far t = rw (half far, t) at (turn far)

    pub look_down : low + 1 < high → moves (low + (high - low) / 2) ≡ false → Looking moves n e low (low + (high - low) / 2) (asked + 1)
    look_down far t = rw (half far, t) at (turn far)
