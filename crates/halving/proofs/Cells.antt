-- A search that may begin in a cell: halvings toward a point lead to the cell that holds it, and where all is settled outside of the cell the search goes on from there.
use Prim.Native.Nat.{ℕ, zero, suc, ◌+◌, ◌*◌, ◌/◌, ◌^◌, ◌≤◌, ◌<◌}
use mathlib.Core.Path.{◌≡◌, refl, sym, ap, ◌∙◌}
use mathlib.Core.Bool.{Bool, true, false, cond}
use native.Mathlib.Nat.{le_trans, lt_of_lt_of_le, div-eq_of_lt, zero-mul, add-zero, mul_comm, mul_assoc, add-mul, pow-suc, zero-add, suc-add, div-eq_of_lt-le, div-mul-le_self, div-lt_iff_lt-mul, mul-le-mul_right, lt-div-mul-add}
use native.Mathlib.Omega.{arith}
use borrow.Author.Tests.{leb-true, leb-false, le-leb, lt-leb}
use lib.Dec.{leb}
use lib.Pow.{pow_pos, pow-add}
use Rattle.halving.specs.Halving.{halve, middle}
use Rattle.halving.specs.Foretold.{cell_of, Told, YesUpTo, NoFrom}
use Rattle.halving.proofs.Laws.{follow, halve-done, halve-turn}
use Rattle.halving.proofs.Foretold.{foretold}

-- the answer that leads to x
abbrev toward : ℕ → ℕ → Bool
toward x a = leb a x

-- n halvings, and then k more of them
further : (f : ℕ → Bool) (k n low high asked : ℕ) → let e = halve f n low high asked in halve f (n + k) low high asked ≡ halve f k e.low e.high e.asked
further f k =
    follow f (λ n low high asked e. halve f (n + k) low high asked ≡ halve f k e.low e.high e.asked)
    (λ low high asked. rw zero-add)
    (λ n low high asked near. halve-done f (n + k) low high asked near ∙ sym (halve-done f k low high asked near))
    (λ n low high asked e far t rest. rw (suc-add, halve-turn f (n + k) low high asked far, t) rest)
    (λ n low high asked e far t rest. rw (suc-add, halve-turn f (n + k) low high asked far, t) rest)

-- ---- the cell of w units that holds x, in the one of 2·w units

-- the low end of the wide one
abbrev wide : ℕ → ℕ → ℕ
wide x w = x / (w * 2) * (w * 2)

module _ (x w : ℕ) (h : 0 < w) where
  abbrev L : ℕ
  L = wide x w

  twice : (q : ℕ) → q * 2 * w ≡ q * (w * 2)
  twice q = mul_assoc q 2 w ∙ ap (λ (v : ℕ). q * v) (mul_comm 2 w)

  first-half : x < L + w → x / w * w ≡ L
  first-half l =
      let q = x / (w * 2) in
      let quotient : x / w ≡ q * 2 = div-eq_of_lt-le w (omega (arith, twice q, div-mul-le_self x (w * 2))) (omega (arith, twice q, add-mul (q * 2) 1 w)) in
      rw quotient (twice q)

  second_half : L + w ≤ x → x / w * w ≡ L + w
  second_half l =
      let q = x / (w * 2) in
      let above : x < L + w * 2 = lt-div-mul-add (omega arith) in
      let quotient : x / w ≡ q * 2 + 1 = div-eq_of_lt-le w (omega (arith, twice q, add-mul (q * 2) 1 w)) (omega (arith, twice q, add-mul (q * 2 + 1) 1 w, add-mul (q * 2) 1 w)) in
      rw quotient (omega (arith, twice q, add-mul (q * 2) 1 w))

  -- what one halving toward x makes of the wide cell's ends
  narrower : let m = middle L (L + w * 2) in (cond (toward x m) m L ≡ x / w * w) × (cond (toward x m) (L + w * 2) m ≡ x / w * w + w)
  narrower = on (toward x m) refl
    where
      m : ℕ
      m = middle L (L + w * 2)

      on : (t : Bool) → toward x m ≡ t → (cond t m L ≡ x / w * w) × (cond t (L + w * 2) m ≡ x / w * w + w)
      on true e = let half = second_half (omega (arith, leb-true m x e)) in (omega arith, omega arith)
      on false e = let half = first-half (omega (arith, leb-false m x e)) in (omega arith, omega arith)

-- n halvings toward x, from a cell to one within
narrowed : (x s n asked : ℕ) → let c = cell_of x (n + s) in halve (toward x) n c (c + 2 ^ (n + s)) asked ≡ record { low = cell_of x s; high = cell_of x s + 2 ^ s; asked = asked + n }
unfolding halve
narrowed x s zero asked = rw (zero-add, add-zero)
narrowed x s (suc n) asked =
    let w = 2 ^ (n + s) in
    let L = wide x w in
    let half = narrower x w (pow_pos (n + s)) in
    let far : L + 1 < L + w * 2 = omega (arith, pow_pos (n + s)) in
    let count : asked + 1 + n ≡ asked + suc n = omega arith in
    rw (suc-add, pow-suc, halve-turn (toward x) n L (L + w * 2) asked far, half.0, half.1, ← count) (narrowed x s n (asked + 1))

-- a cell ends inside what is searched
pub cell-within : (x s n : ℕ) → x < 2 ^ (n + s) → cell_of x s + 2 ^ s ≤ 2 ^ (n + s)
cell-within x s n h =
    let few : x / 2 ^ s + 1 ≤ 2 ^ n = omega (arith, (div-lt_iff_lt-mul (pow_pos s)).1 (rw (pow-add 2 n s) at h)) in
    rw (pow-add 2 n s) (omega (arith, add-mul (x / 2 ^ s) 1 (2 ^ s), mul-le-mul_right (2 ^ s) few))

-- ---- where it may begin

-- the search of n + s halvings from 0 and 2^(n + s) makes the last s of them in that cell
pub from_cell : (f : ℕ → Bool) (x s n : ℕ) → x < 2 ^ (n + s) → YesUpTo f (cell_of x s) → NoFrom f (cell_of x s + 2 ^ s) (2 ^ (n + s))
    → halve f s (cell_of x s) (cell_of x s + 2 ^ s) n ≡ halve f (n + s) 0 (2 ^ (n + s)) 0
from_cell f x s n h lower upper = sym (further f s n 0 (2 ^ (n + s)) 0 ∙ rw to_cell)
  where
    whole : cell_of x (n + s) ≡ 0
    whole = ap (λ (q : ℕ). q * 2 ^ (n + s)) (div-eq_of_lt h) ∙ zero-mul (2 ^ (n + s))

    told : Told f (toward x) 0 (cell_of x s) (cell_of x s + 2 ^ s) (2 ^ (n + s))
    told = record {
      below = λ a p q. lower a p q ∙ sym (le-leb a x (le_trans q (div-mul-le_self x (2 ^ s))));
      above = λ a p q. upper a p q ∙ sym (lt-leb a x (lt_of_lt_of_le (lt-div-mul-add (pow_pos s)) p));
    }

    toward-cell : halve (toward x) n 0 (2 ^ (n + s)) 0 ≡ record { low = cell_of x s; high = cell_of x s + 2 ^ s; asked = n }
    toward-cell = rw (whole, zero-add (2 ^ (n + s)), zero-add n) at (narrowed x s n 0)

    to_cell : halve f n 0 (2 ^ (n + s)) 0 ≡ record { low = cell_of x s; high = cell_of x s + 2 ^ s; asked = n }
    to_cell = foretold f (toward x) n 0 (2 ^ (n + s)) 0 (rw toward-cell told) ∙ toward-cell
