-- Counting over instants, by induction on how many there are: nothing, two counts in one, the instants of one interval, one stretch behind the other.
use Prim.Native.Nat.{ℕ, zero, suc, ◌+◌, ◌-◌, ◌≤◌, min, max}
use mathlib.Core.Path.{◌≡◌, refl, ap, ◌∙◌}
use mathlib.Core.Bool.{Bool, true, false, cond, ◌&&◌, ◌||◌}
use native.Mathlib.Omega.{arith}
use borrow.Author.Tests.{leb-true, leb-false}
use lib.Dec.{leb}
use Rattle.finder.specs.Spans.{Span}
use Rattle.finder.specs.Fits.{within}
use Rattle.days.specs.Counts.{count_of}

-- where none has it there are none
pub count_none : (p : ℕ → Bool) (a n : ℕ) → ((t : ℕ) → p t ≡ false) → count_of p a n ≡ 0
unfolding count_of
count_none p a zero none = refl
count_none p a (suc n) none = rw (none a) (omega (arith, count_none p (suc a) n none))

-- those that have one of two things are those that have the first and those that have the second, where none has both
either-bit : (x y : Bool) → (x ≡ true → y ≡ false) → cond (x || y) 1 0 ≡ cond x 1 0 + cond y 1 0
either-bit true y apart = rw (apart refl)
either-bit false true apart = refl
either-bit false false apart = refl

module _ (p q r : ℕ → Bool) (is : (t : ℕ) → r t ≡ (p t || q t)) (apart : (t : ℕ) → p t ≡ true → q t ≡ false) where
  pub count-either : (a n : ℕ) → count_of r a n ≡ count_of p a n + count_of q a n
  unfolding count_of
  count-either a zero = refl
  count-either a (suc n) = rw (is a) (omega (arith, either-bit (p a) (q a) (apart a), count-either (suc a) n))

-- the instants of an interval, of which a stretch of n from a on has these
module _ (s : Span) (forward : s.first ≤ s.last) where
  abbrev shared : ℕ → ℕ → ℕ
  shared a n = min (s.last + 1) (a + n) - max s.first a

  within-bit : (a n : ℕ) (x y : Bool) → leb s.first a ≡ x → leb a s.last ≡ y → cond (x && y) 1 0 + shared (suc a) n ≡ shared a (suc n)
  within-bit a n true true p q = omega (arith, leb-true s.first a p, leb-true a s.last q)
  within-bit a n true false p q = omega (arith, leb-true s.first a p, leb-false a s.last q)
  within-bit a n false true p q = omega (arith, leb-false s.first a p, leb-true a s.last q)
  within-bit a n false false p q = omega (arith, leb-false s.first a p, leb-false a s.last q)

  pub count-within : (a n : ℕ) → count_of (within s) a n ≡ shared a n
  unfolding count_of
  count-within a zero = omega arith
  count-within a (suc n) = ap (λ (k : ℕ). cond (within s a) 1 0 + k) (count-within (suc a) n) ∙ within-bit a n (leb s.first a) (leb a s.last) refl refl

-- a stretch, and another behind it
pub count_add : (p : ℕ → Bool) (a m n : ℕ) → count_of p a (m + n) ≡ count_of p a m + count_of p (a + m) n
unfolding count_of
count_add p a zero n = let e : a + 0 ≡ a = omega arith in rw (e, zero_plus n) (omega arith)
  where
    zero_plus : (k : ℕ) → 0 + k ≡ k
    zero_plus k = omega arith
count_add p a (suc m) n =
    let e : suc a + m ≡ a + suc m = omega arith in
    let more : suc m + n ≡ suc (m + n) = omega arith in
    rw more (omega (arith, count_add p (suc a) m n, ap (λ (k : ℕ). count_of p k n) e))

-- no more than there are
pub bit-most : (x : Bool) → cond x 1 0 ≤ 1
bit-most true = omega arith
bit-most false = omega arith

pub count_most : (p : ℕ → Bool) (a n : ℕ) → count_of p a n ≤ n
unfolding count_of
count_most p a zero = omega arith
count_most p a (suc n) = omega (arith, bit-most (p a), count_most p (suc a) n)
