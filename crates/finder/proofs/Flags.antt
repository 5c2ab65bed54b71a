-- The flags of an interval, by cases on what differs: how great they are, what they are at either end, and each bit read back.
use Prim.Native.Nat.{ℕ, ◌+◌, ◌-◌, ◌*◌, ◌/◌, ◌%◌, ◌≤◌, ◌<◌}
use mathlib.Core.Path.{◌≡◌, refl}
use mathlib.Core.Bool.{Bool, true, false, cond, not, ◌&&◌}
use native.Mathlib.Omega.{arith}
use lib.Dec.{eqb}
use borrow.Author.Tests.{eq-eqb, ne_eqb}
use Rattle.geometry.specs.declared.Sight.{Sight}
use Rattle.finder.specs.declared.Window.{Window}
use Rattle.finder.specs.Spans.{Span}
use Rattle.finder.specs.Flags.{differ, differing, first_flags, last_flags, flags_of, has, Says}

-- a bit is at most its value
bit-most : (x : Bool) (value : ℕ) → cond x value 0 ≤ value
bit-most true value = omega arith
bit-most false value = omega arith

differing-most : (h u : ℕ) (a b : Sight) → differing h u a b ≤ h + u
unfolding differing
differing-most h u a b = omega (arith, bit-most (differ a.hidden b.hidden) h, bit-most (differ a.up b.up) u)

pub bits_most : (n h u : ℕ) (a b : Sight) → n ≡ differing h u a b → n ≤ h + u
bits_most n h u a b e = rw e (differing-most h u a b)

-- the bits at a last are four times those at a first
four_times : (a b : Sight) → differing 16 32 a b ≡ 4 * differing 4 8 a b
unfolding differing
four_times a b = by (differ a.hidden b.hidden) (differ a.up b.up)
  where
    by : (x y : Bool) → cond x 16 0 + cond y 32 0 ≡ 4 * (cond x 4 0 + cond y 8 0)
    by true true = refl
    by true false = refl
    by false true = refl
    by false false = refl

-- one of two that are no greater
most_of : (x : Bool) (a b most : ℕ) → a ≤ most → b ≤ most → cond x a b ≤ most
most_of true a b most p q = p
most_of false a b most p q = q

module _ (g : ℕ → Sight) (w : Window) where
  pub first-most : (t : ℕ) → first_flags g w t ≤ 12
  unfolding first_flags
  first-most t = most_of (eqb t w.t0) 1 _ 12 (omega arith) (differing-most 4 8 _ _)

  last-most : (t : ℕ) → last_flags g w t ≤ 48
  unfolding last_flags
  last-most t = most_of (eqb t w.t1) 2 _ 48 (omega arith) (differing-most 16 32 _ _)

  pub flags-most : (s : Span) → flags_of g w s ≤ 60
  unfolding flags_of
  flags-most s = omega (arith, first-most s.first, last-most s.last)

  -- a first at t0
  pub first_cut : first_flags g w w.t0 ≡ 1
  unfolding first_flags
  first_cut = rw (eq-eqb w.t0 w.t0 refl)

  -- a last at t1
  pub last_cut : last_flags g w w.t1 ≡ 2
  unfolding last_flags
  last_cut = rw (eq-eqb w.t1 w.t1 refl)

  -- any other first, behind t
  pub first-behind : (t : ℕ) → w.t0 ≤ t → first_flags g w (t + 1) ≡ differing 4 8 (g t) (g (t + 1))
  unfolding first_flags
  first-behind t h =
      let back : t + 1 - 1 ≡ t = omega arith in
      rw (ne_eqb (t + 1) w.t0 (λ e. omega arith), back)

  -- any other last
  pub last-before : (t : ℕ) → t < w.t1 → last_flags g w t ≡ 4 * differing 4 8 (g t) (g (t + 1))
  unfolding last_flags
  last-before t h = rw (ne_eqb t w.t1 (λ e. omega arith)) (four_times (g t) (g (t + 1)))

-- ---- read back

abbrev one : Bool → ℕ
one x = cond x 1 0

-- six bits
abbrev bits_of : Bool → Bool → Bool → Bool → Bool → Bool → ℕ
bits_of a b c d e f = one a + 2 * one b + 4 * one c + 8 * one d + 16 * one e + 32 * one f

one-most : (x : Bool) → one x ≤ 1
one-most true = omega arith
one-most false = omega arith

bit-set : (bit n : ℕ) (x : Bool) → (n / bit) % 2 ≡ one x → has bit n ≡ x
unfolding has
bit-set bit n true e = rw e
bit-set bit n false e = rw e

-- those at one end: c where the window cuts it, else h and u
end-bits : (c h u : ℕ) (x a b : Bool) → cond x c (cond a h 0 + cond b u 0) ≡ c * one x + h * one (not x && a) + u * one (not x && b)
end-bits c h u true a b = omega arith
end-bits c h u false true true = omega arith
end-bits c h u false true false = omega arith
end-bits c h u false false true = omega arith
end-bits c h u false false false = omega arith

-- n is made of them
module _ (a b c d e f : Bool) (n : ℕ) (is : n ≡ bits_of a b c d e f) where
  bits_back : (has 1 n ≡ a) × (has 2 n ≡ b) × (has 4 n ≡ c) × (has 8 n ≡ d) × (has 16 n ≡ e) × (has 32 n ≡ f)
  bits_back =
      let a1 = one-most a in
      let b1 = one-most b in
      let c1 = one-most c in
      let d1 = one-most d in
      let e1 = one-most e in (
        bit-set 1 n a (omega arith),
        bit-set 2 n b (omega arith),
        bit-set 4 n c (omega arith),
        bit-set 8 n d (omega arith),
        bit-set 16 n e (omega arith),
        bit-set 32 n f (omega (arith, one-most f)),
      )

pub flags_say : (g : ℕ → Sight) (w : Window) (s : Span) → Says g w s (flags_of g w s)
unfolding flags_of first_flags last_flags differing
flags_say g w s =
    let x = eqb s.first w.t0 in
    let h = differ (g (s.first - 1)).hidden (g s.first).hidden in
    let u = differ (g (s.first - 1)).up (g s.first).up in
    let y = eqb s.last w.t1 in
    let k = differ (g s.last).hidden (g (s.last + 1)).hidden in
    let v = differ (g s.last).up (g (s.last + 1)).up in
    let sum : flags_of g w s ≡ bits_of x y (not x && h) (not x && u) (not y && k) (not y && v) = omega (arith, end-bits 1 4 8 x h u, end-bits 2 16 32 y k v) in
    let back = bits_back x y (not x && h) (not x && u) (not y && k) (not y && v) (flags_of g w s) sum in
    record {
      from_start = back.0;
      to_end = back.1;
      first-hidden = back.2;
      first-up = back.3;
      last-hidden = back.4;
      last_up = back.5;
      no_more = omega (arith, flags-most g w s);
    }
