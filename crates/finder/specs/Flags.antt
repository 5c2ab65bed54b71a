-- The flags of an interval (document 01, "What the desk feeds and gets"; document 02, wish 1), over any answers g for hidden and up at one instant.
use Rattle.std.specs.Prelude.{ℕ, ◌+◌, ◌-◌, ◌/◌, ◌%◌, ◌<◌, ◌≡◌, Bool, true, false, cond, not, ◌&&◌, ◌||◌, eqb}
use Rattle.std.specs.Bool.{beq}
use Rattle.geometry.specs.declared.Sight.{Sight}
use Rattle.finder.specs.declared.Window.{Window}
use Rattle.finder.specs.Spans.{Span}

-- two answers differ
abbrev pub differ : Bool → Bool → Bool
differ x y = not (beq x y)

-- `h` if the hidden answer differs between two instants, `u` if the up answer differs; both may be set
unfoldable pub differing : ℕ → ℕ → Sight → Sight → ℕ
differing h u a b = cond (differ a.hidden b.hidden) h 0 + cond (differ a.up b.up) u 0

-- flag 1: first = t0. Else 4 and 8, between first − 1 and first; where first = t0 these two stay 0
unfoldable pub first_flags : (ℕ → Sight) → Window → ℕ → ℕ
first_flags g w first = cond (eqb first w.t0) 1 (differing 4 8 (g (first - 1)) (g first))

-- flag 2: last = t1. Else 16 and 32, between last and last + 1; where last = t1 these two stay 0
unfoldable pub last_flags : (ℕ → Sight) → Window → ℕ → ℕ
last_flags g w last = cond (eqb last w.t1) 2 (differing 16 32 (g last) (g (last + 1)))

-- those of an interval: at its first, and at its last
unfoldable pub flags_of : (ℕ → Sight) → Window → Span → ℕ
flags_of g w s = first_flags g w s.first + last_flags g w s.last

-- ---- read back

-- whether the flags have a bit
unfoldable pub has : ℕ → ℕ → Bool
has bit flags = eqb ((flags / bit) % 2) 1

-- each of the six bits is set exactly where documents 01 and 02 say, and no other is
pub record Says (g : ℕ → Sight) (w : Window) (s : Span) (flags : ℕ) : Type 0 where
  pub from_start : has 1 flags ≡ eqb s.first w.t0
  pub to_end : has 2 flags ≡ eqb s.last w.t1
  pub first-hidden : has 4 flags ≡ (not (eqb s.first w.t0) && differ (g (s.first - 1)).hidden (g s.first).hidden)
  pub first-up : has 8 flags ≡ (not (eqb s.first w.t0) && differ (g (s.first - 1)).up (g s.first).up)
  pub last-hidden : has 16 flags ≡ (not (eqb s.last w.t1) && differ (g s.last).hidden (g (s.last + 1)).hidden)
  pub last_up : has 32 flags ≡ (not (eqb s.last w.t1) && differ (g s.last).up (g (s.last + 1)).up)
  pub no_more : flags < 64

-- an end that the window does not cut, with a bit for hidden and one for up: one of them is set or both, and to question 1 exactly hidden's
abbrev pub Why : ℕ → Bool → Bool → Type 0
Why question hidden up = ((hidden || up) ≡ true) × (question ≡ 1 → (hidden ≡ true) × (up ≡ false))
