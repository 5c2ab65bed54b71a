-- What an interval behind the others adds to a day: one and its instants there where it touches the day, and nothing elsewhere.
use Prim.Native.Nat.{ℕ, ◌+◌, ◌-◌, ◌*◌, ◌≤◌, ◌<◌, min, max}
use mathlib.Core.Path.{◌≡◌}
use mathlib.Core.Bool.{true, false, cond}
use mathlib.Core.List.{List, [], ◌∷◌, ◌++◌}
use native.Mathlib.Omega.{arith}
use borrow.Author.Tests.{ltb-true, lt-ltb, le-ltb}
use lib.ListN.{length}
use Rattle.finder.specs.Spans.{Span}
use Rattle.finder.specs.Fits.{within, listed}
use Rattle.days.specs.Days.{day_length, day_of, start_of}
use Rattle.days.specs.Counts.{instants_in, instants_under, touches, touching}
use Rattle.days.specs.Given.{bad_span, bad_spans}
use Rattle.days.specs.State.{next_from}
use Rattle.days.proofs.Counting.{count-either, count-within, count_most, bit-most}
use Rattle.days.proofs.Orderly.{apart, listed_more}

-- ---- one interval

module _ (s : Span) (forward : s.first ≤ s.last) (d : ℕ) where
  -- its instants in day d: from the later beginning to the earlier end
  pub under-is : instants_under s d ≡ min (s.last + 1) (day_length * d + day_length) - max s.first (day_length * d)
  unfolding instants_under start_of
  under-is = count-within s forward (day_length * d) day_length

  -- it touches the days from that of its first to that of its last
  pub touch_yes : day_of s.first ≤ d → d ≤ day_of s.last → touches s d ≡ true
  unfolding day_of
  touch_yes from to = lt-ltb 0 (instants_under s d) (omega (arith, under-is))

  -- and no other, where it has no instant
  pub none_before : d < day_of s.first → instants_under s d ≡ 0
  unfolding day_of
  none_before early = omega (arith, under-is)

  pub none_after : day_of s.last < d → instants_under s d ≡ 0
  unfolding day_of
  none_after late = omega (arith, under-is)

  pub touched : touches s d ≡ true → (day_of s.first ≤ d) × (d ≤ day_of s.last)
  unfolding day_of
  touched h = let some : 0 < instants_under s d = ltb-true 0 (instants_under s d) h in (omega (arith, some, under-is), omega (arith, some, under-is))

-- ---- one interval more

pub touching-more : (l : List Span) (s : Span) (d : ℕ) → touching (l ++ s ∷ []) d ≡ touching l d + cond (touches s d) 1 0
unfolding touching
touching-more [] s d = omega arith
touching-more (x ∷ l) s d = omega (arith, touching-more l s d)

module _ (low high : ℕ) (l : List Span) (s : Span) (before : bad_spans low high l ≡ false) (next : bad_span (next_from low l) high s ≡ false) (d : ℕ) where
  pub instants-more : instants_in (l ++ s ∷ []) d ≡ instants_in l d + instants_under s d
  unfolding instants_in instants_under
  instants-more = count-either (listed l) (within s) (listed (l ++ s ∷ [])) (listed_more l s) (λ t on. apart high low l s t before next on) (start_of d) day_length

  -- where it has no instant, the day's two counts stay
  pub stay : instants_under s d ≡ 0 → (touching (l ++ s ∷ []) d ≡ touching l d) × (instants_in (l ++ s ∷ []) d ≡ instants_in l d)
  stay none =
      let no : touches s d ≡ false = le-ltb 0 (instants_under s d) (omega (arith, none)) in
      let bit : ◌≡◌ {A = ℕ} (cond (touches s d) 1 0) 0 = rw no in
      (omega (arith, touching-more l s d, bit), omega (arith, instants-more, none))

-- ---- there are not many

pub touching-most : (l : List Span) (d : ℕ) → touching l d ≤ length l
unfolding touching
touching-most [] d = omega arith
touching-most (s ∷ l) d = omega (arith, bit-most (touches s d), touching-most l d)

pub instants-most : (l : List Span) (d : ℕ) → instants_in l d ≤ day_length
unfolding instants_in
instants-most l d = count_most (listed l) (start_of d) day_length
