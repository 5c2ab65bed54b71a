-- The sum of all days' instants is the instants of the list: the days lie one behind the other, and the intervals apart inside them.
use Prim.Native.Nat.{ℕ, zero, suc, ◌+◌, ◌*◌, ◌≤◌, ◌<◌}
use mathlib.Core.Path.{◌≡◌, refl, sym, ap, ◌∙◌}
use mathlib.Core.Bool.{true, false}
use mathlib.Core.List.{List, [], ◌∷◌}
use native.Mathlib.Omega.{arith}
use borrow.Author.Tests.{leb-true}
use lib.Dec.{leb}
use Rattle.finder.specs.declared.Window.{Window}
use Rattle.finder.specs.Samples.{Good}
use Rattle.finder.specs.Spans.{Span}
use Rattle.finder.specs.Fits.{InOrder, within, listed}
use Rattle.finder.proofs.Fits.{before}
use Rattle.days.specs.Days.{day_length, day_of, start_of, days_between, days_of}
use Rattle.days.specs.Counts.{count_of, instants_in, sum_from, instants_listed}
use Rattle.days.proofs.Counting.{count_none, count-either, count-within, count_add}
use Rattle.days.proofs.Bools.{both}

next_start : (d : ℕ) → start_of (suc d) ≡ start_of d + day_length
unfolding start_of
next_start d = omega arith

-- the days one behind the other
sum-days : (l : List Span) (d n : ℕ) → sum_from l d n ≡ count_of (listed l) (start_of d) (day_length * n)
unfolding sum_from instants_in count_of
sum-days l d zero = refl
sum-days l d (suc n) =
    let more : day_length * suc n ≡ day_length + day_length * n = omega arith in
    ap (λ (k : ℕ). count_of (listed l) (start_of d) day_length + k) (sum-days l (suc d) n ∙ ap (λ (k : ℕ). count_of (listed l) k (day_length * n)) (next_start d))
    ∙ sym (count_add (listed l) (start_of d) day_length (day_length * n))
    ∙ ap (count_of (listed l) (start_of d)) (sym more)

-- intervals inside a stretch of instants have all their instants there
listed-count : (low high a n : ℕ) (l : List Span) → InOrder low l high → a ≤ low → high < a + n → count_of (listed l) a n ≡ instants_listed l
unfolding listed instants_listed
listed-count low high a n [] o from to = count_none (listed []) a n (λ t. refl)
listed-count low high a n (s ∷ l) o from to =
    let apart : (t : ℕ) → within s t ≡ true → listed l t ≡ false = λ t on. before (s.last + 2) high l t o.3 (omega (arith, leb-true t s.last (both (leb s.first t) (leb t s.last) on).1)) in
    count-either (within s) (listed l) (listed (s ∷ l)) (λ t. refl) apart a n
    ∙ omega (arith, count-within s o.1 a n, listed-count (s.last + 2) high a n l o.3 (omega (arith, o.0, o.1)) to, o.0, o.1, o.2)

pub sum-all : (w : Window) (l : List Span) → Good w → InOrder w.t0 l w.t1 → sum_from l (day_of w.t0) (days_of w) ≡ instants_listed l
unfolding start_of day_of days_between
sum-all w l good o = sum-days l (day_of w.t0) (days_of w) ∙ listed-count w.t0 w.t1 (start_of (day_of w.t0)) (day_length * days_of w) l o (omega arith) (omega (arith, good.window))
