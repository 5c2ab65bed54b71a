-- The list of a function's values: its length, what stands at each of its places, and so the table's.
use mathlib.Core.Path.{◌≡◌, refl, ◌∙◌, ap, sym}
use Prim.Native.Nat.{ℕ, zero, suc, ◌+◌, ◌<◌, ◌≤◌, suc-le-suc}
use native.Mathlib.Nat.{add-zero, zero-add, add-suc, suc-add, le_of_suc-le-suc, not-suc-le-zero}
use lib.ListN.{get_or, length}
use Rattle.sine.specs.Sine.{segments, entry_at, values_from, sines}

from : (f : ℕ → ℕ) (i n k : ℕ) → k < n → get_or (values_from f i n) k 0 ≡ f (i + k)
from f i zero k h = absurd (not-suc-le-zero h)
from f i (suc n) zero h = ap f (sym (add-zero i))
from f i (suc n) (suc k) h = from f (suc i) n k (le_of_suc-le-suc h) ∙ ap f (suc-add i k ∙ sym (add-suc i k))

at : (f : ℕ → ℕ) (n k : ℕ) → k < n → get_or (values_from f 0 n) k 0 ≡ f k
at f n k h = from f 0 n k h ∙ ap f (zero-add k)

long : (f : ℕ → ℕ) (i n : ℕ) → length (values_from f i n) ≡ n
long f i zero = refl
long f i (suc n) = ap suc (long f (suc i) n)

pub sines-length : length sines ≡ suc segments
unfolding sines
sines-length = long entry_at 0 (suc segments)

pub sines-at : (k : ℕ) → k ≤ segments → get_or sines k 0 ≡ entry_at k
unfolding sines
sines-at k h = at entry_at (suc segments) k (suc-le-suc h)
