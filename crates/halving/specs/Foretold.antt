-- What is said of a search that another answer foretells: for its laws (proofs/Foretold.antt, proofs/Cells.antt) and for contracts of private functions, no rule of document 01.
use Rattle.std.specs.Prelude.{ℕ, ◌*◌, ◌/◌, ◌^◌, ◌≤◌, ◌<◌, ◌≡◌, Bool, true, false}

-- f and g tell the same up to `from` and from `to` on, at all points between low and high
pub record Told (f g : ℕ → Bool) (low from to high : ℕ) : Type 0 where
  pub below : (a : ℕ) → low < a → a ≤ from → f a ≡ g a
  pub above : (a : ℕ) → to ≤ a → a < high → f a ≡ g a

-- the low end of the cell that holds x, where the cells are 2^s long and begin at 0
abbrev pub cell_of : ℕ → ℕ → ℕ
cell_of x s = x / 2 ^ s * 2 ^ s

-- f says yes at every point up to m that a search from 0 may ask
abbrev pub YesUpTo : (ℕ → Bool) → ℕ → Type 0
YesUpTo f m = (a : ℕ) → 0 < a → a ≤ m → f a ≡ true

-- f says no at every point from m on that a search up to high may ask
abbrev pub NoFrom : (ℕ → Bool) → ℕ → ℕ → Type 0
NoFrom f m high = (a : ℕ) → m ≤ a → a < high → f a ≡ false
