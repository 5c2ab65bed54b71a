-- What is said of a guess, and of where the search goes on from it: for the contracts of private functions, no rule of document 01.
use Rattle.std.specs.Prelude.{◌≡◌, ℕ, ◌+◌, ◌-◌, ◌^◌, ◌≤◌, ◌<◌}
use Rattle.halving.specs.Halving.{halve}
use Rattle.halving.specs.Foretold.{cell_of}
use Rattle.angle.specs.Turn.{turn}
use Rattle.kepler.specs.declared.Bracket.{Bracket}
use Rattle.kepler.specs.Kepler.{reached, search_of}

-- below a whole turn, as a guess and M are, being a u32 each
abbrev pub InTurn : ℕ → Type 0
InTurn g = g < turn

-- how many halvings may be left
abbrev pub Halvings : ℕ → Type 0
Halvings s = s ≤ 32

-- the cell of 2^s units that holds g
abbrev pub cell_at : ℕ → ℕ → Bracket
cell_at g s = record { low = cell_of g s; high = cell_of g s + 2 ^ s }

-- the search makes its last s halvings in this bracket of 2^s units
pub record GoesOn (e M s : ℕ) (b : Bracket) : Type 0 where
  pub few : Halvings s
  pub wide : b.high ≡ b.low + 2 ^ s
  pub within : b.high ≤ turn
  pub rest : halve (reached e M) s b.low b.high (32 - s) ≡ search_of e M

-- for some s
abbrev pub GoesOnIn : ℕ → ℕ → Bracket → Type 0
GoesOnIn e M b = (s : ℕ) × GoesOn e M s b
