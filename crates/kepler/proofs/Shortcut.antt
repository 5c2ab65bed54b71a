-- Where the search goes on from a guess: in a cell outside of which all is settled; and from 0 to a turn there is no outside.
use mathlib.Core.Path.{◌≡◌, refl, ap, ◌∙◌}
use Prim.Native.Nat.{ℕ, ◌+◌, ◌-◌, ◌^◌, ◌≤◌, ◌<◌}
use native.Mathlib.Omega.{arith}
use lib.Dec.{lit≤}
use lib.Pow.{pow_pos}
use Rattle.halving.specs.Foretold.{cell_of, YesUpTo, NoFrom}
use Rattle.halving.specs.declared.Edge.{Edge}
use Rattle.halving.specs.Halving.{halve}
use Rattle.halving.proofs.Laws.{ends, uncounted}
use Rattle.halving.proofs.Cells.{cell-within, from_cell}
use Rattle.angle.specs.Turn.{turn}
use Rattle.kepler.specs.declared.Bracket.{Bracket}
use Rattle.kepler.specs.Kepler.{reached, search_of, kepler_of}
use Rattle.kepler.specs.Shortcut.{InTurn, Halvings, cell_at, GoesOn}

module _ (g s : ℕ) (h : InTurn g) (l : Halvings s) where
  all : 32 - s + s ≡ 32
  all = omega arith

  cell_in_turn : cell_of g s + 2 ^ s ≤ turn
  cell_in_turn = rw all at (cell-within g s (32 - s) (rw all h))

  -- of a bracket that is the cell
  module _ {b : Bracket} (is : b ≡ cell_at g s) where
    low-is : b.low ≡ cell_of g s
    low-is = ap (λ (v : Bracket). v.low) is

    high_is : b.high ≡ cell_of g s + 2 ^ s
    high_is = ap (λ (v : Bracket). v.high) is

    pub goes_on : (e M : ℕ) → YesUpTo (reached e M) b.low → NoFrom (reached e M) b.high turn → GoesOn e M s b
    unfolding search_of
    goes_on e M lower upper =
        let rest = from_cell (reached e M) g s (32 - s) (rw all h) (rw low-is at lower) (rw (all, ← high_is) upper) in
        record { few = l; wide = rw (low-is, high_is); within = rw high_is cell_in_turn; rest = rw (low-is, high_is) (rw all at rest) }

-- the whole search
pub whole : (e M : ℕ) → GoesOn e M 32 (record { low = 0; high = turn })
unfolding search_of
whole e M = record { few = lit≤ tt; wide = refl; within = lit≤ tt; rest = refl }

-- what a search in that bracket finds, which counts its halvings from 0
pub found : {e M s : ℕ} {b : Bracket} {r : Edge} → GoesOn e M s b → r ≡ halve (reached e M) s b.low b.high 0 → (r.low ≡ kepler_of e M) × (r.low < turn)
unfolding kepler_of
found {e} {M} {s} {b} {r} c is =
    let f = reached e M in
    let low : Edge → ℕ = λ v. v.low in
    let end = ends f s b.low b.high 0 (omega (arith, c.wide, pow_pos s)) (omega (arith, c.wide)) in
    (ap low is ∙ (uncounted f s b.low b.high 0 (32 - s)).0 ∙ ap low c.rest, rw is (omega (arith, end.neighbours, end.to, c.within)))
