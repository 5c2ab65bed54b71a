-- `Sines::entry` meets its contract: the table lent is the list of the rule's values.
use mathlib.Core.Path.{ap, ◌∙◌}
use mathlib.Core.List.{List}
use Prim.Native.Nat.{ℕ}
use native.Mathlib.Omega.{arith}
use lib.ListN.{get_or, length}
use Rattle.sine.proofs.Tabulate.{sines-length, sines-at}
use Rattle.sine.proofs.Sines.entry.Goals as goal

pub bounds-self-k : goal.bounds-self-k
bounds-self-k c = omega (arith, ap length c.args.self.whole, sines-length)

pub returns : goal.returns
returns c =
    let k = c.args.k in
    ap (λ (l : List ℕ). get_or l k 0) c.args.self.whole ∙ sines-at k c.requires
