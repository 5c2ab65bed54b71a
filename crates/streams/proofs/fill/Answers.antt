-- `streams::fill` meets its contract: what a read gives stands behind what stood there.
use Rattle.std.proofs.Common.{rules, subst, sym, List, ℕ}
use Rattle.std.specs.Io.KnownBytes.{Consumes}
use Rattle.streams.proofs.Laws.{reads_on, read_more}
use Rattle.streams.proofs.fill.Goals as goal

pub loop-n-preserved : goal.loop-n-preserved
loop-n-preserved g c =
    let i = c.loop-n.invariant in
    let both = reads_on _ _ _ _ _ i.1 c.in_ok-got.ensures.bytes.0 in
    let is = read_more c.loop-n.buf c.read.new.buf _ c.loop-n.n c.in_ok-got.got i.0 c.in_ok-got.ensures.bound.0 in
    (search rules, subst (λ (xs : List ℕ). Consumes (g.R.Read.remaining c.args.input.now) (g.R.Read.remaining c.read.new.self) xs) (sym is) both)
