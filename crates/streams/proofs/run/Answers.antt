-- `streams::run` meets its contract: each turn goes on from the one before.
use Rattle.std.proofs.Common.{arith, rules, of_calls, refl, ◌≡◌, length}
use Rattle.std.specs.Prelude.{Ok}
use Rattle.std.proofs.lemmas.Fn.{called_at}
use Rattle.streams.proofs.Turns.{still_short, answered}
use Rattle.streams.proofs.run.Goals as goal

pub loop-turn-preserved-then-whole-eq0 : goal.loop-turn-preserved-then-whole-eq0
loop-turn-preserved-then-whole-eq0 g c =
    let i = c.loop-turn.invariant in
    let was : c.read.result ≡ Ok c.in_ok-got.got = search rules in
    let gave = rw was at c.read.ensures.bytes in
    let fits = rw was at c.read.ensures.bound in
    (search rules, search rules, search rules, still_short (length c.args.buf.now) g.F.FnMut i.3 _ _ c.read.new.buf _ _ (omega arith) fits.0 refl (omega arith) gave.0 (omega arith))

pub loop-turn-preserved : goal.loop-turn-preserved
loop-turn-preserved g c =
    let i = c.loop-turn.invariant in
    let was : c.read.result ≡ Ok c.in_ok-got.got = search rules in
    let gave = rw was at c.read.ensures.bytes in
    let fits = rw was at c.read.ensures.bound in
    let call = called_at g.F.FnMut c.answer-in-loop-turn.ensures c.in_ok-answer-2.was in
    (search of_calls, search rules, search rules, answered (length c.args.buf.now) g.F.FnMut i.3 _ _ c.read.new.buf _ _ (omega arith) fits.0 refl (omega arith) gave.0 _ _ _ (search rules) (search rules) (omega arith) c.keep-kept.ensures.value c.keep-kept.ensures.buf_after call)
