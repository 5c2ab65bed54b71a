-- `finder::Finder::list` meets its contract.
use mathlib.Core.Path.{◌∙◌}
use Rattle.std.proofs.Math.Numerals.{add-one}
use Rattle.finder.proofs.Going.{going_start, going_inside, going_along, going_on, at-end, end-found, end_out}
use Rattle.finder.proofs.Finder.list.Goals as goal

pub loop-init : goal.loop-init
loop-init c = going_start _ _ _ _ c.args.self.now.good _ (rw c.answer.ensures at c.then_some-begun.ensures)

pub sample-requires : goal.sample-requires
sample-requires c = going_inside c.args.self.now.good c.loop.invariant

pub advance-s-requires : goal.advance-s-requires
advance-s-requires c = rw c.sample.ensures (going_along c.args.self.now.good c.loop.invariant (rw c.steps-end.ensures at c.loop-test.true) c.requires)

pub loop-preserved : goal.loop-preserved
loop-preserved c =
    rw (c.advance-s.ensures.value, c.sample.ensures, add-one)
    (going_on c.args.self.now.good c.loop.invariant (rw c.steps-end.ensures at c.loop-test.true) _ (rw c.sample.ensures at c.advance-s.ensures.out_after))

pub close-requires : goal.close-requires
close-requires c = at-end c.args.self.now.good c.loop.invariant (rw c.steps-end.ensures at c.loop-test.false) c.requires

pub returns : goal.returns
returns c =
    let good = c.args.self.now.good in
    let none = rw c.steps-end.ensures at c.loop-test.false in
    record {
      value = c.close.ensures.value ∙ end-found good c.loop.invariant none;
      out_after = end_out good c.loop.invariant none _ c.close.ensures.out_after;
    }
