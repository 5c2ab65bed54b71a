-- `days::append_in` meets its contract: 11, 12, or the days that the interval touches.
use Prim.Native.Nat.{ℕ, ◌*◌}
use mathlib.Core.Path.{◌≡◌, refl, sym, ◌∙◌}
use mathlib.Core.Bool.{Bool, true, false, not}
use mathlib.Core.List.{List}
use native.Mathlib.Omega.{arith}
use borrow.Author.Tests.{not-true, not-false}
use lib.ListN.{take}
use Rattle.finder.specs.declared.Window.{Window}
use Rattle.finder.specs.Samples.{Good}
use Rattle.days.specs.Days.{days_of}
use Rattle.days.specs.Given.{bad_append}
use Rattle.days.proofs.Cases.{Follows, good-append, answer-short, answer_bad, answer-written}
use Rattle.days.proofs.append_in.Goals as goal

-- what follows is not bad, so it awaits
module _ (w : Window) (list piece out : List ℕ) {n : ℕ} {b : Bool} (g : Good w) (e : n ≡ days_of w) (told : b ≡ not (bad_append w list piece (take (16 * n) out))) where
  good : b ≡ true → bad_append w list piece (take (16 * days_of w) out) ≡ false
  good on = not-true _ (sym (rw e at told) ∙ on)

  bad : b ≡ false → bad_append w list piece (take (16 * days_of w) out) ≡ true
  bad off = not-false _ (sym (rw e at told) ∙ off)

  awaits : b ≡ true → Follows w list piece out
  awaits on = good-append w list piece out g (good on)

pub returns-then-out-used : goal.returns-then-out-used
returns-then-out-used c = record { value = answer-short _ _ _ (omega (arith, c.days-n.ensures.value)); out_after = refl }

pub returns-then-not-follows : goal.returns-then-not-follows
returns-then-not-follows c =
    record { value = answer_bad _ _ _ (omega (arith, c.days-n.ensures.value)) (bad _ _ _ c.args.out.now c.requires c.days-n.ensures.value c.follows.ensures c.if-not-follows.true); out_after = refl }

pub read-requires : goal.read-requires
read-requires c = (awaits _ _ _ c.args.out.now c.requires c.days-n.ensures.value c.follows.ensures c.if-not-follows.false).one

pub add-requires : goal.add-requires
add-requires c = (_, rw (← c.read.ensures) at (awaits _ _ _ c.args.out.now c.requires c.days-n.ensures.value c.follows.ensures c.if-not-follows.false).awaits)

pub returns : goal.returns
returns c =
    let follows = awaits _ _ _ c.args.out.now c.requires c.days-n.ensures.value c.follows.ensures c.if-not-follows.false in
    record {
      value = answer-written _ _ _ c.days-n.ensures.value (omega (arith, c.days-n.ensures.value)) (good _ _ _ c.args.out.now c.requires c.days-n.ensures.value c.follows.ensures c.if-not-follows.false);
      out_after = rw c.read.ensures at (c.add.ensures _ (rw (← c.read.ensures) at follows.awaits));
    }
