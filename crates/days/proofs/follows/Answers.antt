-- `days::follows` meets its contract: each cause of refusal 12 by itself.
use mathlib.Core.Path.{refl, sym, ◌∙◌}
use Prim.Native.Nat.{◌*◌}
use lib.ListN.{take}
use Rattle.days.proofs.Cases.{has_room, worked-summary, told_bad, told-good, list_bad, piece_bad, next_bad, else_same}
use Rattle.days.proofs.Sames.{pointwise-same}
use Rattle.days.proofs.follows.Goals as goal
use Rattle.days.proofs.follows.Goals.{then-piece-ne-INTERVAL-via-then-piece-ne-INTERVAL, then-piece-ne-INTERVAL-via-else-piece-ne-INTERVAL+then-is_bad}

pub work_out-requires : goal.work_out-requires
work_out-requires c = has_room _ _ c.requires refl

pub returns-in_default : goal.returns-in_default
returns-in_default c = list_bad _ _ _ _ (told_bad _ _ (sym c.work_out.ensures.value ∙ c.in_default.is))

pub returns-then-piece-ne-INTERVAL : goal.returns-then-piece-ne-INTERVAL
returns-then-piece-ne-INTERVAL c =
    elim c.then-piece-ne-INTERVAL.branch [
      | then-piece-ne-INTERVAL-via-then-piece-ne-INTERVAL w ↦ piece_bad _ _ _ _ w.if-piece-ne-INTERVAL.true
      | then-piece-ne-INTERVAL-via-else-piece-ne-INTERVAL+then-is_bad w ↦
          let told = told-good _ _ _ (sym c.work_out.ensures.value ∙ c.in-Some.is) in
          next_bad _ _ _ _ w.if-piece-ne-INTERVAL.false (rw (w.read.ensures, told.1) at (sym w.is_bad.ensures ∙ w.if-is_bad.true))
    ]

pub returns : goal.returns
returns c =
    let told = told-good _ _ _ (sym c.work_out.ensures.value ∙ c.in-Some.is) in
    let own = worked-summary c.args.w c.args.list.now _ _ c.work_out.ensures.summed_up told.0 c.requires refl c.days-used.ensures.value in
    let good = rw (c.read.ensures, told.1) at (sym c.is_bad.ensures ∙ c.if-is_bad.false) in
    c.eq.ensures ∙ pointwise-same c.args.summary.now (take (16 * c.days-used.result) c.work_out.new.own) ∙ rw own (else_same _ _ _ _ c.if-piece-ne-INTERVAL.false told.0 good)
