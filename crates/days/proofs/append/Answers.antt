-- `days::append` meets its contract: the job's own refusal, or what the window gives.
use mathlib.Core.Path.{sym, ◌∙◌}
use Prim.Native.Nat.{◌*◌}
use lib.ListN.{take}
use Rattle.std.proofs.lemmas.Result.{err_from_is_err_and}
use Rattle.days.specs.Days.{days_of}
use Rattle.days.specs.Summary.{updated}
use Rattle.days.specs.Given.{span_at, spans_of, bad_append}
use Rattle.job.proofs.Admits.{admitted_good}
use Rattle.days.proofs.Cases.{away, let_in}
use Rattle.days.specs.Totals.{append_of, append_after}
use Rattle.days.proofs.append.Goals as goal

pub returns-in_err-w : goal.returns-in_err-w
unfolding append_of append_after
returns-in_err-w c =
    let a = c.args in
    let p = err_from_is_err_and c.from_residual.result c.from_residual.ensures.1 in
    let told = away a.s.now a.out.now (λ v. bad_append v a.list.now a.piece.now (take (16 * days_of v) a.out.now)) (λ v. updated v (spans_of a.list.now) (span_at a.piece.now 0) a.out.now) _ (sym c.admit.ensures ∙ c.in_err-w.was) in
    rw (p.1, p.2) (record { value = told.0; out_after = told.1 })

pub append_in-requires : goal.append_in-requires
append_in-requires c = (admitted_good _ (sym c.admit.ensures ∙ c.in_ok-w.was)).1

pub returns : goal.returns
unfolding append_of append_after
returns c =
    let a = c.args in
    let told = let_in a.s.now a.out.now (λ v. bad_append v a.list.now a.piece.now (take (16 * days_of v) a.out.now)) (λ v. updated v (spans_of a.list.now) (span_at a.piece.now 0) a.out.now) _ _ _ (sym c.admit.ensures ∙ c.in_ok-w.was) c.append_in.ensures.value c.append_in.ensures.out_after in
    record { value = told.0; out_after = told.1 }
