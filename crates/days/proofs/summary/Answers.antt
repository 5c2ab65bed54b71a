-- `days::summary` meets its contract: the job's own refusal, or what the window gives.
use mathlib.Core.Path.{sym, ◌∙◌}
use lib.Seq.{sets}
use Rattle.std.proofs.lemmas.Result.{err_from_is_err_and}
use Rattle.days.specs.Summary.{summary_of}
use Rattle.days.specs.Given.{spans_of, bad_list}
use Rattle.job.proofs.Admits.{admitted_good}
use Rattle.days.proofs.Cases.{away, let_in}
use Rattle.days.specs.Totals.{totals_of, summary_after_of}
use Rattle.days.proofs.summary.Goals as goal

pub returns-in_err-w : goal.returns-in_err-w
unfolding totals_of summary_after_of
returns-in_err-w c =
    let a = c.args in
    let p = err_from_is_err_and c.from_residual.result c.from_residual.ensures.1 in
    let told = away a.s.now a.out.now (λ v. bad_list v a.list.now) (λ v. sets a.out.now 0 (summary_of v (spans_of a.list.now))) _ (sym c.admit.ensures ∙ c.in_err-w.was) in
    rw (p.1, p.2) (record { value = told.0; out_after = told.1 })

pub summary_in-requires : goal.summary_in-requires
summary_in-requires c = (admitted_good _ (sym c.admit.ensures ∙ c.in_ok-w.was)).1

pub returns : goal.returns
unfolding totals_of summary_after_of
returns c =
    let a = c.args in
    let told = let_in a.s.now a.out.now (λ v. bad_list v a.list.now) (λ v. sets a.out.now 0 (summary_of v (spans_of a.list.now))) _ _ _ (sym c.admit.ensures ∙ c.in_ok-w.was) c.summary_in.ensures.value c.summary_in.ensures.out_after in
    record { value = told.0; out_after = told.1 }
