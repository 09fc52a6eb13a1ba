-- The orchestrator is called, or there is no memory for it.
use Rattle.std.proofs.Common.{Err, ap, ◌∙◌}
use Rattle.std.proofs.lemmas.Result.{err_from_is_err_and}
use Rattle.occ_work.proofs.ActLemmas.{disk_of, exchanging_act, starved_act}
use Rattle.occ_work.proofs.acts.exchange.Goals as goal

pub returns-in_err-heard-clause-acts : goal.returns-in_err-heard-clause-acts
returns-in_err-heard-clause-acts g c = λ H ready is next.
    let err = err_from_is_err_and c.from_residual.result c.from_residual.ensures.1 in
    rw (err.1 ∙ ap Err err.2)
    (starved_act _ _ _ H _ c.args.asking _ _ _ _ (c.works_add_up.ensures.idles c.args.site.now) ready next)

pub returns-in_err-ended-clause-acts : goal.returns-in_err-ended-clause-acts
returns-in_err-ended-clause-acts g c = λ H ready is next.
    let err = err_from_is_err_and c.from_residual-in_err-ended.result c.from_residual-in_err-ended.ensures.1 in
    rw (err.1 ∙ ap Err err.2, c.in_err-ended.ensures.none)
    (starved_act _ _ _ H _ c.args.asking _ _ _ _ (c.works_add_up.ensures.idles c.args.site.now) ready next)

pub returns-clause-acts : goal.returns-clause-acts
returns-clause-acts g c = λ H ready is next.
    let called = c.in_ok-ended.ensures.called H ready.keeps is next in
    exchanging_act _ _ _ _ H _ c.args.asking called.0 _ _ _ _ _ _ _ _ _ _ _ _ _ next called.1 called.2
    c.take.ensures.jobs c.take.ensures.disk (c.take.ensures.records H ready is next) (c.take.ensures.ended H ready is)

pub returns-clause-disk : goal.returns-clause-disk
returns-clause-disk g c = disk_of _ _ _ c.take.ensures.disk
