-- What was heard is judged and recorded.
use Rattle.std.proofs.Common.{◌∙◌, Err, ap}
use Rattle.std.proofs.lemmas.Result.{err_from_is_err_and}
use Rattle.lcm_mouth.specs.Mouth.{MouthState}
use Rattle.lcm_sessions.proofs.HeardLemmas.{hears_noted, onboards_heard, onboards_unheard}
use Rattle.lcm_sessions.proofs.hearing.onboard_into.Goals as goal

pub returns-clause-onboards : goal.returns-clause-onboards
returns-clause-onboards g c = λ H ready.
    onboards_heard _ _ _ H c.take_in-answer.new.manager c.in_ok-count.count c.of-now.result c.now.result c.hear.new.room
    c.take_in-answer.result _ _
    (hears_noted _ _ _ _ _ _ c.in_ok-count.ensures.heard c.blame.ensures.noted) (c.take_in-answer.ensures.answer H ready.keeps)
    (c.take_in-answer.ensures.works H ready) c.take_in-answer.ensures.saved c.now.ensures.told c.of-now.ensures
    (ap (λ (d : MouthState). d.told) c.blame.ensures.noted ∙ c.hear.ensures.unnoted)

pub returns-in_err-count-clause-onboards : goal.returns-in_err-count-clause-onboards
returns-in_err-count-clause-onboards g c = λ H ready.
    let err = err_from_is_err_and c.from_residual.result c.from_residual.ensures.1 in
    rw (err.1 ∙ ap Err err.2)
    (onboards_unheard _ _ H c.in_err-count.field-0.0 c.hear.new.room _ _ _ _ c.in_err-count.ensures.heard c.hear.ensures.unnoted
    (c.works_add_up.ensures.idles c.args.site.now) ready)
