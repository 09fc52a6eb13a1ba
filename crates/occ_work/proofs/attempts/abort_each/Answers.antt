-- One after the other is aborted.
use Rattle.std.proofs.Common.{[], ◌∷◌, refl}
use Rattle.occ_work.proofs.InquireLemmas.{aborts_more, aborts_none, tags_all, tags_more}
use Rattle.occ_work.proofs.attempts.abort_each.Goals as goal

pub loop-attempt-init : goal.loop-attempt-init
loop-attempt-init g c = ([], refl, aborts_none _ _ _)

pub loop-attempt-preserved : goal.loop-attempt-preserved
loop-attempt-preserved g c =
    let before = c.loop-attempt.invariant in (
      (_, c.abort-answer.result) ∷ before.0,
      tags_more c.args.pending.now c.loop-attempt.attempt-index _ _ c.loop-attempt-test.true before.1,
      aborts_more _ before.0 _ c.abort-answer.result _ _ _ _ _ _ before.2 c.abort-answer.ensures.told c.abort-answer.ensures.cause,
    )

pub returns : goal.returns
returns g c =
    let before = c.loop-attempt.invariant in
    record { aborts = (before.0, tags_all c.args.pending.now c.loop-attempt.attempt-index _ c.loop-attempt-test.false before.1, before.2) }
