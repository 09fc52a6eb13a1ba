-- One piece after the other.
use Rattle.std.proofs.Common.{Err, ap, ◌∙◌}
use Rattle.std.proofs.lemmas.Result.{err_from_is_err_and}
use Rattle.lcm_replies.proofs.TellLemmas.{asks_both, broken_first, tells_both}
use Rattle.lcm_replies.proofs.tell.write_both.Goals as goal

pub returns-clause-told : goal.returns-clause-told
returns-clause-told g c = λ tells. tells_both _ _ _ _ _ _ (c.in_ok-write_all.ensures.told tells) (c.write_all-2.ensures.told tells)

pub returns-in_err-write_all-clause-told : goal.returns-in_err-write_all-clause-told
returns-in_err-write_all-clause-told g c = λ tells.
    let err = err_from_is_err_and c.from_residual.result c.from_residual.ensures.1 in
    rw (err.1 ∙ ap Err err.2) (broken_first _ _ _ _ _ (c.in_err-write_all.ensures.told tells))

pub returns-clause-asks : goal.returns-clause-asks
returns-clause-asks g c = asks_both _ _ _ _ _ _ _ c.in_ok-write_all.ensures.asks c.write_all-2.ensures.asks
