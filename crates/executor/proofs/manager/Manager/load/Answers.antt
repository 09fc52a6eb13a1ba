-- Opening syncs and reads, and judging only reads.
use Rattle.std.proofs.Common.{rules}
use Rattle.executor.proofs.ManagerLemmas.{bad_found, header_found, opened, opens_err, refuses_of, syncs_then}
use Rattle.executor.proofs.manager.Manager.load.Goals as goal

pub returns-in-Some-clause-told : goal.returns-in-Some-clause-told
returns-in-Some-clause-told g c = λ tells. syncs_then _ _ _ (c.open.ensures.told tells) (c.judge_all.ensures.told tells).reads

pub returns-in_err-record-clause-told : goal.returns-in_err-record-clause-told
returns-in_err-record-clause-told g c = λ tells. syncs_then _ _ _ (c.open.ensures.told tells) (c.judge_all.ensures.told tells).reads

pub returns-clause-told : goal.returns-clause-told
returns-clause-told g c = λ tells. syncs_then _ _ _ (c.open.ensures.told tells) (c.judge_all.ensures.told tells).reads

pub returns-in_err-judged-clause-opens : goal.returns-in_err-judged-clause-opens
returns-in_err-judged-clause-opens g c =
    opens_err _ _ c.in_err-judged.field-0.0 _ c.from_residual-in_err-judged.ensures.1
    (λ tells. refuses_of _ _ _ (c.in_err-judged.ensures.told tells).finds)

pub returns-in_err-judged-clause-told : goal.returns-in_err-judged-clause-told
returns-in_err-judged-clause-told g c = λ tells. syncs_then _ _ _ (c.open.ensures.told tells) (c.judge_all.ensures.told tells).reads

pub returns-in-Some-clause-opens : goal.returns-in-Some-clause-opens
returns-in-Some-clause-opens g c = λ tells. bad_found _ _ _ _ _ c.in_ok-judged.ensures.judged c.in-Some.is tells

pub returns-in_err-record-clause-opens : goal.returns-in_err-record-clause-opens
returns-in_err-record-clause-opens g c =
    opens_err _ _ _ _ c.from_residual-in_err-record.ensures.1 (λ tells. header_found _ _ _ _ c.in_ok-judged.ensures.judged tells)

pub returns-clause-opens : goal.returns-clause-opens
returns-clause-opens g c = rw c.finish.ensures.ledger (opened _ _ _ _ c.in_ok-judged.ensures.judged (search rules)
    (rw c.finish.ensures.ledger at c.finish.ensures.adds))
