-- What is put is no Settled, so that the jobs stay sound; and the intent of an attempt makes no notice.
use Rattle.std.proofs.Common.{arith}
use Rattle.executor.proofs.CommitLemmas.{may_put, put_works}
use Rattle.executor.proofs.RoomLemmas.{intent_quiet}
use Rattle.executor.proofs.manager.Manager.put_unsettled.Goals as goal

pub put-requires-clause-may : goal.put-requires-clause-may
put-requires-clause-may g c = let it = c.requires.may in (it.0, it.1, may_put _ it.0 _ it.2)

pub returns-clause-works : goal.returns-clause-works
returns-clause-works g c = λ H ready may.
    put_works _ _ H c.args.e.now _ _ _ _ (c.put.ensures.works H ready (may_put _ H _ may)) c.put.ensures.jobs may.allowed may.unsettled

pub returns-clause-intent : goal.returns-clause-intent
returns-clause-intent g c = λ t is.
    let it = c.requires.may in
    let few = c.occurrences-table.ensures.few it.0 it.1.keeps in
    c.put.ensures.quiet (intent_quiet _ it.0 c.args.e.now t it.1.keeps (omega (arith, few)) is it.2.allowed c.requires.reserved)
