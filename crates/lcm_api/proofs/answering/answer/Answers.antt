-- What was planned is carried out.
use Rattle.std.specs.Result.{IfOk}
use Rattle.std.proofs.Common.{◌≡◌, subst}
use Rattle.executor.specs.Work.{Works}
use Rattle.lcm_api.specs.Answering.{answered}
use Rattle.lcm_api.specs.Planning.{in_room}
use Rattle.lcm_api.specs.declared.record.Planned.{Planned}
use Rattle.lcm_api.specs.declared.record.TheConstants.{MAX_REQUESTED}
use Rattle.executor.specs.Room.{is_full}
use Rattle.lcm_api.proofs.PlanLemmas.{may_carry_out, planned_is}
use Rattle.lcm_api.proofs.answering.answer.Goals as goal

pub carry_out-requires : goal.carry_out-requires
carry_out-requires g c =
    let it = c.requires.ready in
    record { ready = (it.0, it.1, may_carry_out _ _ _ _ (c.in_ok-planned.ensures it.0 it.1.keeps)) }

pub returns-clause-reply : goal.returns-clause-reply
returns-clause-reply g c = λ H keeps.
    let P : Planned → Type 0 = λ p. IfOk c.carry_out.result (λ given. given ≡ (in_room (is_full MAX_REQUESTED
    c.args.manager.now.ledger.saved) H c.args.request.now.last p).reply) in
    subst P (planned_is _ _ _ _ (c.in_ok-planned.ensures H keeps)) (c.carry_out.ensures.reply H keeps)

pub returns-clause-works : goal.returns-clause-works
returns-clause-works g c = λ H ready.
    let P : Planned → Type 0 = λ p. Works g.S.Site.tells c.args.manager.now.ledger.manager H
    (answered (in_room (is_full MAX_REQUESTED c.args.manager.now.ledger.saved) H c.args.request.now.last p) H c.carry_out.result)
    c.carry_out.new.manager (g.S.Site.state c.args.site.now)
    (g.S.Site.state c.carry_out.new.site) in
    let planned = c.in_ok-planned.ensures H ready.keeps in
    subst P (planned_is _ _ _ _ planned) (c.carry_out.ensures.works H ready (may_carry_out _ _ _ _ planned))
