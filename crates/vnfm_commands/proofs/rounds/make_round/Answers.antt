-- A visit, a turn and deliveries are a round, or the rounds end.
use Rattle.std.proofs.Common.{Err, ap, refl, ◌∙◌}
use Rattle.std.proofs.lemmas.Result.{err_from_is_err_and}
use Rattle.vnfm_commands.specs.Outside.{beside, outside, telling}
use Rattle.vnfm_commands.proofs.DiskLemmas.{disk_last, disk_never, disk_of, fails_never}
use Rattle.vnfm_commands.proofs.RoundLemmas.{has_acted, ready_acted, ready_met, round_halted, round_over, round_posted, turned_behind}
use Rattle.vnfm_commands.proofs.rounds.make_round.Goals as goal

pub take_turn-requires : goal.take_turn-requires
take_turn-requires g c = record {
  ready = ready_met _ c.args.role _ _ _ _ (c.works_add_up.ensures.leads c.args.site.now c.meet.new.site)
      (λ H ready. c.in_ok-meet.ensures.meets H ready) c.requires.ready;
}

pub post_notices-requires : goal.post_notices-requires
post_notices-requires g c =
    let t = telling g.S.Site.tells g.D.Door.tells g.O.Orchestrator.tells g.C.Courier.tells g.K.Clock.tells in
    let w = outside (g.S.Site.state c.args.site.now) (g.S.Site.counts c.args.site.now) c.args.mouth.now
    (g.O.Orchestrator.state c.args.orchestrator.now) (g.O.Orchestrator.counts c.args.orchestrator.now)
    (g.C.Courier.state c.args.courier.now) (g.C.Courier.counts c.args.courier.now) (g.K.Clock.state c.args.clock.now) in
    let u = outside (g.S.Site.state c.meet.new.site) (g.S.Site.counts c.meet.new.site) c.meet.new.mouth
    (g.O.Orchestrator.state c.args.orchestrator.now) (g.O.Orchestrator.counts c.args.orchestrator.now)
    (g.C.Courier.state c.args.courier.now) (g.C.Courier.counts c.args.courier.now) (g.K.Clock.state c.meet.new.clock) in
    let v = outside (g.S.Site.state c.take_turn.new.site) (g.S.Site.counts c.take_turn.new.site) c.meet.new.mouth
    (g.O.Orchestrator.state c.take_turn.new.orchestrator) (g.O.Orchestrator.counts c.take_turn.new.orchestrator)
    (g.C.Courier.state c.args.courier.now) (g.C.Courier.counts c.args.courier.now) (g.K.Clock.state c.now.new.self) in
    let it = c.requires.ready in
    record {
      ready = ready_acted t c.args.role _ _ it.0 c.now.result _ w v
          (c.works_with_jobs_add_up.ensures.leads c.args.site.now c.take_turn.new.site)
          (has_acted t c.args.role _ _ it.0 c.now.result _ _ w u v
          (c.works_with_jobs_add_up.ensures.joins c.args.site.now c.meet.new.site c.take_turn.new.site)
          (c.what_was_told_of_stays.ensures.joins c.args.site.now c.meet.new.site c.take_turn.new.site)
          (turned_behind t c.args.role c.args.manager.now _ _ c.now.result c.of-now.result _ _ w u v
          (c.works_add_up.ensures.leads c.args.site.now c.meet.new.site)
          (c.works_with_jobs_add_up.ensures.works c.args.site.now c.meet.new.site) c.in_ok-meet.ensures.disk refl refl refl refl
          c.now.ensures.told c.of-now.ensures (λ H ready. c.in_ok-meet.ensures.meets H ready)
          (λ H ready. c.in_ok-take_turn.ensures.turns H ready) it.0 it.1));
    }

pub returns-in_err-meet-clause-makes : goal.returns-in_err-meet-clause-makes
returns-in_err-meet-clause-makes g c = λ H ready.
    let err = err_from_is_err_and c.from_residual.result c.from_residual.ensures.1 in
    let it = c.in_err-meet.ensures.meets H ready in
    let behind = outside (g.S.Site.state c.meet.new.site) (g.S.Site.counts c.meet.new.site) c.meet.new.mouth
    (g.O.Orchestrator.state c.args.orchestrator.now) (g.O.Orchestrator.counts c.args.orchestrator.now)
    (g.C.Courier.state c.args.courier.now) (g.C.Courier.counts c.args.courier.now) (g.K.Clock.state c.meet.new.clock) in
    rw (err.1 ∙ ap Err err.2)
    (round_over _ _ _ H c.args.role _ _ it.0 _ _ behind (c.works_with_jobs_add_up.ensures.works c.args.site.now c.meet.new.site) it.1 it.2
    it.3 c.in_err-meet.ensures.disk refl refl
    (λ is. ap (λ s. (beside (outside (g.S.Site.state s) (g.S.Site.counts s) c.meet.new.mouth
    (g.O.Orchestrator.state c.args.orchestrator.now) (g.O.Orchestrator.counts c.args.orchestrator.now)
    (g.C.Courier.state c.args.courier.now) (g.C.Courier.counts c.args.courier.now) (g.K.Clock.state c.meet.new.clock))).around)
    (c.in_err-meet.ensures.untouched (ap Err is))))

pub returns-in_err-take_turn-clause-makes : goal.returns-in_err-take_turn-clause-makes
returns-in_err-take_turn-clause-makes g c = λ H ready.
    let err = err_from_is_err_and c.from_residual-in_err-take_turn.result c.from_residual-in_err-take_turn.ensures.1 in
    let u = outside (g.S.Site.state c.meet.new.site) (g.S.Site.counts c.meet.new.site) c.meet.new.mouth
    (g.O.Orchestrator.state c.args.orchestrator.now) (g.O.Orchestrator.counts c.args.orchestrator.now)
    (g.C.Courier.state c.args.courier.now) (g.C.Courier.counts c.args.courier.now) (g.K.Clock.state c.meet.new.clock) in
    rw (err.1 ∙ ap Err err.2)
    (round_halted _ c.args.role _ _ H c.now.result _ _ _ _ u _
    (c.works_with_jobs_add_up.ensures.joins c.args.site.now c.meet.new.site c.take_turn.new.site)
    (c.what_was_told_of_stays.ensures.joins c.args.site.now c.meet.new.site c.take_turn.new.site)
    (turned_behind _ c.args.role c.args.manager.now _ _ c.now.result c.of-now.result _ _ _ u _
    (c.works_add_up.ensures.leads c.args.site.now c.meet.new.site)
    (c.works_with_jobs_add_up.ensures.works c.args.site.now c.meet.new.site) c.in_ok-meet.ensures.disk refl refl refl refl
    c.now.ensures.told c.of-now.ensures (λ G now. c.in_ok-meet.ensures.meets G now)
    (λ G now. c.in_err-take_turn.ensures.turns G now) H ready))

pub returns-clause-makes : goal.returns-clause-makes
returns-clause-makes g c = λ H ready.
    let u = outside (g.S.Site.state c.meet.new.site) (g.S.Site.counts c.meet.new.site) c.meet.new.mouth
    (g.O.Orchestrator.state c.args.orchestrator.now) (g.O.Orchestrator.counts c.args.orchestrator.now)
    (g.C.Courier.state c.args.courier.now) (g.C.Courier.counts c.args.courier.now) (g.K.Clock.state c.meet.new.clock) in
    let v = outside (g.S.Site.state c.take_turn.new.site) (g.S.Site.counts c.take_turn.new.site) c.meet.new.mouth
    (g.O.Orchestrator.state c.take_turn.new.orchestrator) (g.O.Orchestrator.counts c.take_turn.new.orchestrator)
    (g.C.Courier.state c.args.courier.now) (g.C.Courier.counts c.args.courier.now) (g.K.Clock.state c.now.new.self) in
    round_posted _ c.args.role _ _ H c.now.result c.of-now.result _ _ _ _ _ v _
    (c.works_with_jobs_add_up.ensures.leads c.args.site.now c.take_turn.new.site)
    (c.works_with_jobs_add_up.ensures.joins c.args.site.now c.take_turn.new.site c.post_notices.new.site)
    (c.what_was_told_of_stays.ensures.joins c.args.site.now c.take_turn.new.site c.post_notices.new.site)
    (c.works_with_jobs_add_up.ensures.works c.take_turn.new.site c.post_notices.new.site) c.post_notices.ensures.disk refl refl refl
    c.of-now.ensures
    (has_acted _ c.args.role _ _ H c.now.result _ _ _ u v
    (c.works_with_jobs_add_up.ensures.joins c.args.site.now c.meet.new.site c.take_turn.new.site)
    (c.what_was_told_of_stays.ensures.joins c.args.site.now c.meet.new.site c.take_turn.new.site)
    (turned_behind _ c.args.role c.args.manager.now _ _ c.now.result c.of-now.result _ _ _ u v
    (c.works_add_up.ensures.leads c.args.site.now c.meet.new.site)
    (c.works_with_jobs_add_up.ensures.works c.args.site.now c.meet.new.site) c.in_ok-meet.ensures.disk refl refl refl refl
    c.now.ensures.told c.of-now.ensures (λ G now. c.in_ok-meet.ensures.meets G now)
    (λ G now. c.in_ok-take_turn.ensures.turns G now) H ready))
    (λ G now. c.post_notices.ensures.posts G now)

pub returns-in_err-meet-clause-disk : goal.returns-in_err-meet-clause-disk
returns-in_err-meet-clause-disk g c =
    let err = err_from_is_err_and c.from_residual.result c.from_residual.ensures.1 in
    rw (err.1 ∙ ap Err err.2) (disk_of _ _ _ c.in_err-meet.ensures.disk)

pub returns-in_err-take_turn-clause-disk : goal.returns-in_err-take_turn-clause-disk
returns-in_err-take_turn-clause-disk g c =
    let err = err_from_is_err_and c.from_residual-in_err-take_turn.result c.from_residual-in_err-take_turn.ensures.1 in
    rw (err.1 ∙ ap Err err.2)
    (disk_last _ _ _ _ (disk_of _ _ _ (fails_never _ ⊥ _ _ c.in_ok-meet.ensures.disk (λ wrong. cc wrong) (λ never. never)))
    c.in_err-take_turn.ensures.disk)

pub returns-clause-disk : goal.returns-clause-disk
returns-clause-disk g c =
    disk_last _ _ _ _ (disk_last ⊥ _ _ _
    (disk_of _ _ _ (fails_never _ ⊥ _ _ c.in_ok-meet.ensures.disk (λ wrong. cc wrong) (λ never. never)))
    (disk_never _ ⊥ _ _ c.in_ok-take_turn.ensures.disk (λ wrong. cc wrong) (λ never. never)))
    (disk_of _ _ _ c.post_notices.ensures.disk)
