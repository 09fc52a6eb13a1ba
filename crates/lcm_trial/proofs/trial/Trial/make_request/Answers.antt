-- The answer leads to the stage behind the request.
use Rattle.std.proofs.Common.{◌≡◌, ◌+◌, refl, subst, sym}
use Rattle.lcm_trial.specs.Playing.{IsAt}
use Rattle.lcm_trial.specs.Stages.{accepted_with, requested}
use Rattle.lcm_trial.specs.declared.trial.Trial.{Trial}
use Rattle.lcm_trial.proofs.TurnLemmas.{answered_so, on_ok}
use Rattle.lcm_trial.proofs.trial.Trial.make_request.Goals as goal

pub returns-clause-at : goal.returns-clause-at
returns-clause-at c = λ s at.
    let t : Trial = c.args.self.now in
    let v : Trial = record t {
      manager = c.answer-answered.new.manager;
      site = c.answer-answered.new.site;
      requests = t.requests + 1;
      accepted = accepted_with c.in-Ok.reply.status t.accepted;
    } in
    let P : Trial → Type 0 = λ x. IsAt (requested s c.args.request.now) x in
    on_ok c.count.result (λ (same : c.count.new.self ≡ v).
    subst P (sym same)
    (answered_so s t v c.of.result c.args.request.now c.in-Ok.reply at c.of.ensures c.in-Ok.ensures.reply c.in-Ok.ensures.works
    (c.works_add_up.ensures.leads t.site v.site) c.in-Ok.ensures.saved refl
    (record { drawn = refl; requests = refl; accepted = refl }))) c.count.ensures.counts
