-- The turn leads to the stage behind it.
use Rattle.std.proofs.Common.{arith, refl}
use Rattle.lcm_trial.specs.declared.trial.Trial.{Trial}
use Rattle.lcm_trial.proofs.TurnLemmas.{turned_so}
use Rattle.lcm_trial.proofs.trial.Trial.turn.Goals as goal

pub returns-clause-at : goal.returns-clause-at
returns-clause-at c = λ s at.
    let t : Trial = c.args.self.now in
    let u : Trial = record t {
      manager = c.turn-turned.new.manager;
      site = c.turn-turned.new.site;
      orchestrator = c.turn-turned.new.orchestrator;
    } in
    let vim = c.vim_faults.ensures in
    let no_vim = c.if-vim_faults-gt0.false in
    let faults = c.faults.ensures in
    let no_fault = c.if-faults-gt0.false in
    turned_so s t u c.of.result c.in-Ok.field-0 at c.of.ensures c.in-Ok.ensures.turns
    (c.works_with_jobs_add_up.ensures.leads t.site u.site) (omega (arith, vim, no_vim)) (omega (arith, faults, no_fault))
    (record { drawn = refl; requests = refl; accepted = refl })
