-- The parts are those of the first stage.
use Rattle.std.proofs.Common.{refl}
use Rattle.lcm_trial.specs.declared.trial.Trial.{Trial}
use Rattle.lcm_trial.proofs.TurnLemmas.{first_leads}
use Rattle.lcm_trial.proofs.trial.Trial.new.Goals as goal

pub returns-clause-at : goal.returns-clause-at
returns-clause-at c =
    let t : Trial = record {
      manager = c.in_ok-manager.manager;
      site = c.first_manager.new.site;
      orchestrator = c.in_ok-new.field-0;
      routes = c.in_ok-new-2.field-0;
      drawn = c.args.start;
      requests = 0;
      accepted = 0;
    } in
    first_leads c.args.start t c.in_ok-manager.ensures.begins c.in_ok-new.ensures.answers refl refl refl
