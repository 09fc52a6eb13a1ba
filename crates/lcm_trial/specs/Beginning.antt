-- How the manager of a trial begins.
use Rattle.std.specs.Prelude.{[], ◌≡◌}
use Rattle.executor.specs.Managed.{IsReady, Managed}
use Rattle.site_traits.specs.Jobs.{unanswered}
use Rattle.site_traits.specs.Site.{SiteState}
use Rattle.lcm_trial.specs.Stages.{first_history}

-- the manager is number 1, of a journal with no event, which saves nothing
pub record IsMadeBy (m : Managed) (s : SiteState) : Type 0 where
  pub number : m.ledger.manager ≡ 1
  pub saved : m.ledger.saved ≡ 0
  pub ready : IsReady (Unit {0}) m [] s

-- the manager is number 1, of the first history, its journal saves nothing, and nothing was asked of the infrastructure
pub record Begins (m : Managed) (s : SiteState) : Type 0 where
  pub number : m.ledger.manager ≡ 1
  pub saved : m.ledger.saved ≡ 0
  pub ready : IsReady (Unit {0}) m first_history s
  pub jobs : s.jobs ≡ []
  pub answers : s.answers ≡ unanswered
