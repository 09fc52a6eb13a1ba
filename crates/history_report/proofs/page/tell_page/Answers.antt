-- The file is read event by event.
use Rattle.std.proofs.Common.{◌∙◌, refl}
use Rattle.history_report.proofs.TellLemmas.{read_on, unread}
use Rattle.history_report.proofs.page.tell_page.Goals as goal
use Rattle.site_traits.specs.Moments.{reads-then}

pub events-init : goal.events-init
events-init g c = (unread _ _ _, refl)

pub returns-in_err-show_event-clause-reads : goal.returns-in_err-show_event-clause-reads
returns-in_err-show_event-clause-reads g c = λ tell.
    reads-then _ _ _ (c.events.invariant.0.reads tell) (c.show_event.ensures.reads tell)

pub events-preserved : goal.events-preserved
events-preserved g c = (
  read_on _ _ _ _ _ _ _ c.events.invariant.0 (λ H is. c.in_ok-show_event.ensures.ready H is (λ wrong. cc))
      c.show_event.ensures.reads,
  c.in_ok-show_event.ensures.counts.stays (λ wrong. cc) ∙ c.events.invariant.1,
)
