-- The lines grow by one event, and end with all of them, or with a front.
use Rattle.std.proofs.Common.{◌≡◌, ◌+◌, ◌++◌, ◌∙◌, ap, append_assoc, arith, refl, sym}
use Rattle.history_report.proofs.TellLemmas.{append_none, front_so_far, nothing_yet, one_more}
use Rattle.history_report.specs.Telling.{line_at}
use Rattle.history_report.proofs.lines.tell_lines.Goals as goal
use Rattle.history_report.proofs.lines.tell_lines.Goals.{then-len-ge-BLOCK+in_ok-put_text, else-len-ge-BLOCK}
use Rattle.site_traits.specs.Moments.{reads-then}

pub events-init : goal.events-init
events-init g c = rw (c.new-text.ensures.items) (nothing_yet _ _ _ _ _ _, refl)

pub returns-in_err-add_event-clause-front : goal.returns-in_err-add_event-clause-front
returns-in_err-add_event-clause-front g c = λ H is tell hear.
    let count = c.records-count.ensures H is.keeps in
    front_so_far _ _ _ _ _ _ _ _ _ _ _ c.events.invariant.0 H is tell hear (omega (arith, count))

pub returns-in_err-add_event-clause-reads : goal.returns-in_err-add_event-clause-reads
returns-in_err-add_event-clause-reads g c = λ tell.
    reads-then _ _ _ (c.events.invariant.0.reads tell) (c.add_event.ensures.reads tell)

pub returns-in_err-put_text-clause-front : goal.returns-in_err-put_text-clause-front
returns-in_err-put_text-clause-front g c = λ H is tell hear.
    let count = c.records-count.ensures H is.keeps in
    let front = front_so_far _ _ _ _ _ _ _ _ _ _ _ c.events.invariant.0 H is tell hear (omega (arith, count)) in
    (front.0, ap (λ o. o ++ front.0) (c.in_err-put_text.ensures.told hear).kept ∙ front.1)

pub returns-in_err-put_text-clause-reads : goal.returns-in_err-put_text-clause-reads
returns-in_err-put_text-clause-reads g c = λ tell.
    reads-then _ _ _ (c.events.invariant.0.reads tell) (c.add_event.ensures.reads tell)

pub events-preserved : goal.events-preserved
events-preserved g c =
    let put : g.L.Sink.tells
    → g.L.Sink.state c.if-len-ge-BLOCK.out ++ c.if-len-ge-BLOCK.text.items
    ≡ g.L.Sink.state c.events.out ++ c.add_event.new.text.items =
    elim c.if-len-ge-BLOCK.branch [
      | then-len-ge-BLOCK+in_ok-put_text w ↦ (λ hear. rw (w.out-is, w.text-is, w.in_ok-put_text.ensures.cleared)
          (append_none _ ∙ (w.in_ok-put_text.ensures.told hear).put))
      | else-len-ge-BLOCK w ↦ (λ hear. rw (w.out-is, w.text-is) refl)
    ] in
    let out = g.L.Sink.state c.events.out in
    let old = c.events.text.items in (
      one_more _ _ _ _ _ _ _ _ _ _ _ _ _ c.events.invariant.0 c.add_event.ensures.number
          (λ H is. c.in_ok-add_event.ensures.ready H is (λ wrong. cc)) c.add_event.ensures.reads
          (λ H is tell hear.
          let line = line_at c.events.manager.ledger.manager H c.args.chosen (c.events.k + 1) in
          put hear ∙ (ap (λ t. out ++ t) (c.in_ok-add_event.ensures.adds H is tell) ∙ sym (append_assoc out old line)))
          (λ H is. let count = c.records-count.ensures H is.keeps in omega (arith, count)),
      c.in_ok-add_event.ensures.counts.stays (λ wrong. cc) ∙ c.events.invariant.1,
    )
