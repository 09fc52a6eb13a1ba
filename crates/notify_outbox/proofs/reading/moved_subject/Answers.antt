-- The row of an occurrence says what its operation is.
use Rattle.std.proofs.Common.{Some, ap, sym, ◌∙◌}
use Rattle.lcm_events.specs.declared.asks.OpKind.{OpKind}
use Rattle.lcm_model.specs.Work.{window}
use Rattle.notice_views.specs.declared.notices.Subject.TheVariants as about
use Rattle.notify_outbox.proofs.NoticeLemmas.{moved_is, moved_none}
use Rattle.notify_outbox.proofs.reading.moved_subject.Goals as goal

pub returns-in-Some : goal.returns-in-Some
returns-in-Some c = λ m H legal table.
    let found = c.in-Some.ensures.looks window m H legal table.rows in
    ap (λ (k : OpKind). Some (about.Occurrence c.args.occ c.in-Some.row.now.instance k c.args.to)) c.kind.ensures
    ∙ moved_is H c.args.occ c.in-Some.row.now c.args.to (sym found)

pub returns-in-None : goal.returns-in-None
returns-in-None c = λ m H legal table. moved_none H c.args.occ c.args.to (sym (c.in-None.ensures.looks window m H legal table.rows))
