-- The event that is read back is the one at its place.
use Rattle.std.proofs.Common.{◌++◌, ◌∙◌, ap, sym}
use Rattle.history_report.proofs.TellLemmas.{line_read}
use Rattle.history_report.specs.Telling.{line_of}
use Rattle.history_report.proofs.lines.add_event.Goals as goal

pub returns-clause-adds : goal.returns-clause-adds
returns-clause-adds g c = λ H ready tell.
    let again = c.in_ok-event.ensures.ready H ready (λ wrong. cc) in
    let found = (c.in_ok-event.ensures.reads H ready tell).event in
    let e = c.in_ok-event.event in
    c.in_ok-add_chosen.ensures H again.keeps
    ∙ (ap (λ m. c.args.text.now.items ++ line_of m H c.args.chosen c.args.n e) c.event_at.ensures.number
    ∙ ap (λ t. c.args.text.now.items ++ t) (sym (line_read _ H c.args.chosen c.args.n e found)))
