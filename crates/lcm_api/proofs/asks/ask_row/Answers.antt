-- What the manager plans is what the ask comes to.
use Rattle.lcm_api.proofs.AskedLemmas.{asks}
use Rattle.lcm_api.proofs.asks.ask_row.Goals as goal

pub returns-in-Ok : goal.returns-in-Ok
returns-in-Ok g c = λ H keeps.
    let accepted = c.in-Ok.ensures H keeps in
    let number = c.next_occurrence-occ.ensures.number H keeps in
    asks c.asked_events_fit_records.ensures c.plans_are_exact.ensures c.plans_are_small.ensures c.args.manager.now H c.args.now
    c.args.row.now.number c.args.role c.args.ask accepted.vnfd c.args.last
    c.in_ok-reply-in-Ok.reply c.asking.result keeps.kept.legal accepted.accepted c.requires.few
    (rw (number, accepted.planned) at c.asking.ensures)
    (rw (c.number.ensures, number) at c.in_ok-reply-in-Ok.ensures)
