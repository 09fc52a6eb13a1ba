-- What the ask comes to over the holding it comes to after the history.
use Rattle.std.proofs.Common.{sym}
use Rattle.executor.proofs.AskLemmas.{accepted, content_refused, standing_refused}
use Rattle.executor.proofs.asks.plan_over.Goals as goal

pub returns-in-Some : goal.returns-in-Some
returns-in-Some c = λ m H small legal tables asked.
    let row = c.args.row.now in
    content_refused H row.number c.args.vnfd.now row.holding c.args.ask.now c.in-Some.why asked (sym c.in-Some.ensures)

pub returns-in-Err : goal.returns-in-Err
returns-in-Err c = λ m H small legal tables asked.
    let row = c.args.row.now in
    standing_refused m H row.number c.args.vnfd.now row.holding c.is_busy-busy.result c.args.ask.now c.in-Err.why legal small asked
    (c.is_busy-busy.ensures m H legal tables) (sym c.in_default.ensures) (rw c.in-Err.is at c.in_ok-changes.ensures.refused)

pub returns-in-Ok : goal.returns-in-Ok
returns-in-Ok c = λ m H small legal tables asked.
    let row = c.args.row.now in
    accepted m H row.number c.args.vnfd.now row.holding c.is_busy-busy.result c.args.ask.now c.in-Ok.changes legal small asked
    (c.is_busy-busy.ensures m H legal tables) (sym c.in_default.ensures) (rw c.in-Ok.is at c.in_ok-changes.ensures.accepted)
    (rw c.in-Ok.is at c.in_ok-changes.ensures.planned)
