-- What the graph says of the row decides.
use Rattle.std.proofs.Common.{refl}
use Rattle.lcm_api.proofs.TaskLemmas.{none_refuses, refuses_row, takes_row}
use Rattle.lcm_api.proofs.tasks.task_of_row.Goals as goal

pub returns-in_ok-reply-in-Ok : goal.returns-in_ok-reply-in-Ok
returns-in_ok-reply-in-Ok g c = λ H keeps found.
    takes_row c.args.manager.now H c.args.now c.args.n c.args.asked c.args.last c.args.row.now c.in_ok-reply-in-Ok.reply c.task_event.result
    found
    (rw (c.kind.ensures, c.task_of.ensures) at (none_refuses _ _ c.in-Ok.ensures.refused)) c.task_event.ensures
    (λ a asked may. c.in_ok-reply-in-Ok.ensures H a keeps asked found may)

pub returns-in_ok-task_refused-in-Err : goal.returns-in_ok-task_refused-in-Err
returns-in_ok-task_refused-in-Err g c = λ H keeps found.
    refuses_row c.args.manager.now H c.args.now c.args.n c.args.asked c.args.last c.args.row.now c.in-Err.why _ found
    (rw (c.kind.ensures, c.task_of.ensures) at ((c.in-Err.ensures.refused c.in-Err.why).0 refl)) c.in_ok-task_refused-in-Err.ensures
