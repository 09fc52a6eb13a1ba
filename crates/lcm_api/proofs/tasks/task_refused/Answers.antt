-- The state is named.
use Rattle.lcm_api.proofs.TaskLemmas.{names_state}
use Rattle.lcm_api.proofs.tasks.task_refused.Goals as goal

pub returns-in-WrongState : goal.returns-in-WrongState
returns-in-WrongState c = rw c.in-WrongState.is (names_state _ c.in-WrongState.state _ c.args.last c.state_word.ensures
    c.refusal_about.ensures)
