-- The rows are those of the history.
use Rattle.std.proofs.Common.{◌≡◌, List, length, subst}
use Rattle.std.specs.Prelude.{IfOk, sum_by}
use Rattle.instance_table.specs.declared.rows.InstanceRow.{InstanceRow}
use Rattle.lcm_trial.specs.Trial.{standing}
use Rattle.lcm_trial.proofs.fates.standing.Goals as goal

pub returns : goal.returns
unfolding standing
returns g c = λ H keeps.
    let P : List InstanceRow → Type 0 = λ rows. IfOk c.standing_in.result (λ n. n ≡ sum_by (λ r. length r.holding.items) rows) in
    subst P (c.instances-2.ensures.lists H (c.instances.ensures.rows H keeps)) c.standing_in.ensures
