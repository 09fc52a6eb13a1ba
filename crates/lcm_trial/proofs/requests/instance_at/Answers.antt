-- The rows are those of the history.
use Rattle.std.proofs.Common.{◌∙◌, List, ap, slice_get}
use Rattle.std.specs.Prelude.{option_map}
use Rattle.instance_table.specs.declared.rows.InstanceRow.{InstanceRow}
use Rattle.lcm_trial.proofs.requests.instance_at.Goals as goal

pub returns : goal.returns
returns g c = λ H keeps.
    c.number_at.ensures
    ∙ ap (λ (rows : List InstanceRow). option_map (λ (r : InstanceRow). r.number) (slice_get rows c.args.place))
    (c.instances-2.ensures.lists H (c.instances.ensures.rows H keeps))
