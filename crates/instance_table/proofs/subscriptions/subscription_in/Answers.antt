use Rattle.std.proofs.Common.{◌∙◌}
use Rattle.instance_table.proofs.Sorted.{found}
use Rattle.instance_table.proofs.subscriptions.subscription_in.Goals as goal

pub returns : goal.returns
returns c = λ rises.
    c.subscription_at.ensures ∙ found (λ r. r.number) c.args.number c.args.rows.now c.subscription_place-at.result rises
    c.subscription_place-at.ensures.bound c.subscription_place-at.ensures.place
