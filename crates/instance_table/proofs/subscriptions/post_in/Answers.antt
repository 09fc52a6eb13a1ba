use Rattle.std.proofs.Common.{◌∙◌, refl}
use Rattle.instance_table.specs.Steps.{posted}
use Rattle.instance_table.proofs.Sorted.{changed_one}
use Rattle.instance_table.proofs.subscriptions.post_in.Goals as goal

pub returns-clause-items : goal.returns-clause-items
returns-clause-items c = λ rises.
    c.post_at.ensures.items
    ∙ changed_one (λ r. r.number) c.args.number (posted c.args.number c.args.place c.args.outcome) c.args.rows.now.items
    c.as_slice.result.now c.subscription_place-at.result c.as_slice.ensures.value rises
    (λ r other. rw other refl) c.subscription_place-at.ensures.bound c.subscription_place-at.ensures.place
