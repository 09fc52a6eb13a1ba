use Rattle.std.proofs.Common.{◌∙◌, refl}
use Rattle.instance_table.specs.Steps.{placed}
use Rattle.instance_table.proofs.Sorted.{changed_one}
use Rattle.instance_table.proofs.going.place_in.Goals as goal

pub returns-clause-items : goal.returns-clause-items
returns-clause-items c = λ rises.
    c.place_at.ensures.items
    ∙ changed_one (λ g. g.occ) c.args.occ (placed c.args.occ c.args.placing) c.args.going.now.items c.as_slice.result.now
    c.place_of-at.result c.as_slice.ensures.value rises
    (λ g other. rw other refl) c.place_of-at.ensures.bound c.place_of-at.ensures.place
