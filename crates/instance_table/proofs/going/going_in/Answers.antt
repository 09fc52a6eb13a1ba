use Rattle.std.proofs.Common.{◌∙◌}
use Rattle.instance_table.proofs.Sorted.{found}
use Rattle.instance_table.proofs.going.going_in.Goals as goal

pub returns : goal.returns
returns c = λ rises. c.going_at.ensures ∙ found (λ g. g.occ) c.args.occ c.args.going.now c.place_of-at.result rises
    c.place_of-at.ensures.bound c.place_of-at.ensures.place
