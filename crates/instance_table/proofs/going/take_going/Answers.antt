use Rattle.std.proofs.Common.{◌∙◌}
use Rattle.instance_table.proofs.Sorted.{found_at, removed_at}
use Rattle.instance_table.proofs.going.take_going.Goals as goal

pub returns-clause-found : goal.returns-clause-found
returns-clause-found c = λ rises.
    c.take_at.ensures.found
    ∙ found_at (λ g. g.occ) c.args.occ c.args.going.now.items c.as_slice.result.now c.place_of-at.result c.as_slice.ensures.value rises
    c.place_of-at.ensures.bound c.place_of-at.ensures.place

pub returns-clause-items : goal.returns-clause-items
returns-clause-items c = λ rises.
    c.take_at.ensures.items
    ∙ removed_at (λ g. g.occ) c.args.occ c.args.going.now.items c.as_slice.result.now c.place_of-at.result c.take_at.result
    c.as_slice.ensures.value rises c.place_of-at.ensures.bound c.place_of-at.ensures.place
    c.take_at.ensures.found
