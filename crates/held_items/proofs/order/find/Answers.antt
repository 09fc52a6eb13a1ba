use Rattle.std.proofs.Common.{◌∙◌}
use Rattle.held_items.proofs.Places.{found}
use Rattle.held_items.proofs.order.find.Goals as goal

pub returns : goal.returns
returns c = λ rises.
    c.item_at.ensures ∙ found c.args.def c.args.items.now c.place_of-at.result rises
    (record { bound = c.place_of-at.ensures.bound; place = c.place_of-at.ensures.place })
