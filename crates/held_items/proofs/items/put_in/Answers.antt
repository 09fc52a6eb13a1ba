use Rattle.std.proofs.Common.{false, true, ◌∙◌}
use Rattle.held_items.proofs.Places.{is_at, is_place, put_between, put_over}
use Rattle.held_items.proofs.items.put_in.Goals as goal

pub returns-then-is_some : goal.returns-then-is_some
returns-then-is_some c = λ rises.
    put_over c.args.item.now c.args.items.now.items c.place_of-at.result rises
    (is_place c.args.item.now.def c.as_slice.result.now c.args.items.now.items c.place_of-at.result c.as_slice.ensures.value
    c.place_of-at.ensures.bound c.place_of-at.ensures.place)
    (is_at c.item_at.result c.args.item.now.def c.as_slice-2.result.now c.args.items.now.items c.place_of-at.result c.is_some.result true
    c.is_some.ensures c.if-is_some.true c.item_at.ensures c.as_slice-2.ensures.value)

pub returns-else-is_some : goal.returns-else-is_some
returns-else-is_some c = λ rises.
    c.insert_at.ensures
    ∙ put_between c.args.item.now c.args.items.now.items c.place_of-at.result rises
    (is_place c.args.item.now.def c.as_slice.result.now c.args.items.now.items c.place_of-at.result c.as_slice.ensures.value
    c.place_of-at.ensures.bound c.place_of-at.ensures.place)
    (is_at c.item_at.result c.args.item.now.def c.as_slice-2.result.now c.args.items.now.items c.place_of-at.result c.is_some.result false
    c.is_some.ensures c.if-is_some.false c.item_at.ensures c.as_slice-2.ensures.value)
