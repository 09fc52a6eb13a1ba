use Rattle.std.proofs.Common.{◌≡◌, ◌++◌, take}
use Rattle.std.specs.List.{AllByRecursion, flat_map}
use Rattle.event_codec.specs.Written.{put}
use Rattle.event_codec.proofs.write_lists.list.Given as goal

abbrev pub invariant-loop-item : goal.invariant-loop-item
invariant-loop-item g l = record {
  spelled : l.out ≡ put l.fn.out (l.head ++ flat_map g.T.Write.spell (take l.item-index l.items));
  typed : AllByRecursion g.T.Write.typed (take l.item-index l.items);
}
