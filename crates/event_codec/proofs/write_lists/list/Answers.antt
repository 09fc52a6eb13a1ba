use Rattle.event_codec.proofs.Puts.{put-more, typed-more}
use Rattle.event_codec.proofs.write_lists.list.Goals as goal

pub loop-item-preserved : goal.loop-item-preserved
loop-item-preserved g c = record {
  spelled = put-more g.T.Write.spell c.args.out.now c.loop-item.out c.write.new.out c.args.head.now c.args.items.now c.loop-item.item-index
      c.item-item.result
      c.loop-item-test.true c.item-item.is c.write.ensures.spelled c.loop-item.invariant.spelled;
  typed = typed-more g.T.Write.typed c.args.items.now c.loop-item.item-index c.item-item.result
      c.loop-item-test.true c.item-item.is c.write.ensures.typed c.loop-item.invariant.typed;
}
