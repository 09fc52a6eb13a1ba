use Rattle.event_codec.proofs.ListLaws.{entry-more}
use Rattle.event_codec.proofs.lists.entries.Goals as goal

pub loop-counter-preserved : goal.loop-counter-preserved
loop-counter-preserved g c =
    entry-more (g.T.Read.at c.args.numbers) c.loop-counter.items c.put.new.items c.in-Ok.item c.args.count c.loop-counter.counter
    c.loop-counter.input c.read.new.input _
    c.loop-counter-test.true (c.in-Ok.ensures {u = tt}) (c.in_ok-put-in-Ok.ensures {u = tt}).ok c.loop-counter.invariant
