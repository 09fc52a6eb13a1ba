use Rattle.vim_wire.proofs.NameLaws.{name_more, typed_more}
use Rattle.vim_wire.proofs.writing.put_names.Goals as goal

pub loop-name-preserved : goal.loop-name-preserved
loop-name-preserved c = record {
  spelled = name_more c.args.line.now.items c.loop-name.line.items c.put_name.new.line.items c.args.names.now c.loop-name.name-index
      c.name-item.result
      c.loop-name-test.true c.name-item.is c.loop-name.invariant.spelled c.in_ok-put_name.ensures.spelled;
  typed = typed_more c.args.names.now c.loop-name.name-index c.name-item.result c.loop-name-test.true c.name-item.is
      c.loop-name.invariant.typed
      c.in_ok-put_name.ensures.typed;
}
