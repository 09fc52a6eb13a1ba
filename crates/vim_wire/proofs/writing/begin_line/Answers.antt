-- The line isn't too long.
use Rattle.vim_wire.proofs.LengthLaws.{on_ok, begin_fits}
use Rattle.vim_wire.proofs.writing.begin_line.Goals as goal

pub returns-clause-call : goal.returns-clause-call
returns-clause-call c =
    let tag = c.in_ok-put_tag.ensures.typed in
    let act = c.in_ok-put_act.ensures.typed in
    on_ok c.ended.result _ ((tag, act), begin_fits c.args.manager c.args.tag.now c.args.act.now tag act c.requires)
