-- The line isn't too long.
use Rattle.vim_wire.proofs.LengthLaws.{on_ok, look_fits}
use Rattle.vim_wire.proofs.writing.look_line.Goals as goal

pub returns-clause-call : goal.returns-clause-call
returns-clause-call c =
    let tag = c.in_ok-put_tag.ensures.typed in
    on_ok c.ended.result _ (tag, look_fits c.args.manager c.args.tag.now tag)
