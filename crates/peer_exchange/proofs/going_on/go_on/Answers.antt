-- What was judged is all that was read by then, and what is read next comes behind it.
use Rattle.std.proofs.Common.{arith, rules, subst, sym}
use Rattle.std.proofs.lemmas.Grind.{common_steps}
use Rattle.peer_exchange.specs.GoingOn.{ReadsOn}
use Rattle.peer_exchange.proofs.GoingLaws.{judged_all, reads_more}
use Rattle.peer_exchange.proofs.going_on.go_on.Goals as goal

pub reads-preserved : goal.reads-preserved
reads-preserved g c = (
  judged_all (g.R.Reply.judged c.judge.new.self) _ _ c.deref-in-reads.ensures.value c.judge.ensures.kept,
  search rules,
  λ told. (
    search rules,
    reads_more c.in-Ok.count _ _ _ _ _ _ _ _
        (subst (ReadsOn c.args.room.now.bytes.items c.reads.room.bytes.items (g.C.Connection.incoming c.args.connection.now))
        (sym (c.is_quiet.ensures.kept_in told)) ((c.reads.invariant.2 told).1)) (c.in-Ok.ensures.told told).got (grind (arith, common_steps)),
  ),
)
