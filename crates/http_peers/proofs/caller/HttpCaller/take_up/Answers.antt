-- The exchange goes on where more of its answer may come, and where that is whole it was heard from its connection.
use Rattle.std.proofs.Common.{[], All, refl, subst, sym, arith}
use Rattle.http_peers.specs.Kept.{GoesOn, KeptGoesOn}
use Rattle.http_peers.proofs.KeptLemmas.{all_put_in, goes_on, heard_from}
use Rattle.http_peers.proofs.caller.HttpCaller.take_up.Goals as goal

pub go_on-requires : goal.go_on-requires
go_on-requires g c = record { fresh = c.renew.ensures [] }

pub returns-in-Whole-clause-hears : goal.returns-in-Whole-clause-hears
returns-in-Whole-clause-hears g c = λ tells goes.
    heard_from g.N.Connection.Connection.outgoing g.N.Connection.Connection.incoming g.N.Connection.Connection.tells
    c.args.kept.connection c.go_on.new.connection c.args.kept.request c.args.kept.came.items c.go_on.new.room.bytes.items
    c.go_on.new.reply.heard tells goes
    (c.in-Whole.ensures.reads tells (λ is. grind arith)) (c.in-Whole.ensures.whole refl)

pub returns-then-len-le-KEPT_BYTES-clause-own : goal.returns-then-len-le-KEPT_BYTES-clause-own
returns-then-len-le-KEPT_BYTES-clause-own g c = λ tells goes holds.
    all_put_in (KeptGoesOn g.N.Connection.Connection.outgoing g.N.Connection.Connection.incoming) _ _ _ c.put_in.ensures
    (subst (λ came. GoesOn g.N.Connection.Connection.outgoing g.N.Connection.Connection.incoming c.go_on.new.connection c.args.kept.request came.items)
    (sym c.replace-came.ensures.value)
    (goes_on g.N.Connection.Connection.outgoing g.N.Connection.Connection.incoming c.args.kept.connection c.go_on.new.connection
    c.args.kept.request c.args.kept.came.items c.go_on.new.room.bytes.items goes (c.in-Part.ensures.sends_nothing tells)
    (c.in-Part.ensures.reads tells (λ is. grind arith))))
    (subst (λ s. All (KeptGoesOn g.N.Connection.Connection.outgoing g.N.Connection.Connection.incoming) s.kept.items) (sym c.close.ensures) holds)
