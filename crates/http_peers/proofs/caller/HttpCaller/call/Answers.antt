-- The request to the target goes out, or none does, and an answer is taken of an exchange that was kept, or awaited.
use Rattle.std.proofs.Common.{◌≡◌, [], All, Some, ◌++◌, ap, inl, inr, rules, subst, sym, ◌∙◌}
use Rattle.std.specs.Result.{result_err}
use Rattle.http_client.specs.Requests.{request}
use Rattle.net_calls.specs.Network.{offer_of}
use Rattle.peer_exchange.specs.Exchanges.{Counts, IsSent}
use Rattle.peer_exchange.specs.declared.exchanging.Lost.TheVariants as lost
use Rattle.http_peers.specs.Kept.{KeptGoesOn, limits_by}
use Rattle.http_peers.specs.Sent.{IsHeardFrom}
use Rattle.http_peers.proofs.KeptLemmas.{all_less, awaits_taken, others_are, taken_is}
use Rattle.http_peers.proofs.SentLemmas.{sends_nothing, sends_one, unanswered}
use Rattle.http_peers.proofs.caller.HttpCaller.call.Goals as goal

pub returns-in-Err-clause-sends : goal.returns-in-Err-clause-sends
returns-in-Err-clause-sends g c = λ tells told.
    inl (sends_nothing g.N.Connection.Connection.outgoing (λ x. (g.N.Connection.Connection.incoming x).left) g.N.Connection.Connection.vain
    c.args.self.now.opened (λ a. offer_of (g.N.HostNet.peers c.args.self.now.net a))
    (λ host path. request c.args.method.now host path c.args.body.now) (limits_by c.args.self.now.silent.items c.args.limits)
    (IsHeardFrom c.connect.new.self.room.bytes.items c.connect.new.self.reply.heard) _ _ _ _ _
    c.deref-4.ensures (c.in-Err.ensures.why tells) (ap (λ s. s.log.sent) c.connect.ensures.rest))

pub exchange-done-requires-clause-fresh : goal.exchange-done-requires-clause-fresh
exchange-done-requires-clause-fresh g c = c.renew.ensures []

pub returns-in-Some-clause-sends : goal.returns-in-Some-clause-sends
returns-in-Some-clause-sends g c = λ tells told.
    inr (
      ap (λ l. l.sent) c.take_up.ensures.log,
      awaits_taken g.N.Connection.Connection.outgoing g.N.Connection.Connection.incoming
          (λ host path. request c.args.method.now host path c.args.body.now)
          (IsHeardFrom c.take_up.new.self.room.bytes.items c.take_up.new.self.reply.heard) c.args.target.now c.deref-3.result.now
          c.as_slice.result.now c.take_up.result c.in-Some.kept c.args.self.now.kept.items _ c.take_up.new.self.kept.items
          c.deref-3.ensures (c.as_slice.ensures ∙ c.in-Ok.ensures) c.in-Some.ensures.taken c.take_up.ensures.fault c.take_up.ensures.taken
          (c.take_up.ensures.hears told),
    )

pub returns-in-Some-clause-own : goal.returns-in-Some-clause-own
returns-in-Some-clause-own g c = λ tells holds.
    c.take_up.ensures.own tells
    (taken_is (KeptGoesOn g.N.Connection.Connection.outgoing g.N.Connection.Connection.incoming) _ _ _ _ _ c.in-Some.ensures.taken holds)
    (others_are (KeptGoesOn g.N.Connection.Connection.outgoing g.N.Connection.Connection.incoming) _ _ _ _ _ c.in-Some.ensures.taken holds)

pub returns-in-Err-clause-own : goal.returns-in-Err-clause-own
returns-in-Err-clause-own g c = λ tells holds.
    subst (All (KeptGoesOn g.N.Connection.Connection.outgoing g.N.Connection.Connection.incoming))
    (sym (ap (λ s. s.kept.items) c.connect.ensures.rest))
    (all_less (KeptGoesOn g.N.Connection.Connection.outgoing g.N.Connection.Connection.incoming) _ _ c.take_out.ensures.rest holds)

pub returns-in-Ok-done-clause-sends : goal.returns-in-Ok-done-clause-sends
returns-in-Ok-done-clause-sends g c = λ tells told. let replied = c.in-Ok-done.ensures.replied in
    inl (sends_one _ _ _ _ _ _ (limits_by c.args.self.now.silent.items c.args.limits) _ _ _ _ _ _ _ _ _ _ _ _ _ _ c.deref-4.ensures
    (c.limits_for-limits.ensures.value ∙ ap (λ k. limits_by k c.args.limits c.deref-2.result.now) c.deref.ensures.value
    ∙ ap (limits_by c.args.self.now.silent.items c.args.limits) (c.deref-2.ensures ∙ sym c.deref-4.ensures))
    (sym c.take.ensures.value ∙ c.in-Some-take.is)
    c.in_default-connect.ensures.opens (c.connect.ensures.had tells) (c.as_slice-2.ensures ∙ c.in-Ok.ensures)
    (c.in-Ok-done.ensures.sends told) (c.in-Ok-done.ensures.counts told) (λ _. record {
      ended = replied.ended;
      are = replied.whole;
      more = _;
      first = (replied.read told).left;
      end = replied.end told;
    }) (ap (λ s. s.log.sent) c.connect.ensures.rest)
    c.with-self.ensures)

pub returns-in-Ok-done-clause-own : goal.returns-in-Ok-done-clause-own
returns-in-Ok-done-clause-own g c = λ tells holds.
    subst (All (KeptGoesOn g.N.Connection.Connection.outgoing g.N.Connection.Connection.incoming))
    (sym (ap (λ s. s.kept.items) c.connect.ensures.rest))
    (all_less (KeptGoesOn g.N.Connection.Connection.outgoing g.N.Connection.Connection.incoming) _ _ c.take_out.ensures.rest holds)

pub returns-in-Err-Unread-clause-sends : goal.returns-in-Err-Unread-clause-sends
returns-in-Err-Unread-clause-sends g c = λ tells told.
    let why : result_err c.exchange-done.result ≡ Some lost.Unread = search rules in
    inl (sends_one _ _ _ _ _ _ (limits_by c.args.self.now.silent.items c.args.limits) _ _ _ _ _ _ _ _ _ _ _ _ _ _ c.deref-4.ensures
    (c.limits_for-limits.ensures.value ∙ ap (λ k. limits_by k c.args.limits c.deref-2.result.now) c.deref.ensures.value
    ∙ ap (limits_by c.args.self.now.silent.items c.args.limits) (c.deref-2.ensures ∙ sym c.deref-4.ensures))
    (sym c.take.ensures.value ∙ c.in-Some-take.is)
    c.in_default-connect.ensures.opens (c.connect.ensures.had tells) (c.as_slice-2.ensures ∙ c.in-Ok.ensures)
    (subst (λ w. IsSent w c.as_slice-2.result.now (g.N.Connection.Connection.outgoing c.in-Some-take.opened.connection)
    (g.N.Connection.Connection.outgoing c.exchange-done.new.connection)) why (c.exchange-done.ensures.sends told))
    (subst (λ w. Counts w (g.N.Connection.Connection.vain c.in-Some-take.opened.connection)
    (g.N.Connection.Connection.vain c.exchange-done.new.connection)) why (c.exchange-done.ensures.counts told))
    unanswered (ap (λ s. s.log.sent) c.connect.ensures.rest)
    (ap (λ s. s.log.sent) c.keep.ensures.rest ∙ c.with-self.ensures))

pub returns-in-Err-Unread-clause-own : goal.returns-in-Err-Unread-clause-own
returns-in-Err-Unread-clause-own g c = λ tells holds.
    let why : result_err c.exchange-done.result ≡ Some lost.Unread = search rules in
    let sent = subst (λ w. IsSent w c.as_slice-2.result.now (g.N.Connection.Connection.outgoing c.in-Some-take.opened.connection)
    (g.N.Connection.Connection.outgoing c.exchange-done.new.connection)) why (c.exchange-done.ensures.sends tells) in
    c.keep.ensures.own tells (record {
      began = c.in-Some-take.opened.connection;
      sent = sent ∙ ap (λ r. g.N.Connection.Connection.outgoing c.in-Some-take.opened.connection ++ r) c.as_slice-2.ensures;
      read = c.exchange-done.ensures.unread tells why;
    })
    (subst (All (KeptGoesOn g.N.Connection.Connection.outgoing g.N.Connection.Connection.incoming))
    (sym (ap (λ s. s.kept.items) c.connect.ensures.rest))
    (all_less (KeptGoesOn g.N.Connection.Connection.outgoing g.N.Connection.Connection.incoming) _ _ c.take_out.ensures.rest holds))

pub returns-in-Err-done : goal.returns-in-Err-done
returns-in-Err-done g c = record {
  heard = tt;
  sends = λ tells told.
      inl (sends_one _ _ _ _ _ _ (limits_by c.args.self.now.silent.items c.args.limits) _ _ _ _ _ _ _ _ _ _ _ _ _ _ c.deref-4.ensures
      (c.limits_for-limits.ensures.value ∙ ap (λ k. limits_by k c.args.limits c.deref-2.result.now) c.deref.ensures.value
      ∙ ap (limits_by c.args.self.now.silent.items c.args.limits) (c.deref-2.ensures ∙ sym c.deref-4.ensures))
      (sym c.take.ensures.value ∙ c.in-Some-take.is)
      c.in_default-connect.ensures.opens (c.connect.ensures.had tells) (c.as_slice-2.ensures ∙ c.in-Ok.ensures)
      (c.in-Err-done.ensures.sends told) (c.in-Err-done.ensures.counts told) unanswered (ap (λ s. s.log.sent) c.connect.ensures.rest)
      c.with-self.ensures);
  own = λ tells holds.
      subst (All (KeptGoesOn g.N.Connection.Connection.outgoing g.N.Connection.Connection.incoming))
      (sym (ap (λ s. s.kept.items) c.connect.ensures.rest))
      (all_less (KeptGoesOn g.N.Connection.Connection.outgoing g.N.Connection.Connection.incoming) _ _ c.take_out.ensures.rest holds);
  lost = search rules;
  in_limits = search rules;
  closed = search rules;
}
