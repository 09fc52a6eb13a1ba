use Rattle.std.proofs.Common.{sym, ap, refl, inr, subst, length}
use Rattle.request_pool.specs.Hands.{HandState}
use Rattle.request_pool.specs.Pools.{TakesInHand, feed_len}
use Rattle.request_pool.proofs.pool.opened_in_hand.Goals as goal

pub returns : goal.returns
returns c = subst (λ (h : HandState). TakesInHand c.args.slot c.args.client h) (sym c.begun-2.ensures) (record {
  slot_is = refl;
  client = inr (c.args.place, c.requires.front, c.requires.asks, c.write_over-2.ensures);
  len = sym (ap (λ f. feed_len f (length c.args.client.held)) c.requires.front);
  unread = refl;
  unanswered = refl;
})
