-- The row of the subscription has its callback.
use Rattle.std.proofs.Common.{List, subst, ℕ}
use Rattle.lcm_model.specs.Work.{window}
use Rattle.notify_outbox.proofs.NoticeLemmas.{callback_of}
use Rattle.notify_outbox.proofs.posting.post.Goals as goal
use Rattle.site_traits.specs.Peers.{Posts}

pub returns-clause-posts : goal.returns-clause-posts
returns-clause-posts g c = λ H keeps live. (
  c.in-Some.row.now.callback,
  callback_of H c.args.subscription c.in-Some.row.now
      (c.in-Some.ensures.finds window _ H keeps.kept.legal (c.instances.ensures.rows H keeps)),
  λ told. subst (λ (b : List ℕ). Posts c.in-Some.row.now.callback b c.post.result (g.C.Courier.state c.args.courier.now)
      (g.C.Courier.state c.post.new.self)) c.as_slice.ensures (c.post.ensures.told told),
)
