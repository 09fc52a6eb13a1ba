-- As much of the line as went out is a front of it, and all of it where a reply came.
use Rattle.std.proofs.Common.{rules}
use Rattle.vim_peers.proofs.SentLemmas.{sent_front}
use Rattle.vim_peers.proofs.link.VimLink.call.Goals as goal

pub returns-clause-sends : goal.returns-clause-sends
returns-clause-sends g c = λ tells told. (
  g.N.Connection.Connection.outgoing c.in-Some.opened.connection,
  search rules,
  sent_front c.call_on.result _ _ _ (c.call_on.ensures.sends told),
)
