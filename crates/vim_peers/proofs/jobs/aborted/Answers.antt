-- What the reply says is answered, and the line of this call goes out.
use Rattle.std.proofs.Common.{ap, ◌∙◌}
use Rattle.std.specs.String.{string_bytes}
use Rattle.net_calls.specs.Network.{offer_of}
use Rattle.vim_peers.proofs.SentLemmas.{line_goes_out, nothing_goes_out}
use Rattle.vim_peers.proofs.jobs.aborted.Goals as goal

pub returns-in_default-clause-sends : goal.returns-in_default-clause-sends
returns-in_default-clause-sends g c = λ tells told. nothing_goes_out _ _ _ _ _ (ap (λ l. l.opened) c.forget.ensures.rest)

pub returns-in-Ok-ask-clause-sends : goal.returns-in-Ok-ask-clause-sends
returns-in-Ok-ask-clause-sends g c = λ tells told.
    line_goes_out _ _ _ _ _ _ _ _ _ (c.as_slice.ensures ∙ c.in-Ok.ensures.line) (ap (λ l. l.opened) c.forget.ensures.rest)
    (ap (λ l. offer_of (g.N.HostNet.peers l.net (string_bytes l.address))) c.forget.ensures.rest) (c.in-Ok-ask.ensures.sends tells told)
