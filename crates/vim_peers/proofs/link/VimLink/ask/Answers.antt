-- Nothing goes out while a pause runs.
use Rattle.std.proofs.Common.{ap}
use Rattle.vim_peers.proofs.SentLemmas.{nothing_goes_out}
use Rattle.vim_peers.proofs.link.VimLink.ask.Goals as goal

pub returns-then-runs-clause-sends : goal.returns-then-runs-clause-sends
returns-then-runs-clause-sends g c = λ tells told. nothing_goes_out _ _ _ _ _ (ap (λ l. l.opened) c.forget.ensures.rest)
