-- The folder was synced, and what was opened is lent then, or it wasn't.
use Rattle.std.proofs.Common.{subst}
use Rattle.host_calls.specs.Files.{FileCall, FileCalls}
use Rattle.outside_edges.specs.Having.{Goes, lost_in, to_lend}
use Rattle.outside_edges.proofs.HavingLemmas.{goes_behind, stops_by_fault}
use Rattle.outside_edges.proofs.real_site.named.Goals as goal

pub returns-in-Ok-clause-goes : goal.returns-in-Ok-clause-goes
returns-in-Ok-clause-goes g c = λ tells.
    goes_behind FileCall.folder_sync to_lend (lost_in c.lent.result) (g.H.HostFiles.state c.args.host.now).calls
    (g.H.HostFiles.state c.lent.new.host)
    (subst (λ (before : FileCalls). Goes to_lend (lost_in c.lent.result) before (g.H.HostFiles.state c.lent.new.host))
    (c.in-Ok.ensures.told tells).calls (c.lent.ensures.goes tells))

pub returns-in-Err-clause-goes : goal.returns-in-Err-clause-goes
returns-in-Err-clause-goes g c = λ tells.
    let one = c.in-Err.ensures.told tells in
    stops_by_fault FileCall.folder_sync _ _ _ _ _ one.calls one.last c.why_of.ensures
