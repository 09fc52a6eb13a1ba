-- The call that is noted is the one that was made.
use Rattle.outside_edges.specs.Jobs.{JobCall}
use Rattle.vim_peers.proofs.jobs.VimPeerJobsFile.begin.Given as goal

abbrev pub ghost-with : goal.ghost-with
ghost-with g a = JobCall.beginning a.object.now.0.now a.object.now.1.now a.object.now.2
