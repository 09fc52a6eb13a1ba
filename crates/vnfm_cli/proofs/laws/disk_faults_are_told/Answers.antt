use Rattle.vnfm_commands.proofs.DiskLemmas.{rises_where}
use Rattle.vnfm_cli.proofs.laws.disk_faults_are_told.Goals as goal

pub returns : goal.returns
returns c = rises_where
