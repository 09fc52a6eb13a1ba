use Rattle.vnfm_cli.proofs.DoorLemmas.{course_counted}
use Rattle.vnfm_cli.proofs.laws.door_faults_are_counted.Goals as goal

pub returns : goal.returns
returns g c = course_counted _
