use Rattle.outside_edges.proofs.DoorLemmas.{comes}
use Rattle.outside_edges.proofs.real_door.RealDoorDoor.next.Goals as goal

pub returns-then-not-self-clause-told : goal.returns-then-not-self-clause-told
returns-then-not-self-clause-told g c told =
    let d = c.args.self.now in comes _ _ d.came d.up d.read_failed d.write_failed d.role d.ends _ _ c.if-not-self.true d.sound told.0 told.1
