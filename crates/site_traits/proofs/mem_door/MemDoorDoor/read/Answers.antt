use Rattle.std.proofs.Common.{rules, ◌≡◌}
use Rattle.site_traits.specs.MemDoor.{counts_of}
use Rattle.site_traits.proofs.DoorLemmas.{read_cause, failed_counts}
use Rattle.site_traits.proofs.mem_door.MemDoorDoor.read.Goals as goal

pub returns-then-is_spent-clause-cause : goal.returns-then-is_spent-clause-cause
returns-then-is_spent-clause-cause c =
    let up : c.break_read.new.self.hung_up ≡ c.args.self.now.conn.hung_up = search rules in
    read_cause (counts_of c.args.self.now) _ c.count.ensures.later (failed_counts _ _ _ _ _ c.count.ensures.one up)
