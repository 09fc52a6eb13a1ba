use Rattle.std.proofs.Common.{rules, ◌≡◌}
use Rattle.site_traits.specs.MemDoor.{counts_of}
use Rattle.site_traits.proofs.DoorLemmas.{write_cause, failed_counts}
use Rattle.site_traits.proofs.mem_door.MemDoorDoor.write.Goals as goal

pub returns-then-is_spent-clause-cause : goal.returns-then-is_spent-clause-cause
returns-then-is_spent-clause-cause c =
    let up : c.break_write.new.self.hung_up ≡ c.args.self.now.conn.hung_up = search rules in
    write_cause (counts_of c.args.self.now) _ c.count-then-is_spent.ensures.later
    (failed_counts _ _ _ _ _ c.count-then-is_spent.ensures.one up)
