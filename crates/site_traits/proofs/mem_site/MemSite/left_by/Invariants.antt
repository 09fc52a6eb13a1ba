use Rattle.std.proofs.Common.{◌≡◌, map, take}
use Rattle.site_traits.specs.Disk.{change_of, disk, stopped_image}
use Rattle.site_traits.proofs.mem_site.MemSite.left_by.Given as goal

-- what a read gave and what the choice left after the calls so far
abbrev pub invariant-loop-k : goal.invariant-loop-k
invariant-loop-k l = record {
  seen : l.seen.items ≡ (disk l.fn.self.first.items (map change_of (take l.k l.fn.self.book.past.log.calls))).seen;
  left : l.left.items ≡ stopped_image l.fn.choice l.fn.self.first.items (map change_of (take l.k l.fn.self.book.past.log.calls));
}
