-- What reads and writes leave of the door's counts.
use Rattle.std.specs.Prelude.{◌≡◌, Bool, if◌then◌else◌}
use Rattle.site_traits.specs.Door.{DoorCounts, NoNextFault, call_failed}

-- the counts once the last of some reads or writes failed, or none did
abbrev pub counts_by : Bool → DoorCounts → DoorCounts
counts_by failed c = if failed then call_failed c else c

-- Where this is so a read or a write failed, once, and is counted as one fault; else the counts are as they were. No
-- count fell (own rule).
pub record FailsOnce (failed : Bool) (a b : DoorCounts) : Type 0 where
  pub counts : NoNextFault a b
  pub is : b ≡ counts_by failed a
