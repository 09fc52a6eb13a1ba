-- What recording an event asks of the site (own rule).
use Rattle.std.specs.Prelude.{◌≡◌, Result, Ok, Err}
use Rattle.site_traits.specs.Counts.{SiteCounts, all_asked, StopsIn}
use Rattle.journal_core.specs.Asking.{through}
use Rattle.executor.specs.declared.manager.WorkFault.{WorkFault}
use Rattle.executor.specs.declared.manager.WorkFault.TheVariants as fault

-- two writes and two syncs, or the front of these up to one that failed; nothing where the event is refused before
abbrev pub CommitAsks : {T : Type 0} → Result T WorkFault → SiteCounts → SiteCounts → Type 0
CommitAsks (Ok done) a b = b ≡ all_asked (through 2) a
CommitAsks (Err fault.Disk) a b = StopsIn (through 2) a b
CommitAsks (Err other) a b = b ≡ a
