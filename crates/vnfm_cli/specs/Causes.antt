-- Why a run ends with a status (own rule, docs/FORMATS.md).
use Rattle.std.specs.Prelude.{◌≡◌, ◌⊎◌, ◌↔◌, ℕ, List, None}
use Rattle.executor.specs.Open.{IsBadRecord}
use Rattle.journal_core.specs.Header.{IsUnfinished}
use Rattle.site_traits.specs.Counts.{Rose, one_more}
use Rattle.site_traits.specs.Door.{DoorCounts}
use Rattle.vnfm_commands.specs.Ending.{IsStatus, Output}
use Rattle.vnfm_commands.specs.Outside.{Outside}
use Rattle.vnfm_commands.specs.Runs.{IsNoJournal, IsOrYields}
use Rattle.command_line.specs.Words.{settings_of}
use Rattle.vnfm_commands.specs.Words.{AreInit, AreLoading, AreServing, AreWordsOf}
use Rattle.command_line.specs.declared.options.Command.TheVariants.{Migrate, Onboard}

-- Where this holds of a run of these words they are of `onboard`, `once` or `serve`, and a wait for a connection failed,
-- and is counted once, or for `onboard` a read of one; else no wait failed. But for the talks of rounds no other call of
-- the door failed, and one that did is counted once.
pub record FailsAtDoor (words : List (List ℕ)) (failed : Type 0) (a b : DoorCounts) : Type 0 where
  pub asked : failed → AreWordsOf Onboard words ⊎ AreServing words
  pub rose : failed → (b.next ≡ one_more a.next) ⊎ (AreWordsOf Onboard words × (b.next ≡ a.next))
  pub stays : ¬ failed → b.next ≡ a.next
  pub faults : ¬ (AreServing words) → (failed → b.faults ≡ one_more a.faults) × (¬ failed → b.faults ≡ a.faults)

-- Each status has its cause: 2 comes exactly where the words are no command; 4 exactly where waiting for a connection
-- or a read of a descriptor failed; 7, 9 and 10 only where the line couldn't be put, for `onboard`, `once`, `serve` or
-- `migrate`, and for `onboard`; and for all commands but `migrate`, of which `MigratesAs` tells, where the site tells, 5 exactly where the file that is to be opened is no journal, 8 exactly where one
-- of its records is bad, and 11 exactly where the file isn't unfinished for the manager of
-- `init`, but that each of these yields to a disk fault and to want of memory.
pub record HasCauses (tells : Type 0) (words : List (List ℕ)) (status : ℕ) (w v : Outside) (a b : Output) : Type 0 where
  pub usage : (status ≡ 2) ↔ (settings_of words ≡ None)
  pub door : FailsAtDoor words (status ≡ 4) w.mouth.wire.intake.counts v.mouth.wire.intake.counts
  pub sink : status ≡ 7 → Rose a.counts.faults b.counts.faults
  pub journal : tells → ¬ (AreWordsOf Migrate words) → status ≡ 5 → IsNoJournal w.site.image
  pub no_journal : tells → AreLoading words → IsNoJournal w.site.image → IsOrYields 5 status
  pub record_is_bad : tells → ¬ (AreWordsOf Migrate words) → status ≡ 8 → (n : ℕ) × IsBadRecord n w.site.image
  pub bad_record : tells → AreLoading words → (n : ℕ) → IsBadRecord n w.site.image → IsOrYields 8 status
  pub full : status ≡ 9 → AreWordsOf Onboard words ⊎ (AreServing words ⊎ AreWordsOf Migrate words)
  pub refused : status ≡ 10 → AreWordsOf Onboard words
  pub taken : tells → ¬ (AreWordsOf Migrate words) → status ≡ 11 → (m : ℕ) × AreInit m words × ¬ (IsUnfinished m w.site.image)
  pub is_taken : tells → (m : ℕ) → AreInit m words → ¬ (IsUnfinished m w.site.image) → IsOrYields 11 status
  pub only : IsStatus status
