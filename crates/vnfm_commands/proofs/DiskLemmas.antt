-- Which endings of a run tell that the disk failed.
use Rattle.std.proofs.Common.{◌≡◌, ◌≢◌, ◌<◌, ℕ, Bool, true, false, refl, sym, subst, ap, ◌∙◌, arith, ⊎_elim, if◌then◌else◌, Some}
use Rattle.std.proofs.Common.{option_map, Result, Ok, Err}
use Rattle.std.proofs.Math.Dec.{eqb}
use Rattle.std.proofs.lemmas.Bool.Decides.{eqb_tells}
use Rattle.site_traits.specs.Counts.{SiteCounts, asked, OnlyDiskFails, CallCounts, Rose, called, called_in_vain, fails_as, one_more}
use Rattle.site_traits.specs.Counts.Ask.{sync}
use Rattle.executor.specs.declared.manager.OpenFault.{OpenFault}
use Rattle.executor.specs.declared.manager.OpenFault.TheVariants as opening
use Rattle.executor.specs.declared.manager.WorkFault.{WorkFault}
use Rattle.executor.specs.declared.manager.WorkFault.TheVariants as working
use Rattle.journal_core.specs.Asking.{FailsWhere, AsksToMake, CreatesCount}
use Rattle.journal_core.specs.declared.create.CreateFault.{CreateFault}
use Rattle.journal_core.specs.declared.create.CreateFault.TheVariants as creating
use Rattle.journal_migration.specs.declared.migration.MigrateFault.{MigrateFault}
use Rattle.journal_migration.specs.declared.migration.MigrateFault.TheVariants as moving
use Rattle.occ_work.specs.Around.{CountJobsAlike, DiskFails}
use Rattle.lcm_sessions.specs.declared.answer.OnboardFault.{OnboardFault}
use Rattle.lcm_sessions.specs.declared.answer.OnboardFault.TheVariants as fault
use Rattle.notify_outbox.specs.declared.faults.DeliveryFault.{DeliveryFault}
use Rattle.notify_outbox.specs.declared.faults.DeliveryFault.TheVariants as delivering
use Rattle.vnfm_commands.specs.Course.{halt_of, halting, making_ending, undelivered_by, unonboarded, unopened_failure}
use Rattle.vnfm_commands.specs.Ending.{Ending}
use Rattle.vnfm_commands.specs.declared.ending.Failure.{Failure}
use Rattle.vnfm_commands.specs.declared.ending.Failure.TheVariants.{SiteFault}

-- calls of which only those on the disk fail tell the same of the calls on jobs
pub alike_of : (P : Type 0) (a b : SiteCounts) → OnlyDiskFails P a b → CountJobsAlike a b
alike_of P a b f = record { vim = f.vim; look = f.look; refusals = f.refusals }

pub alike_then : (a b c : SiteCounts) → CountJobsAlike a b → CountJobsAlike b c → CountJobsAlike a c
alike_then a b c first second =
    record { vim = second.vim ∙ first.vim; look = second.look ∙ first.look; refusals = second.refusals ∙ first.refusals }

-- what is told of the disk alone
pub disk_of : (P : Type 0) (a b : SiteCounts) → OnlyDiskFails P a b → DiskFails P a b
disk_of P a b f = record { rose = f.rose; stays = f.stays }

-- so it is where nothing was asked for
pub disk_untouched : (P : Type 0) (a : SiteCounts) → ¬ P → DiskFails P a a
disk_untouched P a never = record { rose = λ is. absurd (never is); stays = λ _. refl }

-- one answer stands for another
pub disk_as : (P Q : Type 0) (a b : SiteCounts) → DiskFails P a b → (P → Q) → (Q → P) → DiskFails Q a b
disk_as P Q a b f there back = record { rose = λ is. f.rose (back is); stays = λ never. f.stays (λ is. never (there is)) }

-- the same of an answer that never comes
pub disk_never : (P Q : Type 0) (a b : SiteCounts) → DiskFails P a b → ¬ P → ¬ Q → DiskFails Q a b
disk_never P Q a b f never other = disk_as P Q a b f (λ is. absurd (never is)) (λ is. absurd (other is))

-- behind calls of which none failed it is the last alone that did
pub disk_last : (P : Type 0) (a b c : SiteCounts) → DiskFails ⊥ a b → DiskFails P b c → DiskFails P a c
disk_last P a b c none last =
    let same = none.stays (λ never. never) in
    record { rose = λ is. last.rose is ∙ ap one_more same; stays = λ never. last.stays never ∙ same }

-- the same of calls of which only those on the disk fail, for an answer that never comes
pub fails_never : (P Q : Type 0) (a b : SiteCounts) → OnlyDiskFails P a b → ¬ P → ¬ Q → OnlyDiskFails Q a b
fails_never P Q a b f never other = fails_as P Q a b f (λ is. absurd (never is)) (λ is. absurd (other is))

-- a sync was asked for, and nothing failed
pub synced : (P : Type 0) (a b : SiteCounts) → b ≡ asked sync a → ¬ P → OnlyDiskFails P a b
synced P a b is never =
    subst (OnlyDiskFails P a) (sym is) (record {
      rose = λ yes. absurd (never yes);
      stays = λ _. refl;
      vim = refl;
      look = refl;
      refusals =
          refl;
    })

-- a journal was to be made
pub making_fails : CreatesCount → (longer : Bool) (r : Result (Unit {0}) CreateFault) (manager : ℕ) (a b : SiteCounts) → AsksToMake longer r a b
    → OnlyDiskFails (making_ending manager r ≡ Err SiteFault) a b
making_fails counted longer (Ok done) manager a b asks = fails_never _ _ a b (counted longer (Ok done) a b asks) (λ wrong. cc wrong) (λ wrong. cc wrong)
making_fails counted longer (Err creating.Taken) manager a b asks = fails_never _ _ a b (counted longer (Err creating.Taken) a b asks) (λ wrong. cc wrong)
    (λ wrong. cc wrong)
making_fails counted longer (Err creating.Disk) manager a b asks = fails_as _ _ a b (counted longer (Err creating.Disk) a b asks) (λ is. refl)
    (λ is. refl)

-- a journal that wasn't opened
pub unopened_fails : {T : Type 0} (why : OpenFault) (ending : Ending) (a b : SiteCounts)
    → FailsWhere (◌≡◌ {A = Result T OpenFault} (Err why) (Err opening.Disk)) (asked sync a) b
    → ending ≡ Err (unopened_failure why) → OnlyDiskFails (ending ≡ Err SiteFault) a b
unopened_fails opening.Unmade ending a b f is = synced _ a b (f.stays (λ wrong. cc wrong)) (λ site. absurd (cc (sym is ∙ site)))
unopened_fails (opening.Foreign place) ending a b f is = synced _ a b (f.stays (λ wrong. cc wrong)) (λ site. absurd (cc (sym is ∙ site)))
unopened_fails (opening.BadRecord n) ending a b f is = synced _ a b (f.stays (λ wrong. cc wrong)) (λ site. absurd (cc (sym is ∙ site)))
unopened_fails opening.Memory ending a b f is = synced _ a b (f.stays (λ wrong. cc wrong)) (λ site. absurd (cc (sym is ∙ site)))
unopened_fails opening.Disk ending a b f is =
    subst (OnlyDiskFails (ending ≡ Err SiteFault) a) (sym (f.rose refl))
    (record { rose = λ _. refl; stays = λ never. absurd (never is); vim = refl; look = refl; refusals = refl })

-- a journal that was migrated or not, by the file that it is in
pub moved_fails : (moved : Result ℕ MigrateFault) (a b : SiteCounts) → FailsWhere (moved ≡ Err (moving.Open opening.Disk)) (asked sync a) b
    → OnlyDiskFails (moved ≡ Err (moving.Open opening.Disk)) a b
moved_fails (Ok records) a b f = synced _ a b (f.stays (λ wrong. cc wrong)) (λ wrong. cc wrong)
moved_fails (Err (moving.Open opening.Disk)) a b f =
    subst (OnlyDiskFails _ a) (sym (f.rose refl))
    (record { rose = λ _. refl; stays = λ never. absurd (never refl); vim = refl; look = refl; refusals = refl })
moved_fails (Err (moving.Open opening.Unmade)) a b f = synced _ a b (f.stays (λ wrong. cc wrong)) (λ wrong. cc wrong)
moved_fails (Err (moving.Open (opening.Foreign place))) a b f = synced _ a b (f.stays (λ wrong. cc wrong)) (λ wrong. cc wrong)
moved_fails (Err (moving.Open (opening.BadRecord n))) a b f = synced _ a b (f.stays (λ wrong. cc wrong)) (λ wrong. cc wrong)
moved_fails (Err (moving.Open opening.Memory)) a b f = synced _ a b (f.stays (λ wrong. cc wrong)) (λ wrong. cc wrong)
moved_fails (Err moving.Taken) a b f = synced _ a b (f.stays (λ wrong. cc wrong)) (λ wrong. cc wrong)
moved_fails (Err (moving.Full end more)) a b f = synced _ a b (f.stays (λ wrong. cc wrong)) (λ wrong. cc wrong)
moved_fails (Err moving.Disk) a b f = synced _ a b (f.stays (λ wrong. cc wrong)) (λ wrong. cc wrong)

-- a descriptor that wasn't onboarded
pub unonboarded_fails : {T : Type 0} (why : OnboardFault) (ending : Ending) (a b : SiteCounts)
    → OnlyDiskFails (◌≡◌ {A = Result T OnboardFault} (Err why) (Err fault.Disk)) a b
    → ending ≡ Err (unonboarded why) → OnlyDiskFails (ending ≡ Err SiteFault) a b
unonboarded_fails fault.Door ending a b f is = fails_never _ _ a b f (λ wrong. cc wrong) (λ site. absurd (cc (sym is ∙ site)))
unonboarded_fails (fault.Refused why) ending a b f is = fails_never _ _ a b f (λ wrong. cc wrong) (λ site. absurd (cc (sym is ∙ site)))
unonboarded_fails (fault.Full end more) ending a b f is = fails_never _ _ a b f (λ wrong. cc wrong) (λ site. absurd (cc (sym is ∙ site)))
unonboarded_fails fault.Memory ending a b f is = fails_never _ _ a b f (λ wrong. cc wrong) (λ site. absurd (cc (sym is ∙ site)))
unonboarded_fails fault.Disk ending a b f is = fails_as _ _ a b f (λ _. is) (λ _. refl)

-- a round that ended the rounds
err_is : {T : Type 0} (x y : Failure) → ◌≡◌ {A = Result T Failure} (Err x) (Err y) → x ≡ y
err_is x y is = cc

pub round_fails : (why : Failure) (a b : SiteCounts) → DiskFails (◌≡◌ {A = Result (Unit {0}) Failure} (Err why) (Err SiteFault)) a b
    → DiskFails (◌≡◌ {A = Ending} (Err why) (Err SiteFault)) a b
round_fails why a b f = disk_as _ _ a b f (λ is. ap Err (err_is why SiteFault is)) (λ is. ap Err (err_is why SiteFault is))

-- a turn that didn't go through
pub turn_fails : {T : Type 0} (fault : WorkFault) (why : Failure) (a b : SiteCounts) → option_map halting (halt_of fault) ≡ Some why
    → DiskFails (◌≡◌ {A = Result T WorkFault} (Err fault) (Err working.Disk)) a b
    → DiskFails (◌≡◌ {A = Result (Unit {0}) Failure} (Err why) (Err SiteFault)) a b
turn_fails (working.Full end more) why a b is f = disk_never _ _ a b f (λ wrong. cc wrong) (λ wrong. cc (is, wrong))
turn_fails working.Memory why a b is f = disk_never _ _ a b f (λ wrong. cc wrong) (λ wrong. cc (is, wrong))
turn_fails working.Disk why a b is f = disk_as _ _ a b f (λ _. cc is) (λ _. refl)
turn_fails (working.TooLong n) why a b is f = absurd (cc is)

-- deliveries that didn't go through
pub posts_fail : {T : Type 0} (fault : DeliveryFault) (why : Failure) (a b : SiteCounts) → why ≡ halting (undelivered_by fault)
    → OnlyDiskFails (◌≡◌ {A = Result T DeliveryFault} (Err fault) (Err delivering.Disk)) a b
    → OnlyDiskFails (◌≡◌ {A = Result (Unit {0}) Failure} (Err why) (Err SiteFault)) a b
posts_fail (delivering.Full end more) why a b is f = fails_never _ _ a b f (λ wrong. cc wrong) (λ wrong. cc (is, wrong))
posts_fail delivering.Memory why a b is f = fails_never _ _ a b f (λ wrong. cc wrong) (λ wrong. cc (is, wrong))
posts_fail (delivering.BadRecord n) why a b is f = fails_never _ _ a b f (λ wrong. cc wrong) (λ wrong. cc (is, wrong))
posts_fail delivering.Disk why a b is f = fails_as _ _ a b f (λ _. ap Err is) (λ _. refl)

-- where the count of disk faults rose, the status is 3
pub rises_where : (status : ℕ) (a b : SiteCounts) → DiskFails (status ≡ 3) a b → a.disk < b.disk → status ≡ 3
rises_where status a b f less = ⊎_elim
    (λ (yes : (eqb status 3 ≡ true) × (status ≡ 3)). yes.1)
    (λ (other : (eqb status 3 ≡ false) × (status ≢ 3)). absurd (let same = f.stays other.1 in omega (arith, less, same)))
    (eqb_tells status 3)

-- a line that was not put is counted
pub lost_line : (put : Bool) (before now : CallCounts) → now ≡ (if put then called before else called_in_vain before) → put ≡ false
    → Rose before.faults now.faults
lost_line true before now is lost = absurd (cc lost)
lost_line false before now is lost = subst (λ (v : CallCounts). Rose before.faults v.faults) (sym is) (omega arith)

-- and so is every put
pub one_put : (put : Bool) (before now : CallCounts) → now ≡ (if put then called before else called_in_vain before)
    → now.calls ≡ one_more before.calls
one_put true before now is = ap (λ (v : CallCounts). v.calls) is
one_put false before now is = ap (λ (v : CallCounts). v.calls) is

-- one disk fault is a count that rose
pub one_fault : (before now : ℕ) → now ≡ one_more before → Rose before now
one_fault before now is = omega (arith, is)
