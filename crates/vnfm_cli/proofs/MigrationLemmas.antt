-- What `migrate` does to its second file, and what its status tells.
use Rattle.std.proofs.Common.{◌≡◌, ◌≢◌, ◌∙◌, ◌⊎◌, ◌<◌, ◌++◌, ⊎_elim, inl, inr, sym, ap, subst, refl, arith, ℕ, List, Bool, true, length}
use Rattle.std.proofs.Common.{if◌then◌else◌, Result, Ok, Err}
use Rattle.command_line.specs.declared.options.Command.TheVariants.{Migrate}
use Rattle.executor.specs.declared.manager.OpenFault.{OpenFault}
use Rattle.executor.specs.declared.manager.OpenFault.TheVariants as opening
use Rattle.journal_core.specs.Asking.{FailsWhere}
use Rattle.journal_migration.specs.Laws.{HasNoBadOldRecord, HasOneOldHistory, IsNoOther, IsNoOtherIfBad}
use Rattle.journal_migration.specs.Migrating.{HasMigrated, IsMigrating, IsOrFails, Migrates}
use Rattle.journal_migration.specs.Reading.{IsBadOldRecord, RefusesOld}
use Rattle.journal_migration.specs.declared.migration.MigrateFault.{MigrateFault}
use Rattle.journal_migration.specs.declared.migration.MigrateFault.TheVariants as fault
use Rattle.lcm_events.specs.declared.events.Event.{Event}
use Rattle.old_journal.specs.Header.{IsForeign, IsUnmade}
use Rattle.site_traits.specs.Counts.{OnlyDiskFails, Rose, SiteCounts, asked}
use Rattle.site_traits.specs.Counts.Ask.{sync}
use Rattle.site_traits.specs.Site.{KeepsJobs, SiteState}
use Rattle.vnfm_commands.proofs.DiskLemmas.{lost_line, moved_fails, one_fault}
use Rattle.vnfm_commands.specs.Course.{migrating_ending, unmigrated, unopened_failure}
use Rattle.vnfm_commands.specs.Ending.{Ending, Ends, Output, failure_status, migrated_line, status_of, told_status}
use Rattle.vnfm_commands.specs.Moving.{IsSpared, Moves, MovesOrStarves, Spare, spare_of}
use Rattle.vnfm_commands.specs.Outside as outside
use Rattle.vnfm_commands.specs.Runs.{IsOrYields, IsSoundOldStart, MayEndWith}
use Rattle.vnfm_commands.specs.Words.{AreWordsOf}
use Rattle.vnfm_commands.specs.declared.ending.Failure.{Failure}
use Rattle.vnfm_commands.specs.declared.ending.Failure.TheVariants.{NoMemory}
use Rattle.vnfm_cli.specs.Migration.{IsNoOldJournal, MigratesAs, MigratesSo, OneDiskFails}
use Rattle.vnfm_cli.specs.Promises.{Ground, IsLeftAlone}
use Rattle.vnfm_cli.proofs.CheckLemmas.{read_alone, untouched_alone}
use Rattle.vnfm_cli.proofs.EndingLemmas.{done_put, never_done, put_told, status_told, told_same}
use Rattle.vnfm_cli.proofs.HeadlineLemmas.{untouched_leaves}

-- a failure's status is told, whether the line was put or not
failed_is : (put : Bool) (why : Failure) (status : ℕ) → status ≡ told_status put (failure_status why) → status ≡ failure_status why
failed_is put why status is = is ∙ told_same put (failure_status why) (failure_status why) refl (λ none. never_done true why none)

-- these two answers are one
abbrev AreOne : Result ℕ MigrateFault → Result ℕ MigrateFault → Type 0
AreOne x y = x ≡ y

-- what a status says of an answer of a migration that read the journal
record Tells (moved : Result ℕ MigrateFault) (status : ℕ) : Type 0 where
  done : (status ≡ 0) ⊎ (status ≡ 7) → (n : ℕ) × (moved ≡ Ok n)
  five : status ≡ 5 → ⊥
  eight : status ≡ 8 → ⊥
  eleven : status ≡ 11 → moved ≡ Err fault.Taken
  nine : status ≡ 9 → (end : ℕ) × (more : ℕ) × (moved ≡ Err (fault.Full end more))
  taken : IsOrFails (Err fault.Taken) moved → IsOrYields 11 status
  full : (end more : ℕ) → IsOrFails (Err (fault.Full end more)) moved → IsOrYields 9 status

tells_done : (put : Bool) (n status : ℕ) → status ≡ told_status put 0 → Tells (Ok n) status
tells_done put n status is = record {
  done = λ at. (n, refl);
  five = λ e. never 5 e (omega arith) (omega arith);
  eight = λ e. never 8 e (omega arith) (omega arith);
  eleven = λ e. absurd (never 11 e (omega arith) (omega arith));
  nine = λ e. absurd (never 9 e (omega arith) (omega arith));
  taken = λ or. ⊎_elim (λ (e : AreOne (Ok n) (Err fault.Taken)). absurd (cc e)) (λ (e : AreOne (Ok n) (Err fault.Disk)). absurd (cc e)) or;
  full = λ end more or. ⊎_elim (λ (e : AreOne (Ok n) (Err (fault.Full end more))). absurd (cc e))
      (λ (e : AreOne (Ok n) (Err fault.Disk)). absurd (cc e)) or;
} where
  never : (k : ℕ) → status ≡ k → k ≢ 7 → k ≢ 0 → ⊥
  never k at seven none = none (sym (status_told put 0 k (sym is ∙ at) seven))

tells_taken : (status : ℕ) → status ≡ 11 → Tells (Err fault.Taken) status
tells_taken status is = record {
  done = λ at. absurd (⊎_elim (λ (e : status ≡ 0). omega (arith, is, e)) (λ (e : status ≡ 7). omega (arith, is, e)) at);
  five = λ e. omega (arith, is, e);
  eight = λ e. omega (arith, is, e);
  eleven = λ e. refl;
  nine = λ e. absurd (omega (arith, is, e));
  taken = λ or. inl is;
  full = λ end more or. ⊎_elim (λ (e : AreOne (Err fault.Taken) (Err (fault.Full end more))). absurd (cc e))
      (λ (e : AreOne (Err fault.Taken) (Err fault.Disk)). absurd (cc e)) or;
}

tells_full : (end more status : ℕ) → status ≡ 9 → Tells (Err (fault.Full end more)) status
tells_full end more status is = record {
  done = λ at. absurd (⊎_elim (λ (e : status ≡ 0). omega (arith, is, e)) (λ (e : status ≡ 7). omega (arith, is, e)) at);
  five = λ e. omega (arith, is, e);
  eight = λ e. omega (arith, is, e);
  eleven = λ e. absurd (omega (arith, is, e));
  nine = λ e. (end, more, refl);
  taken = λ or. ⊎_elim (λ (e : AreOne (Err (fault.Full end more)) (Err fault.Taken)). absurd (cc e))
      (λ (e : AreOne (Err (fault.Full end more)) (Err fault.Disk)). absurd (cc e)) or;
  full = λ x y or. inl is;
}

tells_disk : (status : ℕ) → status ≡ 3 → Tells (Err fault.Disk) status
tells_disk status is = record {
  done = λ at. absurd (⊎_elim (λ (e : status ≡ 0). omega (arith, is, e)) (λ (e : status ≡ 7). omega (arith, is, e)) at);
  five = λ e. omega (arith, is, e);
  eight = λ e. omega (arith, is, e);
  eleven = λ e. absurd (omega (arith, is, e));
  nine = λ e. absurd (omega (arith, is, e));
  taken = λ or. inr (inl is);
  full = λ end more or. inr (inl is);
}

-- the line of an ending that did its work was put
put_line : (lines : Type 0) → lines → (n : ℕ) (status : ℕ) (c d : Output) → Ends lines (migrating_ending (Ok n)) status c d → status ≡ 0
    → d.bytes ≡ c.bytes ++ migrated_line n
put_line lines told n status c d ends done =
    let line : List ℕ = c.bytes ++ migrated_line n in
    subst (λ (put : Bool). d.bytes ≡ (if put then line else c.bytes)) (done_put ends.put (sym ends.status_is ∙ done)) (ends.line told)

-- what is known of files of format 1
module _ (one : HasOneOldHistory) (good : HasNoBadOldRecord) (other : IsNoOther) (bad : IsNoOtherIfBad) where
  never_none : (m : ℕ) (H : List Event) (s : SiteState) → IsSoundOldStart m H s → IsNoOldJournal s.image → ⊥
  never_none m H s start none = ⊎_elim
      (λ (unmade : IsUnmade s.image). (other m H s.image start.file).0 unmade)
      (λ (foreign : (place : ℕ) × IsForeign place s.image). (other m H s.image start.file).1 foreign.0 foreign.1)
      none

  never_both : (n : ℕ) (image : List ℕ) → IsBadOldRecord n image → IsNoOldJournal image → ⊥
  never_both n image amiss none = ⊎_elim
      (λ (unmade : IsUnmade image). (bad n image amiss).0 unmade)
      (λ (foreign : (place : ℕ) × IsForeign place image). (bad n image amiss).1 foreign.0 foreign.1)
      none

  -- a journal that was refused
  five : (why : OpenFault) (image : List ℕ) → failure_status (unopened_failure why) ≡ 5 → RefusesOld why image → IsNoOldJournal image
  five opening.Unmade image is because = inl because
  five (opening.Foreign place) image is because = inr (place, because)
  five (opening.BadRecord n) image is because = absurd (omega (arith, is))
  five opening.Disk image is because = absurd (omega (arith, is))
  five opening.Memory image is because = absurd (omega (arith, is))

  eight : (why : OpenFault) (image : List ℕ) → failure_status (unopened_failure why) ≡ 8 → RefusesOld why image
      → (n : ℕ) × IsBadOldRecord n image
  eight opening.Unmade image is because = absurd (omega (arith, is))
  eight (opening.Foreign place) image is because = absurd (omega (arith, is))
  eight (opening.BadRecord n) image is because = (n, because)
  eight opening.Disk image is because = absurd (omega (arith, is))
  eight opening.Memory image is because = absurd (omega (arith, is))

  none_yields : (why : OpenFault) (image : List ℕ) → RefusesOld why image → IsNoOldJournal image
      → IsOrYields 5 (failure_status (unopened_failure why))
  none_yields opening.Unmade image because none = inl refl
  none_yields (opening.Foreign place) image because none = inl refl
  none_yields (opening.BadRecord n) image because none = absurd (never_both n image because none)
  none_yields opening.Disk image because none = inr (inl refl)
  none_yields opening.Memory image because none = inr (inr refl)

  bad_yields : (why : OpenFault) (n : ℕ) (image : List ℕ) → RefusesOld why image → IsBadOldRecord n image
      → IsOrYields 8 (failure_status (unopened_failure why))
  bad_yields opening.Unmade n image because amiss = absurd (never_both n image amiss (inl because))
  bad_yields (opening.Foreign place) n image because amiss = absurd (never_both n image amiss (inr (place, because)))
  bad_yields (opening.BadRecord k) n image because amiss = inl refl
  bad_yields opening.Disk n image because amiss = inr (inl refl)
  bad_yields opening.Memory n image because amiss = inr (inr refl)

  -- a sound start is refused for a disk fault or want of memory alone
  sound_yields : (why : OpenFault) (m : ℕ) (H : List Event) (s : SiteState) → RefusesOld why s.image → IsSoundOldStart m H s
      → (failure_status (unopened_failure why) ≡ 3) ⊎ (failure_status (unopened_failure why) ≡ 6)
  sound_yields opening.Unmade m H s because start = absurd (never_none m H s start (inl because))
  sound_yields (opening.Foreign place) m H s because start = absurd (never_none m H s start (inr (place, because)))
  sound_yields (opening.BadRecord n) m H s because start = absurd (good m n H s.image start.number start.file start.legal because)
  sound_yields opening.Disk m H s because start = inl refl
  sound_yields opening.Memory m H s because start = inr refl

  -- the statuses of a refused journal
  refused_status : (why : OpenFault) → (failure_status (unopened_failure why) ≡ 3) ⊎ ((failure_status (unopened_failure why) ≡ 5)
      ⊎ ((failure_status (unopened_failure why) ≡ 6) ⊎ (failure_status (unopened_failure why) ≡ 8)))
  refused_status opening.Unmade = inr (inl refl)
  refused_status (opening.Foreign place) = inr (inl refl)
  refused_status (opening.BadRecord n) = inr (inr (inr refl))
  refused_status opening.Disk = inl refl
  refused_status opening.Memory = inr (inr (inl refl))

  never_status : (why : OpenFault) (status k : ℕ) → status ≡ failure_status (unopened_failure why) → status ≡ k → 8 < k ⊎ (k ≡ 0) ⊎ (k ≡ 7) → ⊥
  never_status why status k is at far =
      let by : (s : ℕ) → (s ≡ 3) ⊎ ((s ≡ 5) ⊎ ((s ≡ 6) ⊎ (s ≡ 8))) → status ≡ s → ⊥ = λ s or e.
      ⊎_elim (λ (h : s ≡ 3). clash s h e (omega arith) (omega arith) (omega arith))
      (λ (h : (s ≡ 5) ⊎ ((s ≡ 6) ⊎ (s ≡ 8))). ⊎_elim (λ (h : s ≡ 5). clash s h e (omega arith) (omega arith) (omega arith))
      (λ (h : (s ≡ 6) ⊎ (s ≡ 8)). ⊎_elim (λ (h : s ≡ 6). clash s h e (omega arith) (omega arith) (omega arith))
      (λ (h : s ≡ 8). clash s h e (omega arith) (omega arith) (omega arith)) h) h) or in
      by (failure_status (unopened_failure why)) (refused_status why) is where
        clash : {v : ℕ} (s : ℕ) → s ≡ v → status ≡ s → v < 9 → 0 < v → v ≢ 7 → ⊥
        clash {v = v} s h e small some seven = ⊎_elim
            (λ (l : 8 < k). omega (arith, l, h, e, at, small))
            (λ (r : (k ≡ 0) ⊎ (k ≡ 7)). ⊎_elim (λ (z : k ≡ 0). omega (arith, z, h, e, at, some)) (λ (z : k ≡ 7). seven (omega (arith, z, h, e, at))) r)
            far

  -- a journal that wasn't read leaves the second file alone
  refused_so : (why : OpenFault) (lines : Type 0) (status : ℕ) (a b : Ground) (c d : Spare) → status ≡ failure_status (unopened_failure why)
      → IsLeftAlone a.outside.site b.outside.site → KeepsJobs c.site d.site → IsSpared c d → RefusesOld why a.outside.site.image
      → ¬ (status ≡ 3) ⊎ Rose a.outside.counts.disk b.outside.counts.disk → MigratesSo lines status a b c d
  refused_so why lines status a b c d is alone jobs spared because disk =
      let left = untouched_alone c.site d.site spared.site jobs in
      let P : ℕ → ℕ → Type 0 = λ n s. IsOrYields n s in
      let yields : (n : ℕ) → (m : ℕ) (H : List Event) → IsSoundOldStart m H a.outside.site → IsOrYields n status =
      λ n m H start. subst (P n) (sym is) (inr (sound_yields why m H a.outside.site because start)) in
      record {
        alone = alone;
        jobs = jobs;
        moments = λ m H start may. untouched_leaves (IsMigrating m H) c.site d.site spared.site
            (λ p left. record { file = inl (may.each p left) });
        made = λ at. absurd (⊎_elim
            (λ (e : status ≡ 0). never_status why status 0 is e (inr (inl refl)))
            (λ (e : status ≡ 7). never_status why status 7 is e (inr (inr refl))) at);
        line = λ told e. absurd (never_status why status 0 is e (inr (inl refl)));
        no_journal = λ e. five why a.outside.site.image (sym is ∙ e) because;
        is_no_journal = λ none. (subst (P 5) (sym is) (none_yields why a.outside.site.image because none), spared);
        record_is_bad = λ e. eight why a.outside.site.image (sym is ∙ e) because;
        bad_record = λ n amiss. (subst (P 8) (sym is) (bad_yields why n a.outside.site.image because amiss), spared);
        taken = λ e. absurd (never_status why status 11 is e (inl (omega arith)));
        is_taken = λ m H start not. (yields 11 m H start, left);
        full = λ e. absurd (never_status why status 9 is e (inl (omega arith)));
        is_full = λ m H unfit start unfinished many. (yields 9 m H start, left);
        complete = λ start same other sink. ⊎_elim
            (λ (e : failure_status (unopened_failure why) ≡ 3). absurd (⊎_elim
            (λ (no : status ≡ 3 → ⊥). no (is ∙ e)) (λ (rose : Rose a.outside.counts.disk b.outside.counts.disk). same rose) disk))
            (λ (e : failure_status (unopened_failure why) ≡ 6). inr (inl (is ∙ e)))
            (sound_yields why start.0 start.1 a.outside.site because start.2);
      }

  -- a journal that was read: what came of it, of its one history
  moved_so : (moved : Result ℕ MigrateFault) (lines : Type 0) (status : ℕ) (a b : Ground) (c d : Spare) → Tells moved status
      → IsLeftAlone a.outside.site b.outside.site → KeepsJobs c.site d.site
      → (m : ℕ) (H : List Event) → IsSoundOldStart m H a.outside.site → Migrates m H moved c.site d.site
      → (lines → status ≡ 0 → (n : ℕ) → moved ≡ Ok n → b.lines.bytes ≡ a.lines.bytes ++ migrated_line n)
      → (¬ (Rose c.counts.disk d.counts.disk) → ¬ (Rose a.lines.counts.faults b.lines.counts.faults) → MayEndWith Migrate status)
      → MigratesSo lines status a b c d
  moved_so moved lines status a b c d tells alone jobs m H start migrates line ends =
      let same : (k : ℕ) (G : List Event) → IsSoundOldStart k G a.outside.site → (m ≡ k) × (H ≡ G) =
      λ k G also. one m k H G a.outside.site.image start.number also.number start.file also.file in
      let P : ℕ → List Event → Type 0 = λ k G. Migrates k G moved c.site d.site in
      let for : (k : ℕ) (G : List Event) → IsSoundOldStart k G a.outside.site → Migrates k G moved c.site d.site =
      λ k G also. let e = same k G also in
      let Q : ℕ → Type 0 = λ v. P v G in let R : List Event → Type 0 = λ v. P m v in subst Q e.0 (subst R e.1 migrates) in
      let never : IsNoOldJournal a.outside.site.image → ⊥ = never_none m H a.outside.site start in
      record {
        alone = alone;
        jobs = jobs;
        moments = λ k G also may. (for k G also).any_moment may;
        made = λ at. (m, H, start, made_of moved (tells.done at).0 (tells.done at).1 migrates);
        line = λ told e k G also.
            let did = tells.done (inl e) in
            line told e did.0 did.1 ∙ ap (λ n. a.lines.bytes ++ migrated_line n) (count_of moved did.0 did.1 migrates
            ∙ ap (λ (G : List Event). length G) (same k G also).1);
        no_journal = λ e. absurd (tells.five e);
        is_no_journal = λ none. absurd (never none);
        record_is_bad = λ e. absurd (tells.eight e);
        bad_record = λ n amiss. absurd (good m n H a.outside.site.image start.number start.file start.legal amiss);
        taken = λ e. (m, H, start, migrates.taken (tells.eleven e));
        is_taken = λ k G also not.
            let kept = (for k G also).kept not in (tells.taken kept.1, read_alone c.site d.site kept.0);
        full = λ e.
            let it = tells.nine e in
            let found = migrates.full it.0 it.1 it.2 in
            (m, H, start, found.0, (record { end = it.0; more = it.1 }, found.2));
        is_full = λ k G unfit also unfinished many.
            let kept = (for k G also).too_many unfit.end unfit.more many unfinished in
            (tells.full unfit.end unfit.more kept.1, read_alone c.site d.site kept.0);
        complete = λ begun first second sink. ends second sink;
      } where
        made_of : (moved : Result ℕ MigrateFault) (n : ℕ) → moved ≡ Ok n → Migrates m H moved c.site d.site → HasMigrated m H d.site
        made_of (Ok k) n is migrates = migrates.made.1
        made_of (Err why) n is migrates = absurd (cc is)

        count_of : (moved : Result ℕ MigrateFault) (n : ℕ) → moved ≡ Ok n → Migrates m H moved c.site d.site → n ≡ length H
        count_of (Ok k) n is migrates = let e : n ≡ k = cc in e ∙ migrates.made.0
        count_of (Err why) n is migrates = absurd (cc is)

  -- what was moved or not, by what the run tells of it
  pub moves_so : (tells spare_tells lines : Type 0) → tells → spare_tells → (moved : Result ℕ MigrateFault) (status : ℕ) (a b : Ground)
      (c d : Spare) → Moves tells spare_tells moved (record { site = a.outside.site; counts = a.outside.counts })
      (record { site = b.outside.site; counts = b.outside.counts }) c d
      → Ends lines (migrating_ending moved) status a.lines b.lines → MigratesSo lines status a b c d
  moves_so tells spare_tells lines told spare_told (Err (fault.Open why)) status a b c d moves ends =
      let is = failed_is ends.put (unopened_failure why) status ends.status_is in
      let refused = moves.refused why refl in
      refused_so why lines status a b c d is (read_alone a.outside.site b.outside.site (moves.reads told)) (moves.jobs spare_told) refused.0
      (refused.1 told) (disk_of why is moves.first) where
        disk_of : (why : OpenFault) → status ≡ failure_status (unopened_failure why)
            → FailsWhere (AreOne (Err (fault.Open why)) (Err (fault.Open opening.Disk))) (asked sync a.outside.counts) b.outside.counts
            → ¬ (status ≡ 3) ⊎ Rose a.outside.counts.disk b.outside.counts.disk
        disk_of opening.Disk is first = inr (one_fault _ _ (ap (λ (v : SiteCounts). v.disk) (first.rose refl)))
        disk_of opening.Unmade is first = inl (λ e. omega (arith, is, e))
        disk_of (opening.Foreign place) is first = inl (λ e. omega (arith, is, e))
        disk_of (opening.BadRecord n) is first = inl (λ e. omega (arith, is, e))
        disk_of opening.Memory is first = inl (λ e. omega (arith, is, e))
  moves_so tells spare_tells lines told spare_told (Ok n) status a b c d moves ends =
      let from = moves.migrates told spare_told in
      moved_so (Ok n) lines status a b c d (tells_done ends.put n status ends.status_is)
      (read_alone a.outside.site b.outside.site (moves.reads told)) (moves.jobs spare_told) from.0 from.1
      (record { number = from.2; file = from.3; legal = from.4 }) from.5
      (λ line done k is. put_line lines line n status a.lines b.lines ends done ∙ ap (λ v. a.lines.bytes ++ migrated_line v) (num n k is))
      (λ second sink. inl (put_told _ _ _ ends.status_is (λ lost. sink (lost_line _ _ _ ends.counts lost)))) where
        num : (n k : ℕ) → AreOne (Ok n) (Ok k) → n ≡ k
        num n k is = cc
  moves_so tells spare_tells lines told spare_told (Err fault.Taken) status a b c d moves ends =
      let from = moves.migrates told spare_told in
      let is = failed_is ends.put (unmigrated fault.Taken) status ends.status_is in
      moved_so (Err fault.Taken) lines status a b c d (tells_taken status is)
      (read_alone a.outside.site b.outside.site (moves.reads told)) (moves.jobs spare_told) from.0 from.1
      (record { number = from.2; file = from.3; legal = from.4 }) from.5
      (λ line done k is. absurd (cc is)) (λ second sink. inr (inr (inr is)))
  moves_so tells spare_tells lines told spare_told (Err (fault.Full end more)) status a b c d moves ends =
      let from = moves.migrates told spare_told in
      let is = failed_is ends.put (unmigrated (fault.Full end more)) status ends.status_is in
      moved_so (Err (fault.Full end more)) lines status a b c d (tells_full end more status is)
      (read_alone a.outside.site b.outside.site (moves.reads told)) (moves.jobs spare_told) from.0 from.1
      (record { number = from.2; file = from.3; legal = from.4 }) from.5
      (λ line done k is. absurd (cc is)) (λ second sink. inr (inr (inl is)))
  moves_so tells spare_tells lines told spare_told (Err fault.Disk) status a b c d moves ends =
      let from = moves.migrates told spare_told in
      let is = failed_is ends.put (unmigrated fault.Disk) status ends.status_is in
      moved_so (Err fault.Disk) lines status a b c d (tells_disk status is)
      (read_alone a.outside.site b.outside.site (moves.reads told)) (moves.jobs spare_told) from.0 from.1
      (record { number = from.2; file = from.3; legal = from.4 }) from.5
      (λ line done k is. absurd (cc is))
      (λ second sink. absurd (second (one_fault _ _ (moves.second.rose refl))))

  -- there was no memory for what the words set
  pub starved_so : (lines : Type 0) (status : ℕ) (a b : Ground) (c d : Spare)
      → IsSpared (record { site = a.outside.site; counts = a.outside.counts }) (record { site = b.outside.site; counts = b.outside.counts })
      → IsSpared c d → status ≡ 6 → MigratesSo lines status a b c d
  starved_so lines status a b c d first second is =
      let left = untouched_alone c.site d.site second.site second.jobs in
      record {
        alone = untouched_alone a.outside.site b.outside.site first.site first.jobs;
        jobs = second.jobs;
        moments = λ m H start may. untouched_leaves (IsMigrating m H) c.site d.site second.site
            (λ p left. record { file = inl (may.each p left) });
        made = λ at. absurd (⊎_elim (λ (e : status ≡ 0). omega (arith, is, e)) (λ (e : status ≡ 7). omega (arith, is, e)) at);
        line = λ told e. absurd (omega (arith, is, e));
        no_journal = λ e. absurd (omega (arith, is, e));
        is_no_journal = λ none. (inr (inr is), second);
        record_is_bad = λ e. absurd (omega (arith, is, e));
        bad_record = λ n amiss. (inr (inr is), second);
        taken = λ e. absurd (omega (arith, is, e));
        is_taken = λ m H start not. (inr (inr is), left);
        full = λ e. absurd (omega (arith, is, e));
        is_full = λ m H unfit start unfinished many. (inr (inr is), left);
        complete = λ begun same other sink. inr (inl is);
      }

-- which of the two disks failed is told by 3
disk_so : (moved : Result ℕ MigrateFault) (put : Bool) (status : ℕ) (a b c d : SiteCounts)
    → FailsWhere (moved ≡ Err (fault.Open opening.Disk)) (asked sync a) b → OnlyDiskFails (moved ≡ Err fault.Disk) c d
    → status ≡ told_status put (status_of (migrating_ending moved))
    → ((moved ≡ Err (fault.Open opening.Disk)) ⊎ (moved ≡ Err fault.Disk)) ⊎ (status ≡ 3 → ⊥) → OneDiskFails (status ≡ 3) a b c d
disk_so moved put status a b c d first second is which =
    let one = moved_fails moved a b first in
    ⊎_elim
    (λ (h : (moved ≡ Err (fault.Open opening.Disk)) ⊎ (moved ≡ Err fault.Disk)). ⊎_elim
    (λ (e : moved ≡ Err (fault.Open opening.Disk)). record {
      rose = λ three. inl (one.rose e, second.stays (λ wrong. cc (sym e ∙ wrong)));
      stays = λ never. absurd (never (three moved put e is));
    })
    (λ (e : moved ≡ Err fault.Disk). record {
      rose = λ three. inr (one.stays (λ wrong. cc (sym e ∙ wrong)), second.rose e);
      stays = λ never. absurd (never (three_too moved put e is));
    }) h)
    (λ (h : status ≡ 3 → ⊥). record {
      rose = λ three. absurd (h three);
      stays = λ never. (one.stays (λ e. h (three moved put e is)), second.stays (λ e. h (three_too moved put e is)));
    })
    which where
      three : (moved : Result ℕ MigrateFault) (put : Bool) → moved ≡ Err (fault.Open opening.Disk)
          → status ≡ told_status put (status_of (migrating_ending moved)) → status ≡ 3
      three moved put e is = is ∙ told_same put (status_of (migrating_ending moved)) 3 (ap (λ (v : Result ℕ MigrateFault). status_of (migrating_ending v)) e) (omega arith)

      three_too : (moved : Result ℕ MigrateFault) (put : Bool) → moved ≡ Err fault.Disk
          → status ≡ told_status put (status_of (migrating_ending moved)) → status ≡ 3
      three_too moved put e is = is ∙ told_same put (status_of (migrating_ending moved)) 3 (ap (λ (v : Result ℕ MigrateFault). status_of (migrating_ending v)) e) (omega arith)

-- an answer is one of a disk that failed, or isn't told by 3
disk_or : (moved : Result ℕ MigrateFault) (put : Bool) (status : ℕ) → status ≡ told_status put (status_of (migrating_ending moved))
    → ((moved ≡ Err (fault.Open opening.Disk)) ⊎ (moved ≡ Err fault.Disk)) ⊎ (status ≡ 3 → ⊥)
disk_or (Ok n) put status is = inr (λ e. (let z = status_told put 0 3 (sym is ∙ e) (omega arith) in omega (arith, z)))
disk_or (Err (fault.Open opening.Disk)) put status is = inl (inl refl)
disk_or (Err fault.Disk) put status is = inl (inr refl)
disk_or (Err (fault.Open opening.Unmade)) put status is = inr (λ e. (let z = status_told put 5 3 (sym is ∙ e) (omega arith) in omega (arith, z)))
disk_or (Err (fault.Open (opening.Foreign place))) put status is = inr (λ e. (let z = status_told put 5 3 (sym is ∙ e) (omega arith) in omega (arith, z)))
disk_or (Err (fault.Open (opening.BadRecord n))) put status is = inr (λ e. (let z = status_told put 8 3 (sym is ∙ e) (omega arith) in omega (arith, z)))
disk_or (Err (fault.Open opening.Memory)) put status is = inr (λ e. (let z = status_told put 6 3 (sym is ∙ e) (omega arith) in omega (arith, z)))
disk_or (Err fault.Taken) put status is = inr (λ e. (let z = status_told put 11 3 (sym is ∙ e) (omega arith) in omega (arith, z)))
disk_or (Err (fault.Full end more)) put status is = inr (λ e. (let z = status_told put 9 3 (sym is ∙ e) (omega arith) in omega (arith, z)))

pub moved_disk : (tells spare_tells : Type 0) (moved : Result ℕ MigrateFault) (put : Bool) (status : ℕ) (a b c d : Spare)
    → Moves tells spare_tells moved a b c d → status ≡ told_status put (status_of (migrating_ending moved))
    → OneDiskFails (status ≡ 3) a.counts b.counts c.counts d.counts
moved_disk tells spare_tells moved put status a b c d moves is =
    disk_so moved put status a.counts b.counts c.counts d.counts moves.first moves.second is (disk_or moved put status is)

pub starved_disk : (status : ℕ) (a b c d : Spare) → IsSpared a b → IsSpared c d → status ≡ 6
    → OneDiskFails (status ≡ 3) a.counts b.counts c.counts d.counts
starved_disk status a b c d first second is = record {
  rose = λ three. absurd (omega (arith, is, three));
  stays = λ never. (ap (λ (v : SiteCounts). v.disk) first.counts, ap (λ (v : SiteCounts). v.disk) second.counts);
}

-- where the journal wasn't read the second file wasn't called
pub moved_unread : (tells spare_tells : Type 0) (moved : Result ℕ MigrateFault) (put : Bool) (status : ℕ) (a b c d : Spare)
    → Moves tells spare_tells moved a b c d → status ≡ told_status put (status_of (migrating_ending moved))
    → (status ≡ 5) ⊎ ((status ≡ 6) ⊎ (status ≡ 8)) → IsSpared c d
moved_unread tells spare_tells (Err (fault.Open why)) put status a b c d moves is at = (moves.refused why refl).0
moved_unread tells spare_tells (Ok n) put status a b c d moves is at = absurd (⊎_elim
    (λ (e : status ≡ 5). (let z = status_told put 0 5 (sym is ∙ e) (omega arith) in omega (arith, z)))
    (λ (h : (status ≡ 6) ⊎ (status ≡ 8)). ⊎_elim
    (λ (e : status ≡ 6). (let z = status_told put 0 6 (sym is ∙ e) (omega arith) in omega (arith, z)))
    (λ (e : status ≡ 8). (let z = status_told put 0 8 (sym is ∙ e) (omega arith) in omega (arith, z))) h) at)
moved_unread tells spare_tells (Err fault.Taken) put status a b c d moves is at = absurd (⊎_elim
    (λ (e : status ≡ 5). (let z = status_told put 11 5 (sym is ∙ e) (omega arith) in omega (arith, z)))
    (λ (h : (status ≡ 6) ⊎ (status ≡ 8)). ⊎_elim
    (λ (e : status ≡ 6). (let z = status_told put 11 6 (sym is ∙ e) (omega arith) in omega (arith, z)))
    (λ (e : status ≡ 8). (let z = status_told put 11 8 (sym is ∙ e) (omega arith) in omega (arith, z))) h) at)
moved_unread tells spare_tells (Err (fault.Full end more)) put status a b c d moves is at = absurd (⊎_elim
    (λ (e : status ≡ 5). (let z = status_told put 9 5 (sym is ∙ e) (omega arith) in omega (arith, z)))
    (λ (h : (status ≡ 6) ⊎ (status ≡ 8)). ⊎_elim
    (λ (e : status ≡ 6). (let z = status_told put 9 6 (sym is ∙ e) (omega arith) in omega (arith, z)))
    (λ (e : status ≡ 8). (let z = status_told put 9 8 (sym is ∙ e) (omega arith) in omega (arith, z))) h) at)
moved_unread tells spare_tells (Err fault.Disk) put status a b c d moves is at = absurd (⊎_elim
    (λ (e : status ≡ 5). (let z = status_told put 3 5 (sym is ∙ e) (omega arith) in omega (arith, z)))
    (λ (h : (status ≡ 6) ⊎ (status ≡ 8)). ⊎_elim
    (λ (e : status ≡ 6). (let z = status_told put 3 6 (sym is ∙ e) (omega arith) in omega (arith, z)))
    (λ (e : status ≡ 8). (let z = status_told put 3 8 (sym is ∙ e) (omega arith) in omega (arith, z))) h) at)

-- what a run of these words does beside what each run promises
pub migrates_as : HasOneOldHistory → HasNoBadOldRecord → IsNoOther → IsNoOtherIfBad → (t : outside.Tells) (spare_tells lines : Type 0)
    (ending : Ending) (words : List (List ℕ)) (status : ℕ) (a b : Ground) (c d : Spare)
    → (AreWordsOf Migrate words → MovesOrStarves t.site spare_tells ending (spare_of a.outside.site a.outside.counts)
    (spare_of b.outside.site b.outside.counts) c d)
    → Ends lines ending status a.lines b.lines → MigratesAs t spare_tells lines words status a b c d
migrates_as one good other bad t spare_tells lines ending words status a b c d moves ends = record {
  disk = λ are. ⊎_elim
      (λ (m : (moved : Result ℕ MigrateFault) × (ending ≡ migrating_ending moved) × Moves t.site spare_tells moved
      (spare_of a.outside.site a.outside.counts) (spare_of b.outside.site b.outside.counts) c d).
      moved_disk t.site spare_tells m.0 ends.put status _ _ c d m.2 (ends.status_is ∙ ap (λ (e : Ending). told_status ends.put (status_of e)) m.1))
      (λ (m : (ending ≡ Err NoMemory) × IsSpared (spare_of a.outside.site a.outside.counts) (spare_of b.outside.site b.outside.counts)
      × IsSpared c d). starved_disk status _ _ c d m.1 m.2 (starved m.0))
      (moves are);
  unread = λ are at. ⊎_elim
      (λ (m : (moved : Result ℕ MigrateFault) × (ending ≡ migrating_ending moved) × Moves t.site spare_tells moved
      (spare_of a.outside.site a.outside.counts) (spare_of b.outside.site b.outside.counts) c d).
      moved_unread t.site spare_tells m.0 ends.put status _ _ c d m.2 (ends.status_is ∙ ap (λ (e : Ending). told_status ends.put (status_of e)) m.1)
      at)
      (λ (m : (ending ≡ Err NoMemory) × IsSpared (spare_of a.outside.site a.outside.counts) (spare_of b.outside.site b.outside.counts)
      × IsSpared c d). m.2)
      (moves are);
  told = λ told spare_told are. ⊎_elim
      (λ (m : (moved : Result ℕ MigrateFault) × (ending ≡ migrating_ending moved) × Moves t.site spare_tells moved
      (spare_of a.outside.site a.outside.counts) (spare_of b.outside.site b.outside.counts) c d).
      let P : Ending → Type 0 = λ e. Ends lines e status a.lines b.lines in
      moves_so one good other bad t.site spare_tells lines told spare_told m.0 status a b c d m.2 (subst P m.1 ends))
      (λ (m : (ending ≡ Err NoMemory) × IsSpared (spare_of a.outside.site a.outside.counts) (spare_of b.outside.site b.outside.counts)
      × IsSpared c d). starved_so one good other bad lines status a b c d m.1 m.2 (starved m.0))
      (moves are);
} where
  starved : ending ≡ Err NoMemory → status ≡ 6
  starved is = failed_is ends.put NoMemory status (ends.status_is ∙ ap (λ (e : Ending). told_status ends.put (status_of e)) is)
