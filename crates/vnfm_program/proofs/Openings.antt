-- From what the openings told to which files were opened.
use Rattle.std.proofs.Common.{◌≡◌, ◌⊎◌, List, ℕ, Result, Ok, Err, Some, OnErr, OnOk, refl, subst, sym, inl, inr}
use Rattle.std.specs.declared.alloc.AllocError.{AllocError}
use Rattle.command_line.specs.declared.options.Command.{Command}
use Rattle.command_line.specs.declared.options.Command.TheVariants.{Check, Init, Migrate, Onboard, Once, Serve, Trial}
use Rattle.command_line.specs.declared.options.Settings.{Settings}
use Rattle.outside_edges.specs.Having.{LeavesAll, Seeks, lost_by}
use Rattle.outside_edges.specs.Site.{IsExplained, IsHeld, counts_of}
use Rattle.outside_edges.specs.declared.jobs.NoJobs.{NoJobs}
use Rattle.outside_edges.specs.declared.real_site.FolderSync.{FolderSync}
use Rattle.outside_edges.specs.declared.real_site.FolderSync.TheVariants.{Always}
use Rattle.outside_edges.specs.declared.real_site.RealSite.{RealSite}
use Rattle.outside_edges.specs.declared.real_site.WhyLost.{WhyLost}
use Rattle.outside_edges.specs.declared.real_site.WhyLost.TheVariants.{Memory}
use Rattle.vnfm_program.specs.Opening.{AsksForFile, FilesMeaning, OpensFile, OpensFiles, OpensSpare, Sites}
use Rattle.vnfm_program.specs.Opening.{StarvesOpening, folder_of}

module _ {H F : Type 0} where
  -- a file that was asked for at this path and so is one that was asked for at an equal one, and so
  pub asked_as : (m : FilesMeaning H F) (path other : List ℕ) (folder kept : FolderSync) (lost : WhyLost) (old new : H)
      → other ≡ path → kept ≡ folder → AsksForFile m other kept (Some lost) old new
      → AsksForFile m path folder (Some lost) old new
  asked_as m path other folder kept lost old new same_path same_folder asks =
      subst (λ (f : FolderSync). AsksForFile m path f (Some lost) old new) same_folder
      (subst (λ (p : List ℕ). AsksForFile m p kept (Some lost) old new) same_path asks)

  -- the same of one that was opened
  opened_as : {J : Type 0} (m : FilesMeaning H F) (path other : List ℕ) (folder kept : FolderSync) (old new : H)
      (before behind : RealSite F J)
      → other ≡ path → kept ≡ folder → OpensFile m other kept old new before behind
      → OpensFile m path folder old new before behind
  opened_as m path other folder kept old new before behind same_path same_folder opens =
      subst (λ (f : FolderSync). OpensFile m path f old new before behind) same_folder
      (subst (λ (p : List ℕ). OpensFile m p kept old new before behind) same_path opens)

  -- the spare of `migrate` is opened
  opens_spare : (m : FilesMeaning H F) (command : Command) (path : List ℕ) (old new : H)
      (before behind : RealSite F NoJobs)
      → command ≡ Migrate → OpensFile m path Always old new before behind
      → OpensSpare m command path old new before behind
  opens_spare m command path old new before behind is opens =
      subst (λ (c : Command). OpensSpare m c path old new before behind) (sym is) opens

  -- that of the others is left
  spare_left : (m : FilesMeaning H F) (command : Command) (path : List ℕ) (files : H)
      (before behind : RealSite F NoJobs)
      → (command ≡ Init) ⊎ ((command ≡ Onboard) ⊎ ((command ≡ Once) ⊎ ((command ≡ Serve) ⊎ ((command ≡ Check)
      ⊎ (command ≡ Trial)))))
      → behind ≡ before → OpensSpare m command path files files before behind
  spare_left m command path files before behind others kept = elim others [
    | inl is ↦ subst (λ (c : Command). OpensSpare m c path files files before behind) (sym is) (refl, kept)
    | inr (inl is) ↦ subst (λ (c : Command). OpensSpare m c path files files before behind) (sym is) (refl, kept)
    | inr (inr (inl is)) ↦ subst (λ (c : Command). OpensSpare m c path files files before behind) (sym is) (refl, kept)
    | inr (inr (inr (inl is))) ↦ subst (λ (c : Command). OpensSpare m c path files files before behind) (sym is) (refl, kept)
    | inr (inr (inr (inr (inl is)))) ↦ subst (λ (c : Command). OpensSpare m c path files files before behind) (sym is) (refl, kept)
    | inr (inr (inr (inr (inr is)))) ↦ subst (λ (c : Command). OpensSpare m c path files files before behind) (sym is) (refl, kept)
  ]

-- what holds holds where the opening failed
pub on_err : {T E : Type 0} (r : Result T E) (P : Type 0) → P → OnErr r P
on_err (Ok done) P p = tt
on_err (Err fault) P p = p

module _ {H F J : Type 0} where
  -- the opening of the journal's file was this
  pub opens_journal : (m : FilesMeaning H F) (settings : Settings) (path : List ℕ) (folder : FolderSync) (old new : H)
      (before behind : RealSite F J)
      → path ≡ settings.journal → folder ≡ folder_of settings.command
      → (m.tells → Seeks path folder behind.why (m.places old) (m.places new))
      → (m.tells → LeavesAll path (m.places old) (m.places new))
      → (m.tells → m.file_tells → IsHeld m.state m.hold path folder behind.file (m.places old) (m.places new))
      → IsExplained behind.file behind.why → counts_of behind ≡ counts_of before → behind.jobs ≡ before.jobs
      → OpensFile m settings.journal (folder_of settings.command) old new before behind
  opens_journal m settings path folder old new before behind same_path same_folder seeks stands had why counts jobs =
      opened_as m settings.journal path (folder_of settings.command) folder old new before behind same_path same_folder
      (record {
        asks = record { seeks = seeks; stands = stands };
        file = had;
        why = why;
        counts = counts;
        jobs = jobs;
      })

  -- behind the journal, the opening on the spare of `migrate` ended so
  pub both_opened : (m : FilesMeaning H F) (settings : Settings) (a b : Sites H F J) (between : H) (path : List ℕ)
      (r : Result (Unit {0}) AllocError)
      → settings.command ≡ Migrate → path ≡ settings.to
      → OpensFile m settings.journal (folder_of settings.command) a.files between a.site b.site
      → (m.tells → Seeks path Always (lost_by r b.spare.why) (m.places between) (m.places b.files))
      → (m.tells → LeavesAll path (m.places between) (m.places b.files))
      → (m.tells → m.file_tells
      → OnOk r (IsHeld m.state m.hold path Always b.spare.file (m.places between) (m.places b.files)))
      → OnOk r (IsExplained b.spare.file b.spare.why) → counts_of b.spare ≡ counts_of a.spare
      → b.spare.jobs ≡ a.spare.jobs
      → OnOk r (OpensFiles m settings a b)
  both_opened m settings a b between path (Ok done) is same journal seeks stands had why counts jobs = record {
    between = between;
    journal = journal;
    spare = opens_spare m settings.command settings.to between b.files a.spare b.spare is
        (opened_as m settings.to path Always Always between b.files a.spare b.spare same refl (record {
          asks = record { seeks = seeks; stands = stands };
          file = had;
          why = why;
          counts = counts;
          jobs = jobs;
        }));
  }
  both_opened m settings a b between path (Err fault) is same journal seeks stands had why counts jobs = tt

  -- or there was no memory for it
  pub spare_starved : (m : FilesMeaning H F) (settings : Settings) (a b : Sites H F J) (between : H) (path : List ℕ)
      (r : Result (Unit {0}) AllocError)
      → settings.command ≡ Migrate → path ≡ settings.to
      → OpensFile m settings.journal (folder_of settings.command) a.files between a.site b.site
      → (m.tells → Seeks path Always (lost_by r b.spare.why) (m.places between) (m.places b.files))
      → (m.tells → LeavesAll path (m.places between) (m.places b.files))
      → OnErr r (b.spare ≡ a.spare)
      → OnErr r (StarvesOpening m settings a b)
  spare_starved m settings a b between path (Ok done) is same journal seeks stands kept = tt
  spare_starved m settings a b between path (Err fault) is same journal seeks stands kept = inr (record {
    migrates = is;
    between = between;
    journal = journal;
    asks = asked_as m settings.to path Always Always Memory between b.files same refl
        (record { seeks = seeks; stands = stands });
    kept = kept;
  })

  -- every other command opens the journal alone
  pub journal_opened : (m : FilesMeaning H F) (settings : Settings) (a b : Sites H F J)
      → (settings.command ≡ Init)
      ⊎ ((settings.command ≡ Onboard) ⊎ ((settings.command ≡ Once) ⊎ ((settings.command ≡ Serve) ⊎ ((settings.command ≡ Check)
      ⊎ (settings.command ≡ Trial)))))
      → OpensFile m settings.journal (folder_of settings.command) a.files b.files a.site b.site → b.spare ≡ a.spare
      → OpensFiles m settings a b
  journal_opened m settings a b others journal kept = record {
    between = b.files;
    journal = journal;
    spare = spare_left m settings.command settings.to b.files a.spare b.spare others kept;
  }
