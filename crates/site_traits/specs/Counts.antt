-- Counts of calls and of faults. A count is kept as a u64, stays at its greatest value, and never falls.
use Rattle.std.specs.Prelude.{◌≡◌, ◌≤◌, ℕ, ◌+◌, ◌-◌, ◌^◌, min, List, [], ◌∷◌, ◌++◌, length, Result, OnOk, OnErr}
use Rattle.std.proofs.Common.{refl, ap, ◌∙◌}
use Rattle.site_traits.specs.declared.jobs.BeginAnswer.{BeginAnswer}
use Rattle.site_traits.specs.declared.jobs.BeginAnswer.TheVariants as begin
use Rattle.site_traits.specs.declared.jobs.LookAnswer.{LookAnswer}
use Rattle.site_traits.specs.declared.jobs.LookAnswer.TheVariants as look
use Rattle.site_traits.specs.declared.jobs.AbortAnswer.{AbortAnswer}
use Rattle.site_traits.specs.declared.jobs.AbortAnswer.TheVariants as abort

-- the count rose, or stands at its greatest value (own rule)
abbrev pub Rose : ℕ → ℕ → Type 0
Rose before now = min (before + 1) (2 ^ 64 - 1) ≤ now

-- one more, as far as a u64 counts (own rule)
abbrev pub one_more : ℕ → ℕ
one_more n = min (n + 1) (2 ^ 64 - 1)

-- What a site shows, told or not: how often each kind of call failed, how often a begin was refused, and how often a
-- write, a cut and a sync were asked for, whether they failed or not (own rule).
pub record SiteCounts : Type 0 where
  pub disk : ℕ
  pub vim : ℕ
  pub look : ℕ
  pub refusals : ℕ
  pub writes : ℕ
  pub cuts : ℕ
  pub syncs : ℕ

-- what is asked of a site and counted whether it fails or not
pub data Ask : Type 0 where
  write cut sync : Ask

-- the counts once this was asked for
abbrev pub asked : Ask → SiteCounts → SiteCounts
asked write c = record c { writes = one_more c.writes }
asked cut c = record c { cuts = one_more c.cuts }
asked sync c = record c { syncs = one_more c.syncs }

-- the counts once these were asked for, the first of them first
abbrev pub all_asked : List Ask → SiteCounts → SiteCounts
all_asked [] c = c
all_asked (ask ∷ asks) c = all_asked asks (asked ask c)

-- the counts once a disk call failed
abbrev pub disk_failed : SiteCounts → SiteCounts
disk_failed c = record c { disk = one_more c.disk }

-- A call on the file leaves the counts as they are once it is asked for; where it failed, one disk fault more is
-- counted (own rule).
pub record DiskCause {T E : Type 0} (asked now : SiteCounts) (result : Result T E) : Type 0 where
  pub done : OnOk result (now ≡ asked)
  pub failed : OnErr result (now ≡ disk_failed asked)

-- What a begin does to the counts, by its answer: a refusal is counted as one, and a call that failed as one fault of
-- the infrastructure (own rule).
abbrev pub begin_counts : BeginAnswer → SiteCounts → SiteCounts
begin_counts begin.Begun c = c
begin_counts (begin.Refused code) c = record c { refusals = one_more c.refusals }
begin_counts begin.Failed c = record c { vim = one_more c.vim }

-- what a look does to the counts: one that failed is counted as a fault of the infrastructure, and as a failed look
-- (own rule)
abbrev pub look_counts : LookAnswer → SiteCounts → SiteCounts
look_counts look.Failed c = record c { vim = one_more c.vim; look = one_more c.look }
look_counts _ c = c

-- what an abort does to the counts: one that failed is counted as a fault of the infrastructure (own rule)
abbrev pub abort_counts : AbortAnswer → SiteCounts → SiteCounts
abort_counts abort.Asked c = c
abort_counts abort.Failed c = record c { vim = one_more c.vim }

-- some of these were asked for, from the first on, and the last of those failed
pub record StopsIn (asks : List Ask) (a b : SiteCounts) : Type 0 where
  pub made : List Ask
  pub rest : List Ask
  pub front : asks ≡ made ++ rest
  pub some : 1 ≤ length made
  pub counts : b ≡ disk_failed (all_asked made a)

-- all of these were asked for, or the front of them up to one that failed (own rule)
pub record Asks {T E : Type 0} (asks : List Ask) (result : Result T E) (a b : SiteCounts) : Type 0 where
  pub done : OnOk result (b ≡ all_asked asks a)
  pub failed : OnErr result (StopsIn asks a b)

-- Where this holds a disk call failed, once; else none did. No other kind of call failed (own rule).
pub record OnlyDiskFails (failed : Type 0) (a b : SiteCounts) : Type 0 where
  pub rose : failed → b.disk ≡ one_more a.disk
  pub stays : ¬ failed → b.disk ≡ a.disk
  pub vim : b.vim ≡ a.vim
  pub look : b.look ≡ a.look
  pub refusals : b.refusals ≡ a.refusals

-- so it is where nothing was asked for
pub untouched : (failed : Type 0) (a : SiteCounts) → ¬ failed → OnlyDiskFails failed a a
untouched failed a never = record {
  rose = λ is. absurd (never is);
  stays = λ _. refl;
  vim = refl;
  look = refl;
  refusals = refl;
}

-- one answer stands for another
pub fails_as : (P Q : Type 0) (a b : SiteCounts) → OnlyDiskFails P a b → (P → Q) → (Q → P) → OnlyDiskFails Q a b
fails_as P Q a b f there back =
    record {
      rose = λ is. f.rose (back is);
      stays = λ never. f.stays (λ is. never (there is));
      vim = f.vim;
      look =
          f.look;
      refusals = f.refusals;
    }

-- behind calls of which none failed it is the last alone that did
pub fails_last : (P : Type 0) (a b c : SiteCounts) → OnlyDiskFails ⊥ a b → OnlyDiskFails P b c → OnlyDiskFails P a c
fails_last P a b c none last =
    let same = none.stays (λ never. never) in
    record {
      rose = λ is. last.rose is ∙ ap one_more same;
      stays = λ never. last.stays never ∙ same;
      vim = last.vim ∙ none.vim;
      look = last.look ∙ none.look;
      refusals = last.refusals ∙ none.refusals;
    }

-- What an object other than a site or a door shows, told or not: how often it was called, and how often a call of it
-- failed (own rule).
pub record CallCounts : Type 0 where
  pub calls : ℕ
  pub faults : ℕ

-- the counts behind one call more
abbrev pub called : CallCounts → CallCounts
called c = record c { calls = one_more c.calls }

-- the counts behind one call more, which failed
abbrev pub called_in_vain : CallCounts → CallCounts
called_in_vain c = record { calls = one_more c.calls; faults = one_more c.faults }
