-- The writing of a packed file, as what a migration does.
use Rattle.std.proofs.Common.{◌≡◌, ◌∙◌, ◌<◌, sym, ap, subst, refl, inl, inr, ⊎_elim, arith, ℕ, List, [], ◌∷◌, ◌++◌, length}
use Rattle.std.proofs.Common.{Option, Some, None, Result, Ok, Err, take, append_assoc}
use Rattle.std.specs.List.{AllByRecursion}
use Rattle.std.proofs.lemmas.List.{take_at}
use Rattle.event_codec.specs.Valid.{IsEvent}
use Rattle.executor.specs.History.{spellings}
use Rattle.journal_core.specs.Create.{IsMakingOf, MakesFile, MayBeMade}
use Rattle.journal_core.specs.Header.{IsUnfinished}
use Rattle.journal_core.specs.Load.{SyncsAndReads}
use Rattle.journal_core.specs.declared.create.CreateFault.{CreateFault}
use Rattle.journal_core.specs.declared.create.CreateFault.TheVariants as creating
use Rattle.journal_core.proofs.Records.{header_length}
use Rattle.journal_records.specs.File.{header, blocks, gate_place}
use Rattle.journal_records.specs.declared.limits.TheConstants.{MAX_FILE}
use Rattle.lcm_events.specs.declared.events.Event.{Event}
use Rattle.lcm_model.specs.Allowed.{IsLegal}
use Rattle.site_traits.specs.Moments.{goes_on, started, weakened}
use Rattle.site_traits.specs.Site.{FileStep, LeavesOnly, Same, SiteState}
use Rattle.journal_migration.specs.Migrating.{IsMigrated, IsMigrating, Migrates, MigratesFrom}
use Rattle.journal_migration.specs.Packing.{AreTooMany, IsFirstUnfit, IsPackedFile, Packing, PacksAll}
use Rattle.journal_migration.specs.Reading.{HasOldHistory, IsRead}
use Rattle.journal_migration.specs.Writing.{BeginsFile, IsPackingOf, RefusesFull, SameAnswer, WritesAs, WritesPacked}
use Rattle.journal_migration.specs.declared.migration.MigrateFault.{MigrateFault}
use Rattle.journal_migration.specs.declared.migration.MigrateFault.TheVariants as fault
use Rattle.journal_migration.specs.declared.packing.Full.{Full}
use Rattle.journal_migration.specs.declared.reading.Packed.{Packed}
use Rattle.journal_migration.proofs.OnceLemmas.{first_once, fits_not, packed_once}

-- a packed file begins with the header
packs_begin : (m : ℕ) (rs : List (List ℕ)) (bytes : List ℕ) (unfit : Option Full) → PacksAll m rs bytes unfit → BeginsFile m bytes unfit
packs_begin m rs bytes None packed =
    ap (take 32) (packed.is ∙ append_assoc (header m) (blocks packed.batches) (0 ∷ []))
    ∙ take_at (header m) (blocks packed.batches ++ 0 ∷ []) 32 (header_length m)
packs_begin m rs bytes (Some unfit) packed = tt

pub is_packing_of : (m : ℕ) (rs : List (List ℕ)) (p : Packing) → PacksAll m rs p.bytes p.unfit → IsPackingOf m p
is_packing_of m rs p packed = packs_begin m rs p.bytes p.unfit packed

-- a packed file of a history's spellings has that history
migrated : (m : ℕ) (H : List Event) (image : List ℕ) → IsPackedFile m (spellings H) image → AllByRecursion IsEvent H → IsMigrated m H image
migrated m H image packed events = record {
  packed = packed;
  history = record {
    file = record {
      batches = packed.batches;
      file = record {
        gate = 0;
        tail = [];
        is = packed.is;
        closed = λ e. absurd (omega (arith, e));
        each = packed.packed.each;
        small = packed.small;
      };
      are = packed.packed.records;
    };
    events = events;
  };
}

-- too many records aren't all in a file
never_both : (m : ℕ) (rs : List (List ℕ)) (bytes : List ℕ) (unfit : Full) → IsPackedFile m rs bytes → AreTooMany rs unfit → ⊥
never_both m rs bytes unfit packed many =
    let P : List (List (List ℕ)) → Type 0 = λ v. gate_place v < MAX_FILE in
    fits_not many.batches unfit (subst P (packed_once rs packed.batches many.batches packed.packed many.packed) packed.small) many.first

-- reading leaves a file that may be made unfinished
read_moments : (m : ℕ) (H : List Event) (a b : SiteState) → SyncsAndReads a b → MayBeMade m a → LeavesOnly (IsMigrating m H) a b
read_moments m H a b read may =
    goes_on (IsMigrating m H) (FileStep Same) a a b (started (IsMigrating m H) a (λ p left. record { file = inl (may.each p left) }))
    read.on_file.passes
    (λ q p left step. let P : List ℕ → Type 0 = λ v. IsUnfinished m v in record { file = inl (subst P (sym step.image) (may.each q left)) })

-- the answer of a writing, as that of a migration of so many records
abbrev pub AnswersAs : ℕ → Result (Unit {0}) MigrateFault → Result ℕ MigrateFault → Type 0
AnswersAs n (Ok done) result = result ≡ Ok n
AnswersAs n (Err why) result = result ≡ Err why

-- a file of them all was made, or its making failed
makes_so : (m : ℕ) (H : List Event) (whole : List ℕ) (n : ℕ) (answer : Result (Unit {0}) CreateFault) (q : Result (Unit {0}) MigrateFault)
    (r : Result ℕ MigrateFault) (a b : SiteState) → IsPackedFile m (spellings H) whole → AllByRecursion IsEvent H → n ≡ length H
    → SameAnswer answer q → AnswersAs n q r → MakesFile m whole answer a b → Migrates m H r a b
makes_so m H whole n answer q r a b packed events count same answered makes = by answer same makes where
  file : IsMigrated m H whole
  file = migrated m H whole packed events

  moments : (answer : Result (Unit {0}) CreateFault) → MakesFile m whole answer a b → MayBeMade m a → LeavesOnly (IsMigrating m H) a b
  moments answer makes may = weakened (IsMigrating m H) (IsMakingOf m whole) a b (makes.any_moment may)
      (λ p h. record {
        file = ⊎_elim (λ (u : IsUnfinished m p.image). inl u)
            (λ (e : p.image ≡ whole). inr (let P : List ℕ → Type 0 = IsMigrated m H in subst P (sym e) file)) h.file;
      })

  none : (end more : ℕ) → AreTooMany (spellings H) (record { end = end; more = more }) → ⊥
  none end more many = never_both m (spellings H) whole (record { end = end; more = more }) packed many

  by : (answer : Result (Unit {0}) CreateFault) → SameAnswer answer q → MakesFile m whole answer a b → Migrates m H r a b
  by (Ok done) same makes =
      let P : Result (Unit {0}) MigrateFault → Type 0 = λ v. AnswersAs n v r in
      let is : r ≡ Ok n = subst P same answered in
      let Q : Result ℕ MigrateFault → Type 0 = λ v. Migrates m H v a b in
      subst Q (sym is) (record {
        taken = λ e. cc;
        kept = λ not. absurd ((makes.kept not).1 refl);
        full = λ end more e. cc;
        too_many = λ end more many unfinished. absurd (none end more many);
        any_moment = moments (Ok done) makes;
        made = (
          count,
          record {
            settled = makes.made.settled;
            file = (let P : List ℕ → Type 0 = IsMigrated m H in subst P (sym makes.made.file) file);
          },
        );
      })
  by (Err creating.Taken) same makes =
      let P : Result (Unit {0}) MigrateFault → Type 0 = λ v. AnswersAs n v r in
      let is : r ≡ Err fault.Taken = subst P same answered in
      let Q : Result ℕ MigrateFault → Type 0 = λ v. Migrates m H v a b in
      subst Q (sym is) (record {
        taken = λ e. makes.taken refl;
        kept = λ not. ((makes.kept not).0, inl refl);
        full = λ end more e. cc;
        too_many = λ end more many unfinished. absurd (none end more many);
        any_moment = moments (Err creating.Taken) makes;
        made = tt;
      })
  by (Err creating.Disk) same makes =
      let P : Result (Unit {0}) MigrateFault → Type 0 = λ v. AnswersAs n v r in
      let is : r ≡ Err fault.Disk = subst P same answered in
      let Q : Result ℕ MigrateFault → Type 0 = λ v. Migrates m H v a b in
      subst Q (sym is) (record {
        taken = λ e. cc;
        kept = λ not. ((makes.kept not).0, inr refl);
        full = λ end more e. cc;
        too_many = λ end more many unfinished. absurd (none end more many);
        any_moment = moments (Err creating.Disk) makes;
        made = tt;
      })

-- two faults are one as answers of a writing, and as those of a migration
abbrev pub AreOneWriting : MigrateFault → MigrateFault → Type 0
AreOneWriting w v = ◌≡◌ {A = Result (Unit {0}) MigrateFault} (Err w) (Err v)

abbrev pub AreOneMoving : MigrateFault → MigrateFault → Type 0
AreOneMoving w v = ◌≡◌ {A = Result ℕ MigrateFault} (Err w) (Err v)

as_written : (w v : MigrateFault) → AreOneMoving w v → AreOneWriting w v
as_written w v e = ap Err (it w v e) where
  it : (w v : MigrateFault) → AreOneMoving w v → w ≡ v
  it w v e = cc

as_moved : (w v : MigrateFault) → AreOneWriting w v → AreOneMoving w v
as_moved w v e = ap Err (it w v e) where
  it : (w v : MigrateFault) → AreOneWriting w v → w ≡ v
  it w v e = cc

-- there was no room for them all
full_so : (m : ℕ) (H : List Event) (unfit : Full) (n : ℕ) (q : Result (Unit {0}) MigrateFault) (r : Result ℕ MigrateFault) (a b : SiteState)
    → AreTooMany (spellings H) unfit → AnswersAs n q r → RefusesFull m unfit q a b → Migrates m H r a b
full_so m H unfit n (Ok done) r a b many answered refuses = absurd (refuses.never refl)
full_so m H unfit n (Err why) r a b many answered refuses =
    let Q : Result ℕ MigrateFault → Type 0 = λ v. Migrates m H v a b in
    let same = as_written why in
    let back = as_moved why in
    subst Q (sym answered) (record {
      taken = λ e. refuses.taken (same fault.Taken e);
      kept = λ not. (
        refuses.reads,
        ⊎_elim (λ (e : AreOneWriting why fault.Taken). inl (back fault.Taken e))
            (λ (e : AreOneWriting why fault.Disk). inr (back fault.Disk e)) (refuses.kept not),
      );
      full = λ end more e.
          let found = refuses.full end more (same (fault.Full end more) e) in
          let P : ℕ → ℕ → Type 0 = λ x y. AreTooMany (spellings H) (record { end = x; more = y }) in
          let R : ℕ → Type 0 = λ x. P x unfit.more in
          let T : ℕ → Type 0 = λ y. P end y in
          (found.0, refuses.reads, subst T (sym found.2) (subst R (sym found.1) many));
      too_many = λ end more also unfinished.
          let G : List (List (List ℕ)) → Type 0 = λ v. IsFirstUnfit (record { end = end; more = more }) v in
          let first = first_once many.batches unfit (record { end = end; more = more }) many.first
          (subst G (packed_once (spellings H) also.batches many.batches also.packed many.packed) also.first) in (
            refuses.reads,
            ⊎_elim
                (λ (e : AreOneWriting why (fault.Full unfit.end unfit.more)).
                inl (back (fault.Full unfit.end unfit.more) e ∙ ap (λ v. Err (fault.Full v unfit.more)) first.0 ∙ ap (λ v. Err (fault.Full end v)) first.1))
                (λ (e : AreOneWriting why fault.Disk). inr (back fault.Disk e)) (refuses.unfinished unfinished),
          );
      any_moment = read_moments m H a b refuses.reads;
      made = tt;
    })

writes_so : (m : ℕ) (H : List Event) (rs : List (List ℕ)) (bytes : List ℕ) (unfit : Option Full) (n : ℕ) (q : Result (Unit {0}) MigrateFault)
    (r : Result ℕ MigrateFault) (a b : SiteState) → rs ≡ spellings H → AllByRecursion IsEvent H → n ≡ length H → PacksAll m rs bytes unfit
    → AnswersAs n q r → WritesAs m bytes unfit q a b → Migrates m H r a b
writes_so m H rs bytes None n q r a b are events count packed answered writes =
    let P : List (List ℕ) → Type 0 = λ v. IsPackedFile m v bytes in
    makes_so m H bytes n writes.answer q r a b (subst P are packed) events count writes.is answered writes.makes
writes_so m H rs bytes (Some unfit) n q r a b are events count packed answered writes =
    let P : List (List ℕ) → Type 0 = λ v. AreTooMany v unfit in
    full_so m H unfit n q r a b (subst P are packed) answered writes

-- what was written is what a migration does
pub migrates_so : (m : ℕ) (H : List Event) (rs : List (List ℕ)) (p : Packing) (n : ℕ) (q : Result (Unit {0}) MigrateFault)
    (r : Result ℕ MigrateFault) (a b : SiteState) → rs ≡ spellings H → AllByRecursion IsEvent H → n ≡ length H
    → PacksAll m rs p.bytes p.unfit → AnswersAs n q r → WritesPacked m p q a b → Migrates m H r a b
migrates_so m H rs p n q r a b are events count packed answered writes =
    writes_so m H rs p.bytes p.unfit n q r a b are events count packed answered writes

-- what was done to the other file, of a journal that was read
from_moved : (image : List ℕ) (r : Result ℕ MigrateFault) (a b : SiteState) → (m : ℕ) (H : List Event) → m < 4294967296
    → HasOldHistory m H image → IsLegal m H → Migrates m H r a b → MigratesFrom image r a b
from_moved image (Ok n) a b m H small has legal migrates = (m, H, small, has, legal, migrates)
from_moved image (Err (fault.Open why)) a b m H small has legal migrates = tt
from_moved image (Err fault.Taken) a b m H small has legal migrates = (m, H, small, has, legal, migrates)
from_moved image (Err (fault.Full end more)) a b m H small has legal migrates = (m, H, small, has, legal, migrates)
from_moved image (Err fault.Disk) a b m H small has legal migrates = (m, H, small, has, legal, migrates)

pub migrates_from : (tells : Type 0) (p : Packed) (image now : List ℕ) (q : Result (Unit {0}) MigrateFault) (r : Result ℕ MigrateFault)
    (a b : SiteState) → tells → IsRead tells p now → now ≡ image → AnswersAs p.count q r → WritesPacked p.manager p.packing q a b
    → MigratesFrom image r a b
migrates_from tells p image now q r a b told read same answered writes =
    let P : List ℕ → Type 0 = HasOldHistory p.manager read.history in
    let has = subst P same (read.file told) in
    from_moved image r a b p.manager read.history read.number has read.legal
    (migrates_so p.manager read.history read.records p.packing p.count q r a b (read.are told) has.events read.count read.packed answered writes)

-- the answer of a writing that failed or didn't, as that of the migration
pub answered_err : (n : ℕ) (q : Result (Unit {0}) MigrateFault) (r : Result ℕ MigrateFault) (w : MigrateFault) → q ≡ Err w → r ≡ Err w
    → AnswersAs n q r
answered_err n q r w was is = let P : Result (Unit {0}) MigrateFault → Type 0 = λ v. AnswersAs n v r in subst P (sym was) is

pub answered_ok : (n : ℕ) (q : Result (Unit {0}) MigrateFault) (u : Unit {0}) → q ≡ Ok u → AnswersAs n q (Ok n)
answered_ok n q u was = let P : Result (Unit {0}) MigrateFault → Type 0 = λ v. AnswersAs n v (Ok n) in subst P (sym was) refl
