-- One record more of a journal of format 1, as it was judged and packed.
use Rattle.std.proofs.Common.{◌≡◌, ◌∙◌, ◌+◌, ◌*◌, ◌≤◌, ◌<◌, sym, subst, refl, arith, rules, inl, inr, ℕ, List, [], ◌∷◌, ◌++◌}
use Rattle.std.proofs.Common.{Option, Some, None, Result, Ok, Err, IfErr}
use Rattle.std.specs.Result.{IsErrAnd}
use Rattle.executor.specs.Faults.{opened_fault}
use Rattle.executor.specs.Loading.{AreJudged, JudgesNext}
use Rattle.executor.specs.Loading as executor
use Rattle.executor.specs.History.{spellings}
use Rattle.executor.specs.Open.{IsBadAt}
use Rattle.executor.specs.Room.{journal_end}
use Rattle.executor.specs.declared.manager.OpenFault.{OpenFault}
use Rattle.executor.specs.declared.manager.OpenFault.TheVariants as opening
use Rattle.executor.specs.declared.open.Judged.{Judged}
use Rattle.executor.proofs.JudgeLemmas.{are_judged, step_judged}
use Rattle.executor.proofs.SerialLemmas.{small}
use Rattle.journal_core.specs.Load as present
use Rattle.journal_core.specs.Room.{AddsUp, TakesMore}
use Rattle.journal_core.specs.declared.loading.Found.{Found}
use Rattle.journal_core.specs.declared.loading.Found.TheVariants as found
use Rattle.journal_core.specs.declared.loading.LoadFault.{LoadFault}
use Rattle.journal_core.specs.declared.loading.LoadFault.TheVariants as loading
use Rattle.journal_records.specs.Reading.{standing_at}
use Rattle.journal_records.specs.declared.limits.TheConstants.{MAX_FILE}
use Rattle.lcm_events.specs.declared.events.Event.{Event}
use Rattle.lcm_laws.specs.Serials.{SerialsAreCounted}
use Rattle.lcm_tables.specs.Tables.{AreTablesOf, HasSmallHistory}
use Rattle.old_journal.specs.File.{HasRecords}
use Rattle.old_journal.specs.Header.{HasHeader}
use Rattle.old_journal.specs.Load.{Progress, Loads, Finds, Grows, IsBegun, Opened, ReadsOn}
use Rattle.site_traits.specs.Site.{SiteState, Reads}
use Rattle.journal_migration.specs.Packing.{HasPacked, Packing, PacksAll}
use Rattle.journal_migration.specs.Reading.{IsBadOldRecord, IsJudgedOld, IsRead, IsThrough, IsUnderWay}
use Rattle.journal_migration.specs.Reading.{ReadsAll, RefusesOld, RefusesReading}
use Rattle.journal_migration.specs.declared.reading.Packed.{Packed}

-- what was read, counted as in the present format, where a record costs four bytes more
abbrev pub counted : Progress → present.Progress
counted l = record {
  manager = l.manager;
  count = l.count;
  end = l.end;
  total = l.end + 4 * l.count;
  len = l.len;
  record_bytes = l.record_bytes;
  ended = l.ended;
  marks = [];
  reading = standing_at 32;
}

on_counted : (l l' : Progress) → ReadsOn l l' → present.ReadsOn (counted l) (counted l')
on_counted l l' reads = record {
  manager = reads.manager;
  record_is = reads.record_is;
  count = reads.count;
  total = omega (arith, reads.end, reads.count);
  ended = reads.ended;
}

judged_counted : (j : Judged) (l : Progress) (H : List Event) → IsJudgedOld j l H → executor.IsJudged j (counted l) H
judged_counted j l H is = record { tables = is.tables; legal = is.legal; events = is.events; count = is.count; end = is.end }

counted_judged : (j : Judged) (l : Progress) (H : List Event) → executor.IsJudged j (counted l) H → l.count * 6 ≤ l.end → IsJudgedOld j l H
counted_judged j l H is few = record {
  tables = is.tables;
  legal = is.legal;
  events = is.events;
  count = is.count;
  end = is.end;
  few = few;
}

within : (l : Progress) → l.count * 6 ≤ l.end → l.end < 268435456 → l.end + 4 * l.count < MAX_FILE + MAX_FILE
within l few fits = omega (arith, few, fits)

-- where no record was bad, the tables are those of a small history
pub small_so_far : (tells : Type 0) → TakesMore → SerialsAreCounted → (j : Judged) (p : Packing) (l : Progress) (s : SiteState)
    → IsUnderWay tells j p l s → l.end < 268435456 → j.bad ≡ None → HasSmallHistory j.tables
small_so_far tells longer law j p l s way fits none =
    let is = way.judged in
    let ends : journal_end way.history < MAX_FILE + MAX_FILE = rw (← is.end none) (within l is.few fits) in
    record {
      manager = l.manager;
      history = way.history;
      legal = is.legal;
      small = small longer l.manager way.history law is.legal ends;
      tables = is.tables;
    }

-- one record more was read, judged and packed
pub step_on : (tells : Type 0) → AddsUp → TakesMore → SerialsAreCounted → (j j' : Judged) (p p' : Packing) (l l' : Progress) (a b : SiteState)
    → IsUnderWay tells j p l a → l.end < 268435456 → ReadsOn l l' → JudgesNext l'.count l'.record_bytes j j'
    → ((m : ℕ) (rs : List (List ℕ)) → HasPacked m rs p → HasPacked m (rs ++ l'.record_bytes ∷ []) p')
    → (tells → (rs : List (List ℕ)) → Loads rs l a → Loads (rs ++ l'.record_bytes ∷ []) l' b) → IsUnderWay tells j' p' l' b
step_on tells up longer law j j' p p' l l' a b way fits reads step packs loads =
    let H = way.history in
    let is = way.judged in
    let next = step l'.manager H (λ none. small longer l.manager H law is.legal (rw (← is.end none) (within l is.few fits)))
    (rw reads.manager is.legal)
    (rw reads.manager is.tables) in
    record {
      history = next.0;
      records = way.records ++ l'.record_bytes ∷ [];
      judged = counted_judged j' l' next.0
          (step_judged up j j' (counted l) (counted l') H next.0 (judged_counted j l H is) (on_counted l l' reads) next.1 next.2)
          (omega (arith, is.few, reads.count, reads.end, reads.record_is.some));
      packed = packs l'.manager way.records (rw reads.manager way.packed);
      so_far = λ told.
          let so_far = way.so_far told in
          record {
            loads = loads told way.records so_far.loads;
            judged = are_judged l'.manager l'.count l'.record_bytes j.bad H j'.bad next.0 way.records next.1
                (rw reads.manager so_far.judged) (rw reads.manager is.legal) is.events
                (λ none. let count = is.count none in let more = reads.count in omega arith);
          };
    }

-- before the first record
pub none_read : (tells : Type 0) (j : Judged) (p : Packing) (l : Progress) (s : SiteState) → IsBegun l → (tells → Loads [] l s) → j.bad ≡ None
    → AreTablesOf l.manager j.tables [] → HasPacked l.manager [] p → IsUnderWay tells j p l s
none_read tells j p l s begun loads good tables packed =
    let P : Option ℕ → Type 0 = λ b. AreJudged l.manager [] b [] in
    record {
      history = [];
      records = [];
      judged = record {
        tables = tables;
        legal = search rules;
        events = search rules;
        count = λ none. begun.count;
        end = λ none. omega (arith, begun.count, begun.end);
        few = omega (arith, begun.count, begun.end);
      };
      packed = packed;
      so_far = λ told. record { loads = loads told; judged = subst P (sym good) refl };
    }

-- behind the last one
pub through : (tells : Type 0) (j : Judged) (p q : Packing) (answer : Found) (l k : Progress) (a b : SiteState) → IsUnderWay tells j p l a
    → (answer ≡ found.Record → ⊥)
    → Grows (Ok answer) l k → (tells → (rs : List (List ℕ)) → Loads rs l a → Finds rs (Ok answer) k b)
    → ((m : ℕ) (rs : List (List ℕ)) → HasPacked m rs p → PacksAll m rs q.bytes q.unfit) → IsThrough tells j q k b
through tells j p q found.Record l k a b way other grows finds packs = absurd (other refl)
through tells j p q found.End l k a b way other grows finds packs =
    let is = way.judged in
    record {
      history = way.history;
      records = way.records;
      judged = record {
        tables = rw grows.manager is.tables;
        legal = rw grows.manager is.legal;
        events = is.events;
        count = λ none. grows.count ∙ is.count none;
        end = λ none. (let e = is.end none in omega (arith, e, grows.count, grows.end));
        few = omega (arith, is.few, grows.count, grows.end);
      };
      packed = packs k.manager way.records (rw grows.manager way.packed);
      all = λ told. let so_far = way.so_far told in record {
        loads = finds told way.records so_far.loads;
        judged = rw grows.manager so_far.judged;
      };
    }

-- the header of a file of which all records were read
pub header_of : (rs : List (List ℕ)) (answer : Found) (k : Progress) (b : SiteState) → (answer ≡ found.Record → ⊥) → Finds rs (Ok answer) k b
    → HasHeader k.manager b.image
header_of rs found.Record k b other finds = absurd (other refl)
header_of rs found.End k b other finds = finds.loads.header

-- there was no memory
pub reads_starved : {T : Type 0} (r : Result T OpenFault) (l : Progress) (a b : SiteState)
    → IsErrAnd r (λ why. why ≡ opening.Memory) → HasHeader l.manager b.image → Reads a b → ReadsAll r l a b
reads_starved (Ok j) l a b is header reads = absurd is
reads_starved {T = T} (Err why) l a b is header reads =
    let P : OpenFault → Type 0 = λ w. ReadsAll {T = T} (Err w) l a b in subst P (sym is) (record { finds = header; reads = reads })

-- why a step of a loading found none is what a reading of all finds
pub finds_why : {T : Type 0} (rs : List (List ℕ)) (e : LoadFault) (r : Result T OpenFault) (l k : Progress) (a b : SiteState)
    → r ≡ Err (opened_fault e) → Loads rs l a → Reads a b → k.manager ≡ l.manager → Finds rs (Err e) k b → RefusesReading r k b
finds_why {T = T} rs e r l k a b is loads reads same found =
    let P : List ℕ → Type 0 = λ v. HasHeader k.manager v in
    let Q : ℕ → Type 0 = λ v. HasHeader v a.image in
    let header = subst P (sym reads.same) (subst Q (sym same) loads.header) in
    let R : Result T OpenFault → Type 0 = λ v. RefusesReading v k b in
    let by : (why : LoadFault) → Finds rs (Err why) k b → RefusesReading {T = T} (Err (opened_fault why)) k b = λ why.
    elim why as (λ v. Finds rs (Err v) k b → RefusesReading {T = T} (Err (opened_fault v)) k b) [
      | loading.Unmade ↦ λ wrong. absurd wrong
      | loading.Foreign place ↦ λ wrong. absurd wrong
      | loading.Broken n ↦ λ at. (at.0, header)
      | loading.Disk ↦ λ done. tt
      | loading.Memory ↦ λ wrong. absurd wrong
    ] in
    subst R (sym is) (by e found)

-- a fault of reading says the same of the file as one of opening
refuses_of : (T : Type 0) (why : OpenFault) (l : Progress) (s : SiteState) → RefusesReading {T = T} (Err why) l s → RefusesOld why s.image
refuses_of T opening.Unmade l s found = absurd found
refuses_of T (opening.Foreign place) l s found = absurd found
refuses_of T (opening.BadRecord n) l s found = (l.manager, found.1, inl found.0)
refuses_of T opening.Disk l s found = tt
refuses_of T opening.Memory l s found = (l.manager, found)

pub refused_reading : {T U : Type 0} (r : Result T OpenFault) (q : Result U OpenFault) (why : OpenFault) (l : Progress) (s : SiteState)
    → q ≡ Err why → IsErrAnd r (λ w. w ≡ why) → RefusesReading q l s → IfErr r (λ w. RefusesOld w s.image)
refused_reading (Ok v) q why l s was is found = tt
refused_reading {T = T} {U = U} (Err w) q why l s was is found =
    let P : Result U OpenFault → Type 0 = λ v. RefusesReading v l s in
    let Q : OpenFault → Type 0 = λ v. RefusesOld v s.image in
    subst Q (sym is) (refuses_of U why l s (subst P was found))

-- a fault of the opening says the same of the file
pub refused_opening : {T : Type 0} (r : Result T OpenFault) (e : LoadFault) (s : SiteState) → IsErrAnd r (λ w. w ≡ opened_fault e)
    → Opened (Err e) s → IfErr r (λ w. RefusesOld w s.image)
refused_opening (Ok v) e s is found = tt
refused_opening (Err w) e s is found =
    let Q : OpenFault → Type 0 = λ v. RefusesOld v s.image in
    let by : (why : LoadFault) → Opened (Err why) s → RefusesOld (opened_fault why) s.image = λ why.
    elim why as (λ v. Opened (Err v) s → RefusesOld (opened_fault v) s.image) [
      | loading.Unmade ↦ λ is. is
      | loading.Foreign place ↦ λ is. is
      | loading.Broken n ↦ λ wrong. absurd wrong
      | loading.Disk ↦ λ done. tt
      | loading.Memory ↦ λ is. is
    ] in
    subst Q (sym is) (by e found)

-- one of the records is bad
pub bad_found : (tells : Type 0) (j : Judged) (p : Packing) (l : Progress) (s : SiteState) (n : ℕ) → IsThrough tells j p l s → j.bad ≡ Some n
    → tells → IsBadOldRecord n s.image
bad_found tells j p l s n through bad told =
    let all = through.all told in
    let P : Option ℕ → Type 0 = λ b. AreJudged l.manager through.history b through.records in
    let Q : List (List ℕ) → Type 0 = λ rs. IsBadAt l.manager n rs in
    (l.manager, all.loads.loads.header, inr (all.loads.stands.file, subst Q (sym all.loads.records) (subst P bad all.judged)))

-- all of them were read, and none is bad
pub all_read : (tells : Type 0) (j : Judged) (p : Packed) (l : Progress) (s : SiteState) → IsThrough tells j p.packing l s → j.bad ≡ None
    → l.manager < 4294967296 → p.manager ≡ l.manager → p.count ≡ l.count → IsRead tells p s.image
all_read tells j p l s through none number manager count =
    let is = through.judged in
    let P : Option ℕ → Type 0 = λ b. AreJudged l.manager through.history b through.records in
    let Q : List (List ℕ) → Type 0 = λ rs. HasRecords p.manager rs s.image in
    let are : tells → through.records ≡ spellings through.history = λ told. subst P none (through.all told).judged in
    record {
      number = rw manager number;
      history = through.history;
      records = through.records;
      legal = rw manager is.legal;
      count = count ∙ is.count none;
      packed = rw manager through.packed;
      are = are;
      file = λ told. record {
        file = subst Q ((through.all told).loads.records ∙ are told) (rw manager (through.all told).loads.stands.file);
        events = is.events;
      };
    }
