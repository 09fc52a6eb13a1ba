-- One record more, as it was judged.
use Rattle.std.proofs.Common.{◌≡◌, ◌+◌, ℕ, List, [], ◌∷◌, ◌++◌, ◌<◌, length, Option, Some, None, Result, Ok, Err, ap, ◌∙◌, sym, subst, refl}
use Rattle.std.proofs.Common.{arith, rules, append_assoc}
use Rattle.std.specs.List.{AllByRecursion}
use Rattle.event_codec.specs.Valid.{IsEvent}
use Rattle.journal_records.specs.File.{size}
use Rattle.journal_core.specs.Room.{Adds, AddsUp, TakesMore}
use Rattle.journal_core.specs.Load.{Finds, Grows, Progress, IsBegun, Loads, LoadsAll, ReadsOn}
use Rattle.journal_core.specs.declared.loading.Found.{Found}
use Rattle.journal_core.specs.declared.loading.Found.TheVariants as found
use Rattle.journal_records.specs.declared.limits.TheConstants.{MAX_FILE}
use Rattle.instance_table.specs.Rows.{Rows}
use Rattle.lcm_events.specs.declared.events.Event.{Event}
use Rattle.lcm_laws.specs.Serials.{SerialsAreCounted}
use Rattle.lcm_model.specs.Allowed.{IsLegal}
use Rattle.lcm_tables.specs.Tables.{AreTablesOf, HasSmallHistory}
use Rattle.lcm_tables.specs.declared.tables.Tables.{Tables}
use Rattle.site_traits.specs.Site.{SiteState, Reads}
use Rattle.std.specs.Result.{IsErrAnd}
use Rattle.executor.specs.declared.manager.OpenFault.{OpenFault}
use Rattle.executor.specs.declared.manager.OpenFault.TheVariants as opening
use Rattle.executor.specs.History.{spellings}
use Rattle.journal_core.specs.Header.{HasHeader}
use Rattle.journal_core.specs.declared.loading.LoadFault.{LoadFault}
use Rattle.journal_core.specs.declared.loading.LoadFault.TheVariants as loading
use Rattle.executor.specs.Faults.{opened_fault}
use Rattle.executor.specs.Loading.{Finds as Refused}
use Rattle.executor.specs.Loading.{IsNext, StepsFrom, JudgesNext, AreJudged, IsJudged, IsThrough, IsUnderWay, JudgesAll}
use Rattle.executor.specs.Open.{IsBadAt}
use Rattle.executor.specs.Room.{journal_end}
use Rattle.executor.specs.declared.open.Judged.{Judged}
use Rattle.executor.proofs.SerialLemmas.{small}
use Rattle.executor.proofs.SpellingLemmas.{spellings-cons}

pub steps_legal : (m n : ℕ) (bytes : List ℕ) (bad : Option ℕ) (H : List Event) (bad' : Option ℕ) (H' : List Event)
    → StepsFrom m n bytes bad H bad' H' → IsLegal m H → IsLegal m H'
steps_legal m n bytes (Some k) H bad' H' step legal = subst (IsLegal m) (sym step.1) legal
steps_legal m n bytes None H None H' step legal = subst (IsLegal m) (sym step.2) (step.1.allowed, legal)
steps_legal m n bytes None H (Some k) H' step legal = subst (IsLegal m) (sym step.2) legal

pub steps_events : (m n : ℕ) (bytes : List ℕ) (bad : Option ℕ) (H : List Event) (bad' : Option ℕ) (H' : List Event)
    → StepsFrom m n bytes bad H bad' H' → AllByRecursion IsEvent H → AllByRecursion IsEvent H'
steps_events m n bytes (Some k) H bad' H' step events = subst (AllByRecursion IsEvent) (sym step.1) events
steps_events m n bytes None H None H' step events = subst (AllByRecursion IsEvent) (sym step.2) (step.1.event, events)
steps_events m n bytes None H (Some k) H' step events = subst (AllByRecursion IsEvent) (sym step.2) events

-- where no record is bad, one was none before, and the history has one event more
pub record GoesOn (m : ℕ) (bytes : List ℕ) (bad : Option ℕ) (H H' : List Event) : Type 0 where
  pub none : bad ≡ None
  pub event : Event
  pub next : IsNext m H bytes event
  pub is : H' ≡ event ∷ H

pub goes_on : (m n : ℕ) (bytes : List ℕ) (bad : Option ℕ) (H : List Event) (bad' : Option ℕ) (H' : List Event)
    → StepsFrom m n bytes bad H bad' H' → bad' ≡ None → GoesOn m bytes bad H H'
goes_on m n bytes (Some k) H bad' H' step none = let is = step.0 in cc
goes_on m n bytes None H None H' step none = record { none = refl; event = step.0; next = step.1; is = step.2 }
goes_on m n bytes None H (Some k) H' step none = cc

count_more : (m : ℕ) (bytes : List ℕ) (bad : Option ℕ) (H H' : List Event) (k k' : ℕ) → GoesOn m bytes bad H H'
    → (bad ≡ None → k ≡ length H) → k' ≡ k + 1 → k' ≡ length H'
count_more m bytes bad H H' k k' on count more = let before = count on.none in let after = ap length on.is in omega arith

end_more : AddsUp → (m : ℕ) (bytes : List ℕ) (bad : Option ℕ) (H H' : List Event) (k k' : ℕ) → GoesOn m bytes bad H H'
    → (bad ≡ None → k ≡ journal_end H) → Adds bytes k k' → k' ≡ journal_end H'
end_more up m bytes bad H H' k k' on end more =
    up (spellings H) bytes k k' (end on.none) more
    ∙ ap size (ap (λ b. spellings H ++ b ∷ []) on.next.spelled ∙ sym (spellings-cons on.event H) ∙ ap spellings (sym on.is))

pub step_judged : AddsUp → (j j' : Judged) (l l' : Progress) (H H' : List Event) → IsJudged j l H → ReadsOn l l'
    → StepsFrom l'.manager l'.count l'.record_bytes j.bad H j'.bad H'
    → AreTablesOf l'.manager j'.tables H' → IsJudged j' l' H'
step_judged up j j' l l' H H' judged reads step tables =
    let on = goes_on l'.manager l'.count l'.record_bytes j.bad H j'.bad H' step in
    record {
      tables = tables;
      legal = steps_legal l'.manager l'.count l'.record_bytes j.bad H j'.bad H' step (rw reads.manager judged.legal);
      events = steps_events l'.manager l'.count l'.record_bytes j.bad H j'.bad H' step judged.events;
      count = λ none. count_more l'.manager l'.record_bytes j.bad H H' l.count l'.count (on none) judged.count reads.count;
      end = λ none. end_more up l'.manager l'.record_bytes j.bad H H' l.total l'.total (on none) judged.end reads.total;
    }

-- the records with one more, as they were judged
pub are_judged : (m n : ℕ) (bytes : List ℕ) (bad : Option ℕ) (H : List Event) (bad' : Option ℕ) (H' : List Event) (rs : List (List ℕ))
    → StepsFrom m n bytes bad H bad' H'
    → AreJudged m H bad rs → IsLegal m H → AllByRecursion IsEvent H → (bad ≡ None → n ≡ length H + 1)
    → AreJudged m H' bad' (rs ++ bytes ∷ [])
are_judged m n bytes (Some k) H bad' H' rs step judged legal events place =
    let bad : IsBadAt m k (rs ++ bytes ∷ []) = record {
      before = judged.before;
      bytes = judged.bytes;
      rest = judged.rest ++ bytes ∷ [];
      is = ap (λ xs. xs ++ bytes ∷ []) judged.is ∙ append_assoc (spellings judged.before) (judged.bytes ∷ judged.rest) (bytes ∷ []);
      place = judged.place;
      legal = judged.legal;
      events = judged.events;
      none = judged.none;
    } in
    let P : Option ℕ → Type 0 = λ b. AreJudged m H' b (rs ++ bytes ∷ []) in
    subst P (sym step.0) bad
are_judged m n bytes None H None H' rs step judged legal events place =
    ap (λ xs. xs ++ bytes ∷ []) judged ∙ ap (λ b. spellings H ++ b ∷ []) step.1.spelled ∙ sym (spellings-cons step.0 H)
    ∙ ap spellings (sym step.2)
are_judged m n bytes None H (Some k) H' rs step judged legal events place = record {
  before = H;
  bytes = bytes;
  rest = [];
  is = ap (λ xs. xs ++ bytes ∷ []) judged;
  place = step.0 ∙ place refl;
  legal = legal;
  events = events;
  none = λ e is spelled allowed. step.1 e (record { spelled = spelled; event = is; allowed = allowed });
}

-- one record more was read and judged
pub step_on : (tells : Type 0) → AddsUp → TakesMore → SerialsAreCounted → (j j' : Judged) (l l' : Progress) (a b : SiteState)
    → IsUnderWay tells j l a → l.total < MAX_FILE + MAX_FILE → ReadsOn l l' → JudgesNext l'.count l'.record_bytes j j'
    → (tells → (rs : List (List ℕ)) → Loads rs l a → Loads (rs ++ l'.record_bytes ∷ []) l' b) → IsUnderWay tells j' l' b
step_on tells up longer law j j' l l' a b way within reads step loads =
    let H = way.history in
    let is = way.judged in
    let next = step l'.manager H (λ none. small longer l.manager H law is.legal (rw (← is.end none) within)) (rw reads.manager is.legal)
    (rw reads.manager is.tables) in
    record {
      history = next.0;
      judged = step_judged up j j' l l' H next.0 is reads next.1 next.2;
      so_far = λ told.
          let so_far = way.so_far told in
          record {
            rs = so_far.rs ++ l'.record_bytes ∷ [];
            loads = loads told so_far.rs so_far.loads;
            judged = are_judged l'.manager l'.count l'.record_bytes j.bad H j'.bad next.0 so_far.rs next.1
                (rw reads.manager so_far.judged) (rw reads.manager is.legal) is.events
                (λ none. let count = is.count none in let more = reads.count in omega arith);
          };
    }

-- where no record was bad, the tables are those of a small history
pub small_so_far : (tells : Type 0) → TakesMore → SerialsAreCounted → (j : Judged) (l : Progress) (s : SiteState) → IsUnderWay tells j l s
    → l.total < MAX_FILE + MAX_FILE → j.bad ≡ None → HasSmallHistory j.tables
small_so_far tells longer law j l s way within none =
    let is = way.judged in
    let fits : journal_end way.history < MAX_FILE + MAX_FILE = rw (← is.end none) within in
    record {
      manager = l.manager;
      history = way.history;
      legal = is.legal;
      small = small longer l.manager way.history law is.legal fits;
      tables = is.tables;
    }

-- tables have one number of events
pub few_events : (t : Tables) → HasSmallHistory t → (m : ℕ) (H : List Event) → AreTablesOf m t H → length H < 4611686018427387903
few_events t some m H tables =
    let one : t.instances.rows.events ≡ length some.history = ap (λ (r : Rows). r.events) some.tables.instances in
    let other : t.instances.rows.events ≡ length H = ap (λ (r : Rows). r.events) tables.instances in
    omega (arith, one, other, some.small.events)

-- before the first record
pub none_judged : (tells : Type 0) (j : Judged) (l : Progress) (s : SiteState) → IsBegun l → (tells → Loads [] l s) → j.bad ≡ None
    → AreTablesOf l.manager j.tables [] → IsUnderWay tells j l s
none_judged tells j l s begun loads good tables =
    let P : Option ℕ → Type 0 = λ b. AreJudged l.manager [] b [] in
    record {
      history = [];
      judged = record {
        tables = tables;
        legal = search rules;
        events = search rules;
        count = λ none. search rules;
        end =
            λ none. search rules;
      };
      so_far = λ told. record { rs = []; loads = loads told; judged = subst P (sym good) refl };
    }

-- behind the last one
pub all_judged : (tells : Type 0) (j : Judged) (l k : Progress) (a b : SiteState) → IsUnderWay tells j l a → k.manager ≡ l.manager
    → k.count ≡ l.count → k.total ≡ l.total
    → (tells → (rs : List (List ℕ)) → Loads rs l a → LoadsAll rs k b) → IsThrough tells j k b
all_judged tells j l k a b way manager count total ends =
    let is = way.judged in
    record {
      history = way.history;
      judged = record {
        tables = rw manager is.tables;
        legal = rw manager is.legal;
        events = is.events;
        count =
            λ none. count ∙ is.count none;
        end = λ none. total ∙ is.end none;
      };
      all = λ told. let so_far = way.so_far told in record {
        rs = so_far.rs;
        loads = ends told so_far.rs so_far.loads;
        judged =
            rw manager so_far.judged;
      };
    }

-- all that were found were judged
pub through : (tells : Type 0) (j : Judged) (answer : Found) (l k : Progress) (a b : SiteState) → IsUnderWay tells j l a
    → (answer ≡ found.Record → ⊥)
    → Grows (Ok answer) l k → (tells → (rs : List (List ℕ)) → Loads rs l a → Finds rs (Ok answer) k b) → IsThrough tells j k b
through tells j found.Record l k a b way other grows finds = absurd (other refl)
through tells j found.End l k a b way other grows finds = all_judged tells j l k a b way grows.manager grows.count grows.total finds

-- there was no memory to judge it
pub judges_starved : (r : Result Judged OpenFault) (rs : List (List ℕ)) (l : Progress) (a b : SiteState)
    → IsErrAnd r (λ why. why ≡ opening.Memory) → Loads rs l b → Reads a b → JudgesAll r l a b
judges_starved (Ok j) rs l a b is loads reads = absurd is
judges_starved (Err why) rs l a b is loads reads =
    let P : OpenFault → Type 0 = λ w. JudgesAll (Err w) l a b in subst P (sym is) (record { finds = loads.header; reads = reads })

-- why a step of a loading found none is what a judging of all finds
pub finds_why : (rs : List (List ℕ)) (e : LoadFault) (r : Result Judged OpenFault) (l k : Progress) (a b : SiteState)
    → r ≡ Err (opened_fault e) → Loads rs l a → Reads a b → k.manager ≡ l.manager → Finds rs (Err e) k b → Refused r k b
finds_why rs e r l k a b is loads reads same found =
    let P : List ℕ → Type 0 = λ v. HasHeader k.manager v in
    let Q : ℕ → Type 0 = λ v. HasHeader v a.image in
    let header = subst P (sym reads.same) (subst Q (sym same) loads.header) in
    let R : Result Judged OpenFault → Type 0 = λ v. Refused v k b in
    let by : (why : LoadFault) → Finds rs (Err why) k b → Refused (Err (opened_fault why)) k b = λ why.
    elim why as (λ v. Finds rs (Err v) k b → Refused (Err (opened_fault v)) k b) [
      | loading.Unmade ↦ λ wrong. absurd wrong
      | loading.Foreign place ↦ λ wrong. absurd wrong
      | loading.Broken n ↦ λ at. (at.0, header)
      | loading.Disk ↦ λ done. tt
      | loading.Memory ↦ λ wrong. absurd wrong
    ] in
    subst R (sym is) (by e found)
