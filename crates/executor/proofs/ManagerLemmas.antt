-- What a load and a commit do, from what the journal's calls do.
use Rattle.std.proofs.Common.{◌≡◌, ◌≤◌, ◌<◌, ◌+◌, ◌-◌, ℕ, List, [], ◌∷◌, ◌++◌, length, true, false, Ok, Err, Result, true≢false, ap, ◌∙◌}
use Rattle.std.proofs.Common.{sym, subst, refl, inl, inr, arith, Option, Some, None, ⊎_elim}
use Rattle.std.specs.Result.{IsErrAnd}
use Rattle.event_codec.specs.Spell.{spelling}
use Rattle.event_codec.specs.Valid.{IsEvent}
use Rattle.journal_records.specs.File.{records, size, HasRecords}
use Rattle.journal_core.specs.Header.{HasHeader}
use Rattle.journal_core.specs.Room.{Adds, AddsUp}
use Rattle.journal_core.specs.Journal as journal
use Rattle.journal_core.specs.Journal.{Ledger, Stands, Appends}
use Rattle.journal_core.specs.Load.{Progress, SyncsAndReads, ledger_of}
use Rattle.lcm_events.specs.declared.events.Event.{Event}
use Rattle.lcm_model.specs.Allowed.{IsAllowed, IsLegal}
use Rattle.site_traits.specs.Site.{Pair, SiteState, LeavesOnly, Reads, Same}
use Rattle.site_traits.specs.Moments.{weakened, on_file-reads}
use Rattle.executor.specs.History.{spellings}
use Rattle.executor.specs.Managed.{Managed, IsKept, IsReady, Keeps, KeepsOn, StandsFor}
use Rattle.lcm_tables.specs.declared.tables.Tables.{Tables}
use Rattle.lcm_tables.specs.Tables.{Applies, AreTablesOf, StandForSame}
use Rattle.executor.specs.Work.{HasSome}
use Rattle.executor.specs.Loading.{AreJudged, Finds, IsThrough}
use Rattle.executor.specs.Open.{IsBadAt, IsBadRecord, Opens, Refuses}
use Rattle.executor.specs.declared.open.Judged.{Judged}
use Rattle.executor.specs.declared.manager.OpenFault.{OpenFault}
use Rattle.executor.specs.declared.manager.OpenFault.TheVariants as opening
use Rattle.executor.proofs.SpellingLemmas.{spellings-cons}
use Rattle.executor.proofs.WorkLemmas.{extends_refl, extends_one, some_of}

-- a call that syncs and reads, and then one that only reads
pub syncs_then : (a b c : SiteState) → SyncsAndReads a b → Reads b c → SyncsAndReads a c
syncs_then a b c ab bc = record {
  on_file = on_file-reads Same a b c ab.on_file bc.on_file (λ i. refl);
  same = bc.same ∙ ab.same;
}

-- every event has a spelling of a byte or more
pub spelling-some : (e : Event) → 1 ≤ length (spelling e)
unfolding spelling
spelling-some e = omega arith

-- a kept history, and the next event
pub kept_more : AddsUp → (l k : Ledger) (H : List Event) (e : Event) → IsKept l H → l.closed ≡ false → k.manager ≡ l.manager
    → k.count ≡ l.count + 1
    → Adds (spelling e) l.end k.end → k.saved ≡ l.saved → IsEvent e → IsAllowed l.manager H e.kind → IsKept k (e ∷ H)
kept_more up l k H e kept usable manager count end saved event allowed = record {
  legal = let P : ℕ → Type 0 = λ m. IsLegal m (e ∷ H) in subst P (sym manager) (allowed, kept.legal);
  events = (event, kept.events);
  count = λ _. let before = kept.count usable in omega arith;
  end = λ _. up (spellings H) (spelling e) (l.end + l.saved) (k.end + k.saved) (kept.end usable) (omega (arith, end, saved))
      ∙ ap size (sym (spellings-cons e H));
}

-- a stop leaves the history, or it and the event
leaves_event : (m : Managed) (H : List Event) (e : Event) (a : SiteState) (p : Pair) → StandsFor m H a → IsEvent e
    → journal.HasOrAdds m.ledger.manager (spelling e) a p → HasSome m.ledger.manager H (e ∷ H) p
leaves_event m H e a p stands event left =
    let events = stands.events in
    let R : List (List ℕ) → Type 0 = λ rs. HasRecords m.ledger.manager rs p.image in
    ⊎_elim
    (λ (h : HasRecords m.ledger.manager (records a.image) p.image).
    some_of m.ledger.manager H H (e ∷ H) p (extends_refl H) (extends_one e H) (record { file = subst R stands.records h; events = events }))
    (λ (h : HasRecords m.ledger.manager (records a.image ++ spelling e ∷ []) p.image).
    some_of m.ledger.manager H (e ∷ H) (e ∷ H) p (extends_one e H) (extends_refl (e ∷ H))
    (record { file = subst R (ap (λ rs. rs ++ spelling e ∷ []) stands.records ∙ sym (spellings-cons e H)) h; events = (event, events) }))
    left.file

-- what an append does, as a commit
pub commit_moments : (m : Managed) (H : List Event) (e : Event) (a b : SiteState) → StandsFor m H a → IsEvent e
    → LeavesOnly (journal.HasOrAdds m.ledger.manager (spelling e) a) a b → LeavesOnly (HasSome m.ledger.manager H (e ∷ H)) a b
commit_moments m H e a b stands event run =
    weakened (HasSome m.ledger.manager H (e ∷ H)) (journal.HasOrAdds m.ledger.manager (spelling e) a) a b run
    (λ p left. leaves_event m H e a p stands event left)

pub commit_stands : (m n : Managed) (H : List Event) (e : Event) (a b : SiteState) → IsEvent e → StandsFor m H a → Stands b n.ledger
    → records b.image ≡ records a.image ++ spelling e ∷ [] → StandsFor n (e ∷ H) b
commit_stands m n H e a b event stands now added = record {
  journal = now;
  events = (event, stands.events);
  records = added ∙ ap (λ rs. rs ++ spelling e ∷ []) stands.records ∙ sym (spellings-cons e H);
}

-- a fault of judging says the same of the file as one of opening
pub refuses_of : (why : OpenFault) (l : Progress) (s : SiteState) → Finds (Err why) l s → Refuses why s.image
refuses_of opening.Unmade l s found = absurd found
refuses_of (opening.Foreign place) l s found = absurd found
refuses_of (opening.BadRecord n) l s found = (l.manager, found.1, inl found.0)
refuses_of opening.Disk l s found = tt
refuses_of opening.Memory l s found = (l.manager, found)

-- a journal all of whose records were judged, and none of them bad, is a manager's
pub opened : (tells : Type 0) (j : Judged) (l : Progress) (s : SiteState) → IsThrough tells j l s → j.bad ≡ None
    → l.end + (l.total - l.end) ≡ l.total → (H : List Event) × IsReady tells (record { ledger = ledger_of l; tables = j.tables }) H s
opened tells j l s through none adds =
    let is = through.judged in
    let stands : tells → StandsFor (record { ledger = ledger_of l; tables = j.tables }) through.history s = λ told.
    let all = through.all told in
    let P : Option ℕ → Type 0 = λ b. AreJudged l.manager through.history b all.rs in
    record { journal = all.loads.stands; records = all.loads.records ∙ subst P none all.judged; events = is.events } in (
      through.history,
      record {
        usable = refl;
        keeps = record {
          kept = record { legal = is.legal; events = is.events; count = λ _. is.count none; end = λ _. adds ∙ is.end none };
          tables = is.tables;
        };
        stands = stands;
      },
    )

-- one of them is bad
pub bad_found : (tells : Type 0) (j : Judged) (l : Progress) (s : SiteState) (n : ℕ) → IsThrough tells j l s → j.bad ≡ Some n → tells
    → IsBadRecord n s.image
bad_found tells j l s n through bad told =
    let all = through.all told in
    let P : Option ℕ → Type 0 = λ b. AreJudged l.manager through.history b all.rs in
    let Q : List (List ℕ) → Type 0 = λ rs. IsBadAt l.manager n rs in
    (l.manager, all.loads.loads.header, inr (all.loads.stands.file, subst Q (sym all.loads.records) (subst P bad all.judged)))

-- the file has a header
pub header_found : (tells : Type 0) (j : Judged) (l : Progress) (s : SiteState) → IsThrough tells j l s → tells
    → (m : ℕ) × HasHeader m s.image
header_found tells j l s through told = let all = through.all told in (l.manager, all.loads.loads.header)

-- a journal that wasn't opened for this cause
pub opens_err : (tells : Type 0) (r : Result Managed OpenFault) (why : OpenFault) (s : SiteState) → IsErrAnd r (λ e. e ≡ why)
    → (tells → Refuses why s.image) → Opens tells r s
opens_err tells (Ok m) why s is refuses = absurd is
opens_err tells (Err e) why s is refuses = let P : OpenFault → Type 0 = λ f. tells → Refuses f s.image in subst P (sym is) refuses

-- a kept history is kept by a ledger of the same manager that is closed
pub kept_closed : (l k : Ledger) (H : List Event) → IsKept l H → k.manager ≡ l.manager → k.closed ≡ true → IsKept k H
kept_closed l k H kept manager closed = record {
  legal = let P : ℕ → Type 0 = λ m. IsLegal m H in subst P (sym manager) kept.legal;
  events = kept.events;
  count = λ usable. absurd (true≢false (sym closed ∙ usable));
  end = λ usable. absurd (true≢false (sym closed ∙ usable));
}

-- what a manager keeps is kept by one whose ledger is the same and whose tables stand for the same
pub keeps_same : (m n : Managed) → n.ledger ≡ m.ledger → StandForSame m.tables n.tables → KeepsOn m n
keeps_same m n same tables H keeps =
    let P : Ledger → Type 0 = λ l. IsKept l H in
    let Q : Ledger → Type 0 = λ l. AreTablesOf l.manager n.tables H in
    record { kept = subst P (sym same) keeps.kept; tables = subst Q (sym same) (tables m.ledger.manager H keeps.tables) }

-- and by one of the same manager that is closed
pub keeps_closed : (m n : Managed) → n.ledger.manager ≡ m.ledger.manager → n.ledger.closed ≡ true → StandForSame m.tables n.tables
    → KeepsOn m n
keeps_closed m n number closed tables H keeps =
    let Q : ℕ → Type 0 = λ k. AreTablesOf k n.tables H in
    record {
      kept = kept_closed m.ledger n.ledger H keeps.kept number closed;
      tables =
          subst Q (sym number) (tables m.ledger.manager H keeps.tables);
    }

-- and the history with an event more that was recorded, by one whose tables followed the event from room that was reserved
pub keeps_more : AddsUp → (m n : Managed) (between : Tables) (H : List Event) (e : Event) → Keeps m H → m.ledger.closed ≡ false
    → n.ledger.manager ≡ m.ledger.manager
    → n.ledger.count ≡ m.ledger.count + 1 → Adds (spelling e) m.ledger.end n.ledger.end → n.ledger.saved ≡ m.ledger.saved → IsEvent e
    → IsAllowed m.ledger.manager H e.kind
    → StandForSame m.tables between
    → Applies e between n.tables → length H < 4611686018427387903 → Keeps n (e ∷ H)
keeps_more up m n between H e keeps usable number count end saved event allowed same applies few =
    let Q : ℕ → Type 0 = λ k. AreTablesOf k n.tables (e ∷ H) in
    record {
      kept = kept_more up m.ledger n.ledger H e keeps.kept usable number count end saved event allowed;
      tables = subst Q (sym number) (applies m.ledger.manager H few keeps.kept.legal allowed (same m.ledger.manager H keeps.tables));
    }
