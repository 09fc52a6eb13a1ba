-- What recording an event does, from what the append does.
use Rattle.std.proofs.Common.{◌≡◌, ◌≤◌, ◌<◌, ◌+◌, ◌⊎◌, ◌∙◌, ℕ, List, [], ◌∷◌, ◌++◌, length, length-append, true, false, true≢false, Result}
use Rattle.std.proofs.Common.{Ok, Err, ap, arith, inl, inr, sym, subst, refl, ⊎_elim}
use Rattle.std.proofs.lemmas.Bool.{cases_lt, le-leb, lt-leb}
use Rattle.event_codec.specs.Spell.{spelling}
use Rattle.event_codec.specs.Valid.{IsEvent}
use Rattle.executor.specs.Managed.{IsReady, Keeps, Managed, MayPut, MayRecord, is_settled}
use Rattle.executor.specs.Room.{is_full, journal_end}
use Rattle.executor.specs.Work.{Extends, HasSome, StaysSound, Work, Works, WorksAtFile, aimed, broke, recorded, went}
use Rattle.executor.specs.declared.manager.WorkFault.{WorkFault}
use Rattle.executor.specs.declared.manager.WorkFault.TheVariants as fault
use Rattle.executor.specs.History.{spellings}
use Rattle.executor.proofs.SpellingLemmas.{spellings-cons}
use Rattle.executor.proofs.ManagerLemmas.{commit_moments, commit_stands, keeps_same}
use Rattle.executor.proofs.WorkLemmas.{extends_refl, extends_one, extends_trans, idle, kept_sound, some_everywhere}
use Rattle.journal_core.specs.Journal as journal
use Rattle.journal_core.specs.Journal.{Appends, Ledger, Stands}
use Rattle.journal_core.specs.Room.{HasRoom, HasRoomBefore}
use Rattle.journal_core.specs.declared.journal.AppendFault.{AppendFault}
use Rattle.lcm_events.specs.declared.events.Event.{Event}
use Rattle.lcm_events.specs.declared.events.EventKind.{EventKind}
use Rattle.lcm_events.specs.declared.events.EventKind.TheVariants.{Settled}
use Rattle.lcm_jobs.specs.Sound.{FitsJobs, IsSound}
use Rattle.lcm_jobs.proofs.KeepLemmas.{sound_more}
use Rattle.lcm_model.specs.Allowed.{IsAllowed, IsLegal}
use Rattle.lcm_model.specs.Work.{window}
use Rattle.lcm_tables.specs.Tables.{StandForSame}
use Rattle.site_traits.specs.Jobs.{Job}
use Rattle.site_traits.specs.Site.{KeepsJobs, LeavesOnly, Pair, SiteState}
use Rattle.site_traits.specs.Moments.{is_since}

-- there is room for the event
pub room_told : HasRoomBefore → (limit saved end more : ℕ) (H : List Event) (e : Event) → end + saved ≡ journal_end H
    → more ≡ length (spelling e) → HasRoom end more limit → is_full limit saved (e ∷ H) ≡ false
unfolding is_full
room_told before limit saved end more H e end_is more_is room =
    let less : journal_end (e ∷ H) < limit + saved = rw (spellings-cons e H)
    ((before (spellings H) (spelling e) end saved limit end_is).0 (rw (← more_is) room)) in
    lt-leb (limit + saved) (journal_end (e ∷ H)) less

-- there is none
pub full_told : HasRoomBefore → (limit saved end more : ℕ) (H : List Event) (e : Event) → end + saved ≡ journal_end H
    → more ≡ length (spelling e) → (HasRoom end more limit → ⊥) → is_full limit saved (e ∷ H) ≡ true
unfolding is_full
full_told before limit saved end more H e end_is more_is none = ⊎_elim
    (λ (less : journal_end (e ∷ H) < limit + saved). absurd (none (rw more_is
    ((before (spellings H) (spelling e) end saved limit end_is).1 (rw (spellings-cons e H) at less)))))
    (λ (most : limit + saved ≤ journal_end (e ∷ H)). le-leb (limit + saved) (journal_end (e ∷ H)) most)
    (cases_lt (journal_end (e ∷ H)) (limit + saved))

-- a history between one and it with an event more is one of the two
pub between_one : (H K : List Event) (e : Event) → Extends H K → Extends K (e ∷ H) → (K ≡ H) ⊎ (K ≡ e ∷ H)
between_one H K e from to = of from.more to.more from.is to.is where
  of : (before behind : List Event) → K ≡ before ++ H → e ∷ H ≡ behind ++ K → (K ≡ H) ⊎ (K ≡ e ∷ H)
  of [] behind from to = inl from
  of (x ∷ before) [] from to = inr (sym to)
  of (x ∷ before) (y ∷ behind) from to =
      let grown = ap length from in
      let reached = ap length to in
      absurd (omega (arith, grown, reached, length-append before H, length-append behind K))

-- an event that isn't a Settled fits all jobs
pub unsettled_fits : (k : EventKind) (js : List Job) → is_settled k ≡ false → FitsJobs k js
unsettled_fits (Settled t out) js unsettled = absurd (true≢false unsettled)
unsettled_fits _ js unsettled = tt

-- what may be recorded may be put
pub may_put : (m : ℕ) (H : List Event) (e : Event) → MayRecord m H e → MayPut m H e
may_put m H e may = record { rules = may.rules; allowed = may.allowed }

-- recording an event aims at it at most
aims : (H : List Event) (e : Event) (result : Result (Unit {0}) WorkFault) → Extends (aimed (recorded H e result)) (e ∷ H)
aims H e (Ok done) = extends_refl (e ∷ H)
aims H e (Err (fault.TooLong n)) = extends_one e H
aims H e (Err (fault.Full end more)) = extends_one e H
aims H e (Err fault.Memory) = extends_one e H
aims H e (Err fault.Disk) = extends_refl (e ∷ H)

-- what putting an event that fits the jobs leaves of sound ones
pub put_sound : (tells : Type 0) (m : ℕ) (H : List Event) (e : Event) (result : Result (Unit {0}) WorkFault) (n : Managed) (a b : SiteState)
    → tells
    → WorksAtFile tells m H (recorded H e result) n a b → KeepsJobs a b → IsAllowed m H e.kind → IsSound m H a.jobs → FitsJobs e.kind a.jobs
    → StaysSound m H (recorded H e result) a b
put_sound tells m H e result n a b told works alone allowed sound fits =
    kept_sound tells m H (recorded H e result) n a b told works alone
    (λ K from to. ⊎_elim
    (λ (is : K ≡ H). subst (λ (X : List Event). IsSound m X a.jobs) (sym is) sound)
    (λ (is : K ≡ e ∷ H). subst (λ (X : List Event). IsSound m X a.jobs) (sym is)
    (sound_more window m H e.moment e.kind a.jobs sound allowed fits))
    (between_one H K e from (extends_trans K (aimed (recorded H e result)) (e ∷ H) to (aims H e result))))

-- and so putting one that is no Settled is work that leaves the jobs alone, and sound ones sound
pub put_works : (tells : Type 0) (m : ℕ) (H : List Event) (e : Event) (result : Result (Unit {0}) WorkFault) (n : Managed) (a b : SiteState)
    → WorksAtFile tells m H (recorded H e result) n a b → (tells → KeepsJobs a b) → IsAllowed m H e.kind → is_settled e.kind ≡ false
    → Works tells m H (recorded H e result) n a b
put_works tells m H e result n a b works alone allowed unsettled = record {
  number = works.number;
  keeps = works.keeps;
  closed = works.closed;
  grows = works.grows;
  site = works.site;
  sound = λ told sound. put_sound tells m H e result n a b told works (alone told) allowed sound (unsettled_fits e.kind a.jobs unsettled);
  jobs = alone;
}

-- an event was recorded
pub committed : (tells : Type 0) (m n : Managed) (H : List Event) (e : Event) (a b : SiteState) → IsReady tells m H a → Keeps n (e ∷ H)
    → n.ledger.manager ≡ m.ledger.manager → n.ledger.closed ≡ false → IsEvent e
    → (tells → Appends {T = Unit {0}} {E = AppendFault} (spelling e) (Ok tt) m.ledger n.ledger a b)
    → WorksAtFile tells m.ledger.manager H (went (e ∷ H)) n a b
committed tells m n H e a b ready keeps number usable event appended = record {
  number = number;
  keeps = keeps;
  closed = usable;
  grows = record {
    to_stood = extends_one e H;
    to_aimed = extends_refl (e ∷ H);
    legal = let P : ℕ → Type 0 = λ k. IsLegal k (e ∷ H) in subst P number keeps.kept.legal;
  };
  site = λ told.
      let stands = commit_stands m n H e a b event (ready.stands told) (appended told).stands (appended told).added in
      let here : (p : Pair) → b.since b.moment p → HasSome m.ledger.manager (e ∷ H) (e ∷ H) p =
      let P : ℕ → Type 0 = λ k. (p : Pair) → b.since b.moment p → HasSome k (e ∷ H) (e ∷ H) p in
      subst P number (some_everywhere n (e ∷ H) b stands) in
      record {
        any_moment = commit_moments m H e a b (ready.stands told) event (appended told).any_moment;
        at_exit = here;
        stands =
            λ fine. stands;
      };
}

-- the disk failed on the way there
pub broken : (tells : Type 0) (m n : Managed) (H : List Event) (e : Event) (a b : SiteState) → IsReady tells m H a → Keeps n H
    → n.ledger.manager ≡ m.ledger.manager → n.ledger.closed ≡ true → IsEvent e → IsAllowed m.ledger.manager H e.kind
    → (tells → LeavesOnly (journal.HasOrAdds m.ledger.manager (spelling e) a) a b)
    → WorksAtFile tells m.ledger.manager H (broke H (e ∷ H)) n a b
broken tells m n H e a b ready keeps number shut event allowed left = record {
  number = number;
  keeps = keeps;
  closed = shut;
  grows = record { to_stood = extends_refl H; to_aimed = extends_one e H; legal = (allowed, ready.keeps.kept.legal) };
  site = λ told.
      let run = commit_moments m H e a b (ready.stands told) event (left told) in
      record {
        any_moment = run;
        at_exit = is_since (HasSome m.ledger.manager H (e ∷ H)) a b run;
        stands =
            λ fine. absurd (true≢false fine);
      };
}

-- a manager with the same ledger, whose tables stand for the same, is as ready
pub ready_same : (tells : Type 0) (m n : Managed) (H : List Event) (a : SiteState) → IsReady tells m H a → n.ledger ≡ m.ledger
    → StandForSame m.tables n.tables → IsReady tells n H a
ready_same tells m n H a ready same tables =
    let P : Ledger → Type 0 = λ l. l.closed ≡ false in
    let Q : Ledger → Type 0 = λ l. Stands a l in
    record {
      usable = subst P (sym same) ready.usable;
      keeps = keeps_same m n same tables H ready.keeps;
      stands = λ told. let stands = ready.stands told in record {
        journal = subst Q (sym same) stands.journal;
        records = stands.records;
        events = stands.events;
      };
    }

-- nothing was done but that room was reserved
pub left_alone : (tells : Type 0) (m n : Managed) (H : List Event) (a : SiteState) → IsReady tells m H a → n.ledger ≡ m.ledger
    → StandForSame m.tables n.tables → Works tells m.ledger.manager H (went H) n a a
left_alone tells m n H a ready same tables =
    let P : Ledger → Type 0 = λ l. Works tells l.manager H (went H) n a a in
    subst P same (idle tells n H a (ready_same tells m n H a ready same tables))

-- the event was refused before the disk was asked for anything
pub refused : (tells : Type 0) (m : Managed) (H : List Event) (e : Event) (s : SiteState) (r : Result (Unit {0}) WorkFault)
    (why : WorkFault) → r ≡ Err why → (why ≡ fault.Disk → ⊥)
    → IsReady tells m H s → Works tells m.ledger.manager H (recorded H e r) m s s
refused tells m H e s r why is other ready =
    let P : Work → Type 0 = λ w. Works tells m.ledger.manager H w m s s in
    subst P (sym (ap (recorded H e) is ∙ went_on why other)) (idle tells m H s ready) where
      went_on : (why : WorkFault) → (why ≡ fault.Disk → ⊥) → recorded H e (Err why) ≡ went H
      went_on fault.Disk other = absurd (other refl)
      went_on _ other = refl
