-- What an answer appends may be recorded.
use Rattle.std.proofs.Common.{◌≡◌, ◌≤◌, ◌==◌, ◌||◌, ◌∙◌, ℕ, List, [], ◌∷◌, Bool, true, false, Option, None, Some, refl, ap, sym, subst}
use Rattle.std.proofs.Common.{arith, length, option_map, codes, Result, Ok, Err, IfOk}
use Rattle.std.specs.Prelude.{nat_le, option_and_then}
use Rattle.serde_json.specs.Data.{Data}
use Rattle.serde_json.specs.Find.{as_str, get}
use Rattle.serde_json.specs.Read.{read}
use Rattle.std.specs.Str.{is_utf8}
use Rattle.vnfm_base.specs.Text.{is_short_text}
use Rattle.event_codec.specs.Typed.{TypedEvent}
use Rattle.event_codec.specs.Valid.{IsEvent, IsMoved}
use Rattle.executor.specs.Managed.{IsReady, Managed, MayRecord, is_settled}
use Rattle.executor.specs.Room.{TellsRoom}
use Rattle.executor.specs.Work.{Idles, Work, WorksAtFile, WorksWithJobs, recorded, went}
use Rattle.journal_records.specs.declared.limits.TheConstants.{MAX_FILE}
use Rattle.executor.specs.declared.manager.WorkFault.{WorkFault}
use Rattle.executor.specs.declared.manager.WorkFault.TheVariants as fault
use Rattle.lcm_events.specs.declared.changes.Change.{Change}
use Rattle.lcm_events.specs.declared.places.Place.{Place}
use Rattle.site_traits.specs.Site.{SiteState}
use Rattle.grant_desk.specs.Answers.{answer_of, given_in, given_text, grant_in, grant_of, granted, later, rows_where}
use Rattle.grant_desk.specs.declared.answers.GrantAnswer.{GrantAnswer}
use Rattle.grant_desk.specs.declared.answers.GrantAnswer.TheVariants as says
use Rattle.grant_desk.specs.declared.rows.GrantRows.{GrantRows}
use Rattle.lcm_events.specs.declared.events.Event.{Event}
use Rattle.lcm_events.specs.declared.events.EventKind.{EventKind}
use Rattle.lcm_events.specs.declared.events.EventKind.TheVariants.{Denied, GrantTried, Granted, Moved}
use Rattle.lcm_events.specs.declared.events.Operation.{Operation}
use Rattle.lcm_events.specs.declared.states.OpState.{OpState}
use Rattle.lcm_events.specs.declared.states.OpState.TheVariants.{Completed, Failed, FailedTemp, Processing, RolledBack, RollingBack}
use Rattle.lcm_events.specs.declared.states.OpState.TheVariants.{Starting}
use Rattle.lcm_laws.specs.Acting.{IsAnswer, NextActionsAreAllowed, with_events}
use Rattle.lcm_laws.specs.Granting.{CoveringRowsPlaceChanges}
use Rattle.lcm_laws.proofs.BoundLaws.{plans_small}
use Rattle.lcm_laws.proofs.Lists.{by_test}
use Rattle.lcm_model.specs.Allowed.{IsAllowed, IsLegal}
use Rattle.lcm_model.specs.Descriptors.{is_given}
use Rattle.lcm_model.specs.Grants.{covers}
use Rattle.lcm_model.specs.Moves.{state}
use Rattle.lcm_model.specs.Next.{Answer, GrantCame, GrantDenied, GrantLater, GrantMissesSome, GrantTrouble, appended, granting, next_action}
use Rattle.lcm_model.specs.Next.{polling}
use Rattle.lcm_model.specs.Operations.{changes, operation, operations}
use Rattle.lcm_model.specs.Work.{MayMove, window}
use Rattle.lcm_model.specs.declared.actions.Action.TheVariants.{MoveTo, Poll}
use Rattle.occ_table.specs.Rows.{occurrence}
use Rattle.occ_table.specs.declared.rows.OccRow.{OccRow}
use Rattle.occ_table.proofs.JudgeLaws.{found_in}
use Rattle.site_traits.specs.Answer.{Answer as Heard}
use Rattle.site_traits.specs.declared.orchestrator.Call.{Call}
use Rattle.site_traits.specs.declared.orchestrator.Call.TheVariants as call
use Rattle.occ_work.specs.Acting.{Records}
use Rattle.occ_work.specs.Acting.{TellsRoomFor, recording}
use Rattle.occ_steps.specs.Active.{IsActive}
use Rattle.occ_work.proofs.AttemptLemmas.{AreFew}
use Rattle.occ_steps.proofs.ActiveLemmas.{active_asked}
use Rattle.executor.proofs.WorkLemmas.{with_jobs}
use Rattle.occ_work.specs.declared.ends.Acted.{Acted}
use Rattle.occ_work.specs.declared.ends.Acted.TheVariants.{Recorded, Waiting}
use Rattle.occ_steps.proofs.StepLemmas.{changes_of_row}
use Rattle.occ_work.specs.Deeds.{answer_heard, answer_with, ending, point}
use Rattle.occ_work.specs.Exchanges.{exchanging, kinds_for}

-- what follows from a value that was found
bound : {A B : Type 0} → (f : A → Option B) (x : Option A) (y : B) → option_and_then f x ≡ Some y → (a : A) × (x ≡ Some a) × (f a ≡ Some y)
bound f None y e = cc
bound f (Some a) y e = (a, refl, e)

mapped : {A B : Type 0} → (f : A → B) (x : Option A) (y : B) → option_map f x ≡ Some y → (a : A) × (x ≡ Some a) × (f a ≡ y)
mapped f None y e = cc
mapped f (Some a) y e = (a, refl, cc)

-- a name that was given isn't empty
text_given : (text id : List ℕ) → given_text text ≡ Some id → is_given id ≡ true
text_given text id e = by_test (nat_le 1 (length text))
    (λ some. by_test (is_short_text 255 text)
    (λ short. let same : text ≡ id = whole (sym (rw (some, short) refl) ∙ e) in subst (λ (t : List ℕ). is_given t ≡ true) same some)
    (λ long. absurd (nothing id (sym (rw (some, long) refl) ∙ e))))
    (λ none. absurd (nothing id (sym (rw none refl) ∙ e))) where
      whole : {A : Type 0} → {x y : A} → Some x ≡ Some y → x ≡ y
      whole h = cc

      nothing : {A : Type 0} → (x : A) → None ≡ Some x → ⊥
      nothing x h = cc

-- the identifier of a grant isn't empty
grant_given : (d : Data) (rows : GrantRows) → grant_in d ≡ Some rows → is_given rows.grant ≡ true
grant_given d rows e =
    let id = bound _ (option_and_then given_in (get (codes "id") d)) rows e in
    let add = bound _ (rows_where (get (codes "addResources") d)) rows id.2 in
    let remove = bound _ (rows_where (get (codes "removeResources") d)) rows add.2 in
    let update = mapped _ (rows_where (get (codes "updateResources") d)) rows remove.2 in
    let value = bound given_in (get (codes "id") d) id.0 id.1 in
    let text = bound given_text (as_str value.0) id.0 value.2 in
    let whole : is_given id.0 ≡ true = text_given text.0 id.0 text.2 in
    subst (λ (r : GrantRows). is_given r.grant ≡ true) update.2 whole

read_given : (bytes : List ℕ) (rows : GrantRows) → grant_of bytes ≡ Some rows → is_given rows.grant ≡ true
read_given bytes rows e = by_test (is_utf8 bytes)
    (λ text. let found = bound grant_in (read bytes) rows (sym (rw text refl) ∙ e) in grant_given found.0 rows found.2)
    (λ other. absurd (nothing rows (sym (rw other refl) ∙ e))) where
      nothing : {A : Type 0} → (x : A) → None ≡ Some x → ⊥
      nothing x h = cc

granted_given : (found : Option GrantRows) (rows : GrantRows) → granted found ≡ says.Granted rows → found ≡ Some rows
granted_given None rows e = cc
granted_given (Some x) rows e = cc

never_later : (asking : Bool) (at : Option (List ℕ)) (rows : GrantRows) → later asking at ≡ says.Granted rows → ⊥
never_later true None rows e = cc
never_later true (Some at) rows e = cc
never_later false None rows e = cc
never_later false (Some at) rows e = cc

-- the identifier of a grant that was heard isn't empty
pub heard_given : (asking : Bool) (heard : Heard) (rows : GrantRows) → answer_of asking heard ≡ says.Granted rows
    → is_given rows.grant ≡ true
heard_given asking heard rows e = by_test ((heard.status == 200) || (heard.status == 201))
    (λ came. read_given heard.body rows (granted_given (grant_of heard.body) rows (sym (rw came refl) ∙ e)))
    (λ other. by_test (heard.status == 202)
    (λ comes. absurd (never_later asking heard.location rows (sym (rw (other, comes) refl) ∙ e)))
    (λ not_later. by_test (heard.status == 403)
    (λ denied. absurd (is_denied (sym (rw (other, not_later, denied) refl) ∙ e)))
    (λ not_denied. absurd (is_trouble (sym (rw (other, not_later, not_denied) refl) ∙ e))))) where
      is_denied : says.Denied ≡ says.Granted rows → ⊥
      is_denied h = cc

      is_trouble : says.Trouble ≡ says.Granted rows → ⊥
      is_trouble h = cc

-- an answer has what is asked of it: a grant has an identifier, and a place for each change
answers_to : (H : List Event) (o : ℕ) (x : GrantAnswer) → CoveringRowsPlaceChanges
    → ((rows : GrantRows) → x ≡ says.Granted rows → is_given rows.grant ≡ true)
    → IsAnswer H o (answer_with (changes H o) x)
answers_to H o (says.Granted rows) placed given = by_test (covers (changes H o) rows.add rows.remove rows.update)
    (λ all. rw all (given rows refl, placed (changes H o) rows.add rows.remove rows.update all))
    (λ misses. rw misses tt)
answers_to H o (says.Later at) placed given = tt
answers_to H o says.Denied placed given = tt
answers_to H o says.Trouble placed given = tt

pub is_answer : (H : List Event) (o : ℕ) (asking : Bool) (ended : Call) (heard : Heard) → CoveringRowsPlaceChanges
    → IsAnswer H o (answer_heard asking (changes H o) ended heard)
is_answer H o asking call.Came heard placed = answers_to H o (answer_of asking heard) placed (λ rows e. heard_given asking heard rows e)
is_answer H o asking call.Failed heard placed = tt

-- the kinds of events of a grant exchange
abbrev IsOfExchange : EventKind → Type 0
IsOfExchange (GrantTried o answer) = Unit {0}
IsOfExchange (Granted o grant places spots) = Unit {0}
IsOfExchange (Denied o) = Unit {0}
IsOfExchange _ = ⊥

abbrev AreOfExchange : List EventKind → Type 0
AreOfExchange [] = Unit {0}
AreOfExchange (kind ∷ kinds) = IsOfExchange kind

granting_kinds : (o : ℕ) (answer : Answer) → AreOfExchange (granting o answer)
granting_kinds o (GrantCame grant places spots) = tt
granting_kinds o GrantMissesSome = tt
granting_kinds o GrantDenied = tt
granting_kinds o GrantTrouble = tt
granting_kinds o (GrantLater (Some at)) = tt
granting_kinds o (GrantLater None) = tt
granting_kinds o _ = tt

polling_kinds : (o : ℕ) (answer : Answer) → AreOfExchange (polling o answer)
polling_kinds o (GrantCame grant places spots) = tt
polling_kinds o GrantMissesSome = tt
polling_kinds o GrantDenied = tt
polling_kinds o GrantTrouble = tt
polling_kinds o (GrantLater at) = tt
polling_kinds o _ = tt

kinds_of_exchange : (asking : Bool) (o : ℕ) (answer : Answer) → AreOfExchange (kinds_for asking o answer)
kinds_of_exchange true o answer = granting_kinds o answer
kinds_of_exchange false o answer = polling_kinds o answer

few_changes : (m : ℕ) (H : List Event) (o : ℕ) → IsLegal m H → length (changes H o) ≤ 5000
few_changes m H o legal = of (operation H o) refl where
  of : (x : Option Operation) → operation H o ≡ x → length (changes H o) ≤ 5000
  of None e = rw e (omega arith)
  of (Some a) e = rw e (plans_small window m H legal a (found_in (λ x. x.occ) (operations H) o a e))

-- what the exchange appends keeps the format's rules
keeps_rules : (m now : ℕ) (H : List Event) (kind : EventKind) → IsLegal m H → IsOfExchange kind → IsAllowed m H kind
    → TypedEvent (record { moment = now; kind = kind }) → IsEvent (record { moment = now; kind = kind })
keeps_rules m now H (GrantTried o answer) legal is allowed typed = typed
keeps_rules m now H (Denied o) legal is allowed typed = typed
keeps_rules m now H (Granted o grant places spots) legal is allowed typed =
    let few = few_changes m H o legal in
    let size = allowed.placed.one_a_change in
    let it = typed.1 in
    (typed.0, (it.0, it.1, (allowed.placed.few, it.2, (omega (arith, few, size), it.3), allowed.placed.known)))
keeps_rules m now H _ legal is allowed typed = absurd is

unsettled : (kind : EventKind) → IsOfExchange kind → is_settled kind ≡ false
unsettled (GrantTried o answer) is = refl
unsettled (Granted o grant places spots) is = refl
unsettled (Denied o) is = refl
unsettled _ is = absurd is

appended_for : (asking : Bool) (o : ℕ) (answer : Answer) → appended o (exchanging asking) answer ≡ kinds_for asking o answer
appended_for true o answer = refl
appended_for false o answer = refl

-- what an answer appends may be recorded
pub may_take : (m now : ℕ) (H : List Event) (o : ℕ) (asking : Bool) (ended : Call) (heard : Heard) (kind : EventKind)
    → NextActionsAreAllowed → CoveringRowsPlaceChanges
    → IsLegal m H → IsActive H o → next_action H o ≡ Some (exchanging asking)
    → kinds_for asking o (answer_heard asking (changes H o) ended heard) ≡ kind ∷ [] → MayRecord m H (record { moment = now; kind = kind })
may_take m now H o asking ended heard kind allows placed legal is next one =
    let answer : Answer = answer_heard asking (changes H o) ended heard in
    let good = is_answer H o asking ended heard placed in
    let onward = allows window m H (omega arith) legal o now (exchanging asking) answer (active_asked H o is) next good in
    let kinds : appended o (exchanging asking) answer ≡ kind ∷ [] = appended_for asking o answer ∙ one in
    let both : IsLegal m (with_events now (kind ∷ []) H) = subst (λ (ks : List EventKind). IsLegal m (with_events now ks H)) kinds onward in
    let of : IsOfExchange kind = subst AreOfExchange one (kinds_of_exchange asking o answer) in
    record { rules = keeps_rules m now H kind legal of both.0; allowed = both.0; unsettled = unsettled kind of }

-- no occurrence moves to STARTING
never_to_start : (H : List Event) (o : ℕ) (from : OpState) → MayMove H o from Starting → ⊥
never_to_start H o Starting h = absurd h
never_to_start H o Processing h = absurd h
never_to_start H o Completed h = absurd h
never_to_start H o FailedTemp h = absurd h
never_to_start H o RollingBack h = absurd h
never_to_start H o RolledBack h = absurd h
never_to_start H o Failed h = absurd h

is_moved : (H : List Event) (o : ℕ) (from to : OpState) → MayMove H o from to → IsMoved to
is_moved H o from Starting h = absurd (never_to_start H o from h)
is_moved H o from Processing h = refl
is_moved H o from Completed h = refl
is_moved H o from FailedTemp h = refl
is_moved H o from RollingBack h = refl
is_moved H o from RolledBack h = refl
is_moved H o from Failed h = refl

-- a move may be recorded
pub may_move_on : (m now : ℕ) (H : List Event) (o : ℕ) (to : OpState) → NextActionsAreAllowed → IsLegal m H → IsActive H o
    → next_action H o ≡ Some (MoveTo to)
    → MayRecord m H (record { moment = now; kind = Moved o to })
may_move_on m now H o to allows legal is next =
    let onward = allows window m H (omega arith) legal o now (MoveTo to) GrantTrouble (active_asked H o is) next tt in
    record { rules = λ typed. (typed.0, (typed.1, is_moved H o (state H o) to onward.0.1)); allowed = onward.0; unsettled = refl }

-- and so may the event of it
pub may_take_event : (m now : ℕ) (H : List Event) (o : ℕ) (asking : Bool) (ended : Call) (heard : Heard) (kind : EventKind) (e : Event)
    → NextActionsAreAllowed → CoveringRowsPlaceChanges
    → IsLegal m H → IsActive H o → next_action H o ≡ Some (exchanging asking)
    → kinds_for asking o (answer_heard asking (changes H o) ended heard) ≡ kind ∷ [] → e ≡ record { moment = now; kind = kind }
    → MayRecord m H e
may_take_event m now H o asking ended heard kind e allows placed legal is next one same =
    subst (λ (x : Event). MayRecord m H x) (sym same) (may_take m now H o asking ended heard kind allows placed legal is next one)

pub may_move_event : (m now : ℕ) (H : List Event) (o : ℕ) (to : OpState) (e : Event) → NextActionsAreAllowed → IsLegal m H → IsActive H o
    → next_action H o ≡ Some (MoveTo to)
    → e ≡ record { moment = now; kind = Moved o to } → MayRecord m H e
may_move_event m now H o to e allows legal is next same =
    subst (λ (x : Event). MayRecord m H x) (sym same) (may_move_on m now H o to allows legal is next)

-- what an answer appends, by the changes of the row
pub kinds_by_row : (H : List Event) (o : ℕ) (r : OccRow) (xs : List Change) (asking : Bool) (ended : Call) (heard : Heard)
    (kinds : List EventKind) → occurrence H o ≡ Some r → xs ≡ r.changes
    → kinds_for asking o (answer_heard asking xs ended heard) ≡ kinds
    → kinds_for asking o (answer_heard asking (changes H o) ended heard) ≡ kinds
kinds_by_row H o r xs asking ended heard kinds found same is =
    ap (λ (ys : List Change). kinds_for asking o (answer_heard asking ys ended heard)) (changes_of_row H o r found ∙ sym same) ∙ is

-- what was recorded of one event was recorded of its kind
pub records_as : (tells : Type 0) (m z now : ℕ) (kinds : List EventKind) (H : List Event) (result : Result Acted WorkFault) (n : Managed)
    (a b : SiteState) (e : Event) (kind : EventKind)
    → e ≡ record { moment = now; kind = kind } → kinds ≡ kind ∷ [] → Records tells (point m z e.moment H) (e.kind ∷ []) result n a b
    → Records tells (point m z now H) kinds result n a b
records_as tells m z now kinds H result n a b e kind same one records =
    subst (λ (ks : List EventKind). Records tells (point m z now H) ks result n a b) (sym one)
    (subst (λ (x : Event). Records tells (point m z x.moment H) (x.kind ∷ []) result n a b) same records)

-- nothing was recorded
pub records_none : (tells : Type 0) (m : Managed) (now : ℕ) (kinds : List EventKind) (H : List Event) (done : Acted) (s : SiteState)
    → Idles tells s → IsReady tells m H s → kinds ≡ []
    → Records tells (point m.ledger.manager m.ledger.saved now H) kinds (Ok done) m s s
records_none tells m now kinds H done s idles ready none =
    subst (λ (ks : List EventKind). Records tells (point m.ledger.manager m.ledger.saved now H) ks (Ok done) m s s) (sym none)
    (record { works = with_jobs tells m.ledger.manager H (went H) m s s (idles m H ready); saved = refl; room = tt })

-- there was no memory for it
pub records_starved : (tells : Type 0) (m : Managed) (now : ℕ) (kinds : List EventKind) (H : List Event) (s : SiteState) → AreFew kinds
    → Idles tells s → IsReady tells m H s
    → Records tells (point m.ledger.manager m.ledger.saved now H) kinds (Err fault.Memory) m s s
records_starved tells m now [] H s few idles ready = record {
  works = with_jobs tells m.ledger.manager H (went H) m s s (idles m H ready);
  saved = refl;
  room = tt;
}
records_starved tells m now (k ∷ []) H s few idles ready = record {
  works =
      with_jobs tells m.ledger.manager H (went H) m s s (idles m H ready);
  saved = refl;
  room = tt;
}
records_starved tells m now (k ∷ l ∷ more) H s few idles ready = absurd few

few_granting : (o : ℕ) (answer : Answer) → AreFew (granting o answer)
few_granting o (GrantCame grant places spots) = tt
few_granting o GrantMissesSome = tt
few_granting o GrantDenied = tt
few_granting o GrantTrouble = tt
few_granting o (GrantLater (Some at)) = tt
few_granting o (GrantLater None) = tt
few_granting o _ = tt

few_polling : (o : ℕ) (answer : Answer) → AreFew (polling o answer)
few_polling o (GrantCame grant places spots) = tt
few_polling o GrantMissesSome = tt
few_polling o GrantDenied = tt
few_polling o GrantTrouble = tt
few_polling o (GrantLater at) = tt
few_polling o _ = tt

-- an answer appends one event or none
pub few_kinds : (asking : Bool) (o : ℕ) (answer : Answer) → AreFew (kinds_for asking o answer)
few_kinds true o answer = few_granting o answer
few_kinds false o answer = few_polling o answer

-- recording one event is the work of its kind
one_recorded : (H : List Event) (e : Event) (why : WorkFault) → recorded H e (Err why) ≡ recording e.moment (e.kind ∷ []) H (Err why)
one_recorded H e (fault.TooLong n) = refl
one_recorded H e (fault.Full end more) = refl
one_recorded H e fault.Memory = refl
one_recorded H e fault.Disk = refl

pub recorded_works : (tells : Type 0) (m : ℕ) (H : List Event) (e : Event) (why : WorkFault) (n : Managed) (a b : SiteState)
    → WorksWithJobs tells m H (recorded H e (Err why)) n a b
    → WorksWithJobs tells m H (recording e.moment (e.kind ∷ []) H (Err why)) n a b
recorded_works tells m H e why n a b works = subst (λ (w : Work). WorksWithJobs tells m H w n a b) (one_recorded H e why) works

pub recorded_at_file : (tells : Type 0) (m : ℕ) (H : List Event) (e : Event) (why : WorkFault) (n : Managed) (a b : SiteState)
    → WorksAtFile tells m H (recorded H e (Err why)) n a b
    → WorksAtFile tells m H (recording e.moment (e.kind ∷ []) H (Err why)) n a b
recorded_at_file tells m H e why n a b works = subst (λ (w : Work). WorksAtFile tells m H w n a b) (one_recorded H e why) works

-- and what is told of its room is told of that of its kind
pub one_room : (z : ℕ) (H : List Event) (e : Event) (why : WorkFault) → TellsRoom MAX_FILE z H e (Err why)
    → TellsRoomFor z e.moment (e.kind ∷ []) H (Err why)
one_room z H e (fault.TooLong n) room = room
one_room z H e (fault.Full end more) room = room
one_room z H e fault.Memory room = tt
one_room z H e fault.Disk room = room

ends_poll : (o : ℕ) (answer : Answer) (kind : EventKind) → polling o answer ≡ kind ∷ [] → ending Poll answer ≡ Recorded
ends_poll o (GrantLater at) kind e = cc
ends_poll o (GrantCame grant places spots) kind e = refl
ends_poll o GrantMissesSome kind e = refl
ends_poll o GrantDenied kind e = refl
ends_poll o GrantTrouble kind e = refl
ends_poll o _ kind e = refl

-- where an event is appended the act ends so
pub ends_recorded : (asking : Bool) (o : ℕ) (answer : Answer) (kind : EventKind) → kinds_for asking o answer ≡ kind ∷ []
    → ending (exchanging asking) answer ≡ Recorded
ends_recorded true o answer kind e = refl
ends_recorded false o answer kind e = ends_poll o answer kind e

waits_with : (asking : Bool) (o : ℕ) (xs : List Change) (x : GrantAnswer) → kinds_for asking o (answer_with xs x) ≡ []
    → Waiting ≡ ending (exchanging asking) (answer_with xs x)
waits_with asking o xs (says.Granted rows) e = by_test (covers xs rows.add rows.remove rows.update)
    (λ all. absurd (came asking _ _ _ (rw all at e)))
    (λ misses. absurd (missed asking (rw misses at e))) where
      came : (asking : Bool) (grant : List ℕ) (places : List Place) (spots : List ℕ)
          → kinds_for asking o (GrantCame grant places spots) ≡ [] → ⊥
      came true grant places spots h = cc
      came false grant places spots h = cc

      missed : (asking : Bool) → kinds_for asking o GrantMissesSome ≡ [] → ⊥
      missed true h = cc
      missed false h = cc
waits_with true o xs (says.Later None) e = cc
waits_with true o xs (says.Later (Some at)) e = cc
waits_with false o xs (says.Later at) e = refl
waits_with true o xs says.Denied e = cc
waits_with false o xs says.Denied e = cc
waits_with true o xs says.Trouble e = cc
waits_with false o xs says.Trouble e = cc

-- where none is it waits
pub ends_waiting : (asking : Bool) (o : ℕ) (xs : List Change) (ended : Call) (heard : Heard)
    → kinds_for asking o (answer_heard asking xs ended heard) ≡ []
    → Waiting ≡ ending (exchanging asking) (answer_heard asking xs ended heard)
ends_waiting asking o xs call.Came heard e = waits_with asking o xs (answer_of asking heard) e
ends_waiting true o xs call.Failed heard e = cc
ends_waiting false o xs call.Failed heard e = cc

pub ended_as : (result : Result Acted WorkFault) (x y : Acted) → IfOk result (λ done. done ≡ x) → y ≡ x → IfOk result (λ done. done ≡ y)
ended_as (Ok done) x y is same = is ∙ sym same
ended_as (Err why) x y is same = tt
