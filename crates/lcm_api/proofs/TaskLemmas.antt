-- What a task of an occurrence comes to, by its row.
use Rattle.std.proofs.Common.{◌≡◌, ◌≤◌, ◌↔◌, ◌∙◌, ◌++◌, ℕ, Bool, true, false, cond, not, option_map, List, [], ◌∷◌, length, Option, Some}
use Rattle.std.proofs.Common.{None, Result, Ok, Err, ap, refl, sym, subst, arith, eq-eqb}
use Rattle.std.specs.Prelude.{codes, is_some}
use Rattle.std.specs.Result.{IfOk}
use Rattle.event_codec.specs.Spell.{spelling, u64}
use Rattle.event_codec.specs.Typed.{TypedEvent}
use Rattle.event_codec.specs.Valid.{IsEvent}
use Rattle.executor.specs.Managed.{Managed, is_settled}
use Rattle.instance_table.specs.Rows as instances
use Rattle.journal_records.specs.declared.limits.TheConstants.{MAX_RECORD}
use Rattle.json_views.specs.Occurrences.{IsOccurrenceShowable}
use Rattle.json_bodies.specs.Words.{state_word}
use Rattle.lcm_events.proofs.SameLaws.{same_state-true}
use Rattle.lcm_events.specs.declared.asks.Ask.{Ask}
use Rattle.lcm_events.specs.declared.asks.Ask.TheVariants.{Heal, Instantiate, Operate, Scale, ScaleToLevel, Terminate}
use Rattle.lcm_events.specs.declared.asks.OpKind.{OpKind}
use Rattle.lcm_events.specs.declared.events.Event.{Event}
use Rattle.lcm_events.specs.declared.events.Operation.{Operation}
use Rattle.lcm_events.specs.declared.states.OpState.{OpState}
use Rattle.lcm_events.specs.declared.states.OpState.TheVariants.{FailedTemp}
use Rattle.lcm_events.specs.declared.states.Task.{Task}
use Rattle.lcm_events.specs.declared.states.Task.TheVariants as tasks
use Rattle.lcm_laws.proofs.Lists.{by_test}
use Rattle.lcm_laws.proofs.SettledLaws.{found_number}
use Rattle.lcm_model.specs.Allowed.{IsAllowed, IsLegal}
use Rattle.lcm_model.specs.Moves.{is_final, state}
use Rattle.lcm_model.specs.Operations.{kind_of, operation, operations}
use Rattle.lcm_model.specs.Refusals.{has_task, is_terminate, serves, task_refusal}
use Rattle.lcm_model.specs.Words.{first_some, when}
use Rattle.lcm_model.specs.Work.{MayMove, is_termination, window}
use Rattle.lcm_model.specs.declared.refusals.TaskRefusal.{TaskRefusal}
use Rattle.lcm_model.specs.declared.refusals.TaskRefusal.TheVariants.{NotSupported, WrongState}
use Rattle.occ_table.proofs.JudgeLaws.{found_in, found_row}
use Rattle.occ_table.proofs.RowSteps.{row-step}
use Rattle.occ_table.specs.Rows.{occurrence, row}
use Rattle.occ_table.specs.Steps.{row_after}
use Rattle.occ_table.specs.declared.rows.OccRow.{OccRow}
use Rattle.lcm_api.specs.Occurrences.{occurrence_row_text, show_row, shown_row}
use Rattle.lcm_api.specs.Recording.{IsPlanned}
use Rattle.lcm_api.specs.Planning.{told}
use Rattle.lcm_replies.specs.Replies.{refusal, shown}
use Rattle.lcm_api.specs.Tasks.{task_asked, task_event, task_judged, task_kind, task_of, task_refused, task_reply, task_taken}
use Rattle.lcm_api.specs.declared.record.Planned.TheVariants.{Records, Told}
use Rattle.lcm_replies.specs.declared.reply.Reply.{Reply}
use Rattle.lcm_api.specs.declared.tasks.AskedTask.{AskedTask}
use Rattle.lcm_api.specs.declared.tasks.AskedTask.TheVariants.{Cancel, Fail, Retry, Rollback}

-- a task that isn't refused is one of the operation, for this state
accepted : (kind : OpKind) (s : OpState) (task : Task) → task_refusal kind s task ≡ None
    → (has_task kind task ≡ true) × (serves task s ≡ true)
accepted kind s task none = by (has_task kind task) (serves task s) none where
  by : (x y : Bool) → first_some (when (not x) NotSupported ∷ when (not y) (WrongState s) ∷ []) ≡ None → (x ≡ true) × (y ≡ true)
  by true true e = (refl, refl)
  by true false e = cc
  by false y e = cc

-- an operation that may be rolled back is no TERMINATE
not_terminate : (ask : Ask) → has_task (kind_of ask) tasks.Rollback ≡ true → is_terminate ask ≡ false
not_terminate (Instantiate flavour level) e = refl
not_terminate (Scale way aspect steps) e = refl
not_terminate (ScaleToLevel aim) e = refl
not_terminate (Heal cause named) e = refl
not_terminate (Operate started stop) e = refl
not_terminate (Terminate mode timeout) e = cc

-- the operation of its number is there
there : (H : List Event) (n : ℕ) (a : Operation) → operation H n ≡ Some a → is_some (operation H n) ≡ true
there H n a found = ap is_some found

-- from FAILED_TEMP an occurrence may go where a task takes it
moves : (H : List Event) (n : ℕ) (to : OpState) → state H n ≡ FailedTemp → MayMove H n FailedTemp to → MayMove H n (state H n) to
moves H n to stopped may = subst (λ (s : OpState). MayMove H n s to) (sym stopped) may

-- what isn't refused is allowed
pub allowed : (m : ℕ) (H : List Event) (n : ℕ) (asked : AskedTask) (a : Operation) → operation H n ≡ Some a
    → task_refusal (kind_of a.ask) (state H n) (task_of asked) ≡ None
    → IsAllowed m H (task_kind n asked)
allowed m H n Retry a found none = (
  there H n a found,
  moves H n _
      (same_state-true (state H n) FailedTemp (accepted (kind_of a.ask) (state H n) tasks.Retry none).1) tt,
)
allowed m H n Rollback a found none =
    let is = accepted (kind_of a.ask) (state H n) tasks.Rollback none in
    (there H n a found, moves H n _ (same_state-true (state H n) FailedTemp is.1) (ap is_termination found ∙ not_terminate a.ask is.0))
allowed m H n Fail a found none = (
  there H n a found,
  moves H n _
      (same_state-true (state H n) FailedTemp (accepted (kind_of a.ask) (state H n) tasks.Fail none).1) tt,
)
allowed m H n (Cancel mode) a found none = (there H n a found, (accepted (kind_of a.ask) (state H n) tasks.Cancel none).1)

-- the event keeps the format's rules
keeps_rules : (now n : ℕ) (asked : AskedTask) → TypedEvent (task_event now n asked) → IsEvent (task_event now n asked)
keeps_rules now n Retry typed = (typed.0, (typed.1, refl))
keeps_rules now n Rollback typed = (typed.0, (typed.1, refl))
keeps_rules now n Fail typed = (typed.0, (typed.1, refl))
keeps_rules now n (Cancel mode) typed = typed

unsettled : (n : ℕ) (asked : AskedTask) → is_settled (task_kind n asked) ≡ false
unsettled n Retry = refl
unsettled n Rollback = refl
unsettled n Fail = refl
unsettled n (Cancel mode) = refl

-- a record holds the event
event_fits : (now n : ℕ) (asked : AskedTask) → length (spelling (task_event now n asked)) ≤ MAX_RECORD
unfolding spelling u64
event_fits now n Retry = omega arith
event_fits now n Rollback = omega arith
event_fits now n Fail = omega arith
event_fits now n (Cancel mode) = omega arith

-- what is asked of an occurrence comes to why it is refused
found_is : (m : ℕ) (H : List Event) (now n : ℕ) (asked : AskedTask) (last : Bool) (a : Operation) → operation H n ≡ Some a
    → task_asked m H now asked last (operation H n) ≡ task_judged m H now asked a last
    (task_refusal (kind_of a.ask) (state H n) (task_of asked))
found_is m H now n asked last a found =
    ap (task_asked m H now asked last) found
    ∙ ap (λ (o : ℕ). task_judged m H now asked a last (task_refusal (kind_of a.ask) (state H o) (task_of asked)))
    (found_number (λ x. x.occ) (operations H) n a found)

-- a task that nothing refuses may be recorded, with its reply
takes : (m : Managed) (H : List Event) (now n : ℕ) (asked : AskedTask) (last : Bool) (a : Operation) (reply : Reply) (event : Event)
    → operation H n ≡ Some a
    → task_refusal (kind_of a.ask) (state H n) (task_of asked) ≡ None → event ≡ task_event now n asked
    → reply ≡ task_reply m.ledger.manager (task_event now n asked ∷ H) asked a last
    → IsPlanned (task_asked m.ledger.manager H now asked last (operation H n)) m H (Records event reply)
takes m H now n asked last a reply event found none event_is reply_is =
    let number : a.occ ≡ n = found_number (λ x. x.occ) (operations H) n a found in
    rw (event_is, reply_is) (
      found_is m.ledger.manager H now n asked last a found
          ∙ (ap (task_judged m.ledger.manager H now asked a last) none ∙ recorded number),
      record {
        may = record {
          rules = keeps_rules now n asked;
          allowed = allowed m.ledger.manager H n asked a found none;
          unsettled =
              unsettled n asked;
        };
        fits = λ is. event_fits now n asked;
      },
    ) where
      recorded : a.occ ≡ n → task_judged m.ledger.manager H now asked a last None
          ≡ task_taken m.ledger.manager H (task_event now n asked) asked a last
      recorded number = ap (λ (o : ℕ). task_taken m.ledger.manager H (task_event now o asked) asked a last) number

-- a task that is refused adds nothing
refuses : (m : Managed) (H : List Event) (now n : ℕ) (asked : AskedTask) (last : Bool) (a : Operation) (why : TaskRefusal) (reply : Reply)
    → operation H n ≡ Some a
    → task_refusal (kind_of a.ask) (state H n) (task_of asked) ≡ Some why → task_refused why last ≡ told reply
    → IsPlanned (task_asked m.ledger.manager H now asked last (operation H n)) m H (Told reply)
refuses m H now n asked last a why reply found some is =
    found_is m.ledger.manager H now n asked last a found ∙ (ap (task_judged m.ledger.manager H now asked a last) some ∙ is)

-- the row that is found is that of the operation
row_is : (H : List Event) (n : ℕ) (a : Operation) (r : OccRow) → operation H n ≡ Some a → occurrence H n ≡ Some r → row H a ≡ r
row_is H n a r found e = let same : Some (row H a) ≡ Some r = sym (ap (option_map (row H)) found) ∙ e in cc

-- why a task is refused is told by the row
refusal_is : (H : List Event) (n : ℕ) (a : Operation) (r : OccRow) (task : Task) → operation H n ≡ Some a → occurrence H n ≡ Some r
    → task_refusal (kind_of r.ask) r.state task ≡ task_refusal (kind_of a.ask) (state H n) task
refusal_is H n a r task found e =
    ap (λ (x : OccRow). task_refusal (kind_of x.ask) x.state task) (sym (row_is H n a r found e))
    ∙ ap (λ (o : ℕ). task_refusal (kind_of a.ask) (state H o) task) (found_number (λ x. x.occ) (operations H) n a found)

-- what the graph allows isn't refused
pub none_refuses : {U : Type 0} (u : U) (refusal : Option TaskRefusal) → ((why : TaskRefusal) → (Ok u ≡ Err why) ↔ (refusal ≡ Some why))
    → refusal ≡ None
none_refuses u None told = refl
none_refuses u (Some why) told = let no = (told why).1 refl in cc

-- a task that the row doesn't refuse may be recorded, with its reply
pub takes_row : (m : Managed) (H : List Event) (now n : ℕ) (asked : AskedTask) (last : Bool) (r : OccRow) (reply : Reply) (event : Event)
    → occurrence H n ≡ Some r
    → task_refusal (kind_of r.ask) r.state (task_of asked) ≡ None → event ≡ task_event now n asked
    → ((a : Operation) → operation H n ≡ Some a → IsAllowed m.ledger.manager H (task_kind n asked)
    → reply ≡ task_reply m.ledger.manager (task_event now n asked ∷ H) asked a last)
    → IsPlanned (task_asked m.ledger.manager H now asked last (operation H n)) m H (Records event reply)
takes_row m H now n asked last r reply event e none event_is reply_is =
    let it = found_row H n r e in
    let free = sym (refusal_is H n it.0 r (task_of asked) it.1 e) ∙ none in
    takes m H now n asked last it.0 reply event it.1 free event_is (reply_is it.0 it.1 (allowed m.ledger.manager H n asked it.0 it.1 free))

-- a task that the row refuses adds nothing
pub refuses_row : (m : Managed) (H : List Event) (now n : ℕ) (asked : AskedTask) (last : Bool) (r : OccRow) (why : TaskRefusal)
    (reply : Reply) → occurrence H n ≡ Some r
    → task_refusal (kind_of r.ask) r.state (task_of asked) ≡ Some why → task_refused why last ≡ told reply
    → IsPlanned (task_asked m.ledger.manager H now asked last (operation H n)) m H (Told reply)
refuses_row m H now n asked last r why reply e some is =
    let it = found_row H n r e in
    refuses m H now n asked last it.0 why reply it.1 (sym (refusal_is H n it.0 r (task_of asked) it.1 e) ∙ some) is

-- the refusal names the state
pub names_state : {E : Type 0} (x : Result Reply E) (at_state : OpState) (word : List ℕ) (last : Bool) → word ≡ state_word at_state
    → IfOk x (λ reply. reply ≡ refusal 409 (codes "operation is " ++ word) last)
    → IfOk x (λ reply. task_refused (WrongState at_state) last ≡ told reply)
names_state (Ok reply) at_state word last is reply_is = ap told
    (sym (reply_is ∙ ap (λ (text : List ℕ). refusal 409 (codes "operation is " ++ text) last) is))
names_state (Err why) at_state word last is reply_is = tt

-- the row of an occurrence once it has failed
failed_row : (m : ℕ) (H : List Event) (now n : ℕ) (a : Operation) (r : OccRow) → IsLegal m H → operation H n ≡ Some a → row H a ≡ r
    → IsAllowed m H (task_kind n Fail)
    → row (task_event now n Fail ∷ H) a ≡ row_after now None (task_kind n Fail) r
failed_row m H now n a r legal found is may =
    row-step window m H now (task_kind n Fail) n a refl (found_in (λ x. x.occ) (operations H) n a found) (omega arith) legal may
    ∙ (ap (λ (b : Bool). cond b (row_after now None (task_kind n Fail) (row H a)) (row H a))
    (eq-eqb n a.occ (sym (found_number (λ x. x.occ) (operations H) n a found)))
    ∙ ap (row_after now None (task_kind n Fail)) is)

-- the text of a view doesn't change with an event that onboards no descriptor
text_stays : (m : ℕ) (H : List Event) (now n k : ℕ) (r : OccRow)
    → occurrence_row_text m (instances.rows H) k r ≡ occurrence_row_text m (instances.rows (task_event now n Fail ∷ H)) k r
unfolding occurrence_row_text
text_stays m H now n k r = refl

-- the occurrence that has failed is shown
shows : (m : ℕ) (H : List Event) (now n : ℕ) (a : Operation) (r : OccRow) (last : Bool) → a.occ ≡ n → row (task_event now n Fail ∷ H) a ≡ r
    → shown_row m H last n r ≡ task_reply m (task_event now n Fail ∷ H) Fail a last
shows m H now n a r last number is =
    ap (λ (text : List ℕ). shown text last) (text_stays m H now n n r)
    ∙ (ap (λ (x : OccRow). shown_row m (task_event now n Fail ∷ H) last n x) (sym is)
    ∙ ap (λ (k : ℕ). shown_row m (task_event now n Fail ∷ H) last k (row (task_event now n Fail ∷ H) a)) (sym number))

-- one told reply is one reply
told_reply : (x y : Reply) → told x ≡ told y → x ≡ y
told_reply x y same = cc

pub shows_failed : {E : Type 0} (m : ℕ) (H : List Event) (now n : ℕ) (a : Operation) (r : OccRow) (last : Bool) (x : Result Reply E)
    → IsLegal m H → operation H n ≡ Some a → occurrence H n ≡ Some r
    → IsAllowed m H (task_kind n Fail) → IfOk x (λ reply. show_row m H last n (row_after now None (task_kind n Fail) r) ≡ told reply)
    → IfOk x (λ reply. reply ≡ task_reply m (task_event now n Fail ∷ H) Fail a last)
shows_failed m H now n a r last (Ok reply) legal found e may told_is =
    told_reply reply _ (sym told_is)
    ∙ shows m H now n a _ last (found_number (λ x. x.occ) (operations H) n a found)
    (failed_row m H now n a r legal found (row_is H n a r found e) may)
shows_failed m H now n a r last (Err why) legal found e may told_is = tt

-- the occurrence that has failed can be shown
pub showable : (rs : instances.Rows) (now n : ℕ) (r : OccRow) → IsOccurrenceShowable rs n r
    → IsOccurrenceShowable rs n (row_after now None (task_kind n Fail) r)
showable rs now n r is = by_test (is_final r.state) (λ over. rw over is)
    (λ on. rw on (record { number = is.number; instance = is.instance; onboarded = is.onboarded }))
