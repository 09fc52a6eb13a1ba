-- A history whose spellings fit a file has small numbers: each change that was asked for takes eleven bytes, and each event one.
use Rattle.std.proofs.Common.{◌≡◌, ◌<◌, ◌≤◌, ◌+◌, ◌*◌, ℕ, List, [], ◌∷◌, ◌++◌, Option, Some, None, length, flat_map, refl, arith}
use Rattle.std.proofs.Common.{length-append}
use Rattle.std.specs.List.{filter_map}
use Rattle.event_codec.specs.Numbers as number
use Rattle.event_codec.specs.Spell as spell
use Rattle.event_codec.specs.Spell.{u16, u32, spelling}
use Rattle.journal_core.specs.Room.{TakesMore}
use Rattle.journal_records.specs.declared.limits.TheConstants.{MAX_FILE}
use Rattle.lcm_events.specs.declared.changes.Change.{Change}
use Rattle.lcm_events.specs.declared.events.Event.{Event}
use Rattle.lcm_events.specs.declared.events.EventKind.{EventKind}
use Rattle.lcm_events.specs.declared.events.EventKind.TheVariants.{Asked}
use Rattle.lcm_events.specs.declared.events.Operation.{Operation}
use Rattle.lcm_laws.specs.Serials.{SerialsAreCounted, changes_asked}
use Rattle.lcm_tables.specs.Tables.{IsSmall}
use Rattle.lcm_model.specs.Allowed.{IsLegal}
use Rattle.lcm_model.specs.Work.{window}
use Rattle.lcm_model.specs.Lives.{created_in, instances_made, subscribed_in, subscriptions_made}
use Rattle.lcm_model.specs.Operations.{asked_in, occurrences_made}
use Rattle.executor.specs.History.{spellings}
use Rattle.executor.specs.Room.{journal_end}
use Rattle.executor.proofs.SpellingLemmas.{spellings-cons}

filter_map-short : {X Y : Type 0} (h : X → Option Y) (xs : List X) → length (filter_map h xs) ≤ length xs
filter_map-short h [] = omega arith
filter_map-short {Y = Y} h (x ∷ xs) = of (h x) refl (filter_map-short h xs) where
  of : (o : Option Y) → h x ≡ o → length (filter_map h xs) ≤ length xs → length (filter_map h (x ∷ xs)) ≤ length (x ∷ xs)
  of None e short = rw e (omega arith)
  of (Some y) e short = rw e (omega arith)

-- no more instances were made than events happened
pub made_within : (H : List Event) → instances_made H ≤ length H
made_within H = filter_map-short (λ (e : Event). created_in e.kind) H

-- no more subscriptions were made than events happened
pub subscribed_within : (H : List Event) → subscriptions_made H ≤ length H
subscribed_within H = filter_map-short (λ (e : Event). subscribed_in e.kind) H

-- no more operations were asked for than events happened
pub asked_within : (H : List Event) → occurrences_made H ≤ length H
asked_within H = filter_map-short (λ (e : Event). asked_in e.kind) H

change_long : (c : Change) → length (spell.change c) ≡ 11
unfolding u16 u32
change_long c = refl

changes_long : (xs : List Change) → length (flat_map spell.change xs) ≡ 11 * length xs
changes_long [] = refl
changes_long (x ∷ xs) =
    let rest = changes_long xs in
    omega (arith, length-append (spell.change x) (flat_map spell.change xs), change_long x, rest)

behind : (xs ys : List ℕ) (n : ℕ) → n ≤ length ys → n ≤ length (xs ++ ys)
behind xs ys n h = omega (arith, h, length-append xs ys)

-- the changes that an event asks for are spelled in it
asked_long : (t : ℕ) (a : Operation) → 11 * length a.changes ≤ length (spelling (record { moment = t; kind = Asked a }))
unfolding spelling
asked_long t a =
    let long = changes_long a.changes in
    let list : 11 * length a.changes ≤ length (spell.many spell.change a.changes) =
    behind (spell.u16 (length a.changes)) (flat_map spell.change a.changes) (11 * length a.changes) (omega (arith, long)) in
    let all : 11 * length a.changes ≤ length (spell.operation a) =
    behind (spell.u64 a.occ) _ (11 * length a.changes)
    (behind (spell.u64 a.instance) _ (11 * length a.changes)
    (behind (spell.u8 (number.role a.role)) _ (11 * length a.changes)
    (behind (spell.ask a.ask) (spell.many spell.change a.changes) (11 * length a.changes) list))) in
    let fields : 11 * length a.changes ≤ length (spell.u64 t ++ spell.operation a) =
    behind (spell.u64 t) (spell.operation a) (11 * length a.changes) all in
    omega (arith, fields)

changes_step : (H : List Event) (t n : ℕ) (k : EventKind) → 11 * changes_asked H ≤ n
    → 11 * changes_asked (record { moment = t; kind = k } ∷ H) ≤ n + length (spelling (record { moment = t; kind = k }))
changes_step H t n (Asked a) h = let long = asked_long t a in omega (arith, h, long)
changes_step H t n _ h = omega (arith, h)

end_more : TakesMore → (e : Event) (H : List Event) → journal_end H + length (spelling e) < journal_end (e ∷ H)
end_more longer e H = rw (spellings-cons e H) (longer (spellings H) (spelling e))

-- each change that was asked for has its eleven bytes in the file
changes_fit : TakesMore → (H : List Event) → 11 * changes_asked H ≤ journal_end H
changes_fit longer [] = omega arith
changes_fit longer (e ∷ H) =
    let before = changes_fit longer H in
    let step = changes_step H e.moment (journal_end H) e.kind before in
    let after = end_more longer e H in
    omega (arith, step, after)

-- each event has a byte in the file
events_fit : TakesMore → (H : List Event) → length H ≤ journal_end H
events_fit longer [] = omega arith
events_fit longer (e ∷ H) =
    let before = events_fit longer H in
    let after = end_more longer e H in
    omega (arith, before, after)

-- a legal history that fits a file is small
pub small : TakesMore → (m : ℕ) (H : List Event) → SerialsAreCounted → IsLegal m H → journal_end H < MAX_FILE + MAX_FILE → IsSmall H
small longer m H law legal fits =
    let changes = changes_fit longer H in
    let events = events_fit longer H in
    record {
      serials = λ i v. let counted = law window m H legal i v in omega (arith, counted, changes, fits);
      events = omega (arith, events, fits);
    }

-- a history that fits a file has few events
pub small_end : TakesMore → (H : List Event) → journal_end H < MAX_FILE + MAX_FILE → length H < 4611686018427387903
small_end longer H fits = let events = events_fit longer H in omega (arith, events, fits)
