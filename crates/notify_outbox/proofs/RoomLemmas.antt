-- The room for the event that a notice was posted, whatever its outcome.
use Rattle.std.proofs.Common.{◌≡◌, ◌≤◌, ◌<◌, ◌+◌, ◌∙◌, ℕ, List, true}
use Rattle.std.proofs.Common.{true≢false, Result, Ok, Err, refl, ap, sym, subst, length, arith}
use Rattle.std.proofs.Common.{nat_le, map, reverse, [], ◌∷◌, ◌++◌}
use Rattle.std.proofs.lemmas.Bool.{le-leb}
use Rattle.std.proofs.lemmas.Grind.{reverse_onto}
use Rattle.std.proofs.lemmas.List.{map_push}
use Rattle.event_codec.specs.Spell.{spelling, u64}
use Rattle.executor.specs.Room.{HasRoomFor, IsFullWith, TellsRoom, is_full, journal_end}
use Rattle.executor.specs.History.{spellings}
use Rattle.executor.specs.declared.manager.WorkFault.{WorkFault}
use Rattle.executor.specs.declared.manager.WorkFault.TheVariants as work
use Rattle.executor.proofs.CommitLemmas.{full_told, room_told}
use Rattle.journal_core.specs.Room.{AddsUp, HasRoom, HasRoomBefore, TakesMore}
use Rattle.journal_records.specs.File.{size}
use Rattle.journal_records.specs.declared.limits.TheConstants.{MAX_FILE, MAX_RECORD}
use Rattle.lcm_events.specs.declared.events.Event.{Event}
use Rattle.lcm_events.specs.declared.events.EventKind.{EventKind}
use Rattle.lcm_events.specs.declared.events.EventKind.TheVariants.{Posted}
use Rattle.lcm_events.specs.declared.events.PostOutcome.{PostOutcome}
use Rattle.lcm_events.specs.declared.events.PostOutcome.TheVariants.{Delivered}
use Rattle.notify_outbox.specs.Dispatches.{posted_event}
use Rattle.notify_outbox.specs.Preparing.{TellsRoomBefore, TellsRoomOf, is_post}
use Rattle.notify_outbox.specs.declared.faults.DeliveryFault.{DeliveryFault}
use Rattle.notify_outbox.specs.declared.faults.DeliveryFault.TheVariants as fault

-- the event that a notice was posted has 26 bytes
post_length : (time : ℕ) (k : EventKind) → is_post k ≡ true → length (spelling (record { moment = time; kind = k })) ≡ 26
unfolding spelling u64
post_length time (Posted s place how) is = refl
post_length time _ is = absurd (true≢false (sym is))

-- the spellings with one event more
spellings-cons : (e : Event) (H : List Event) → spellings (e ∷ H) ≡ spellings H ++ spelling e ∷ []
spellings-cons e H = ap (map spelling) (reverse_onto H e []) ∙ map_push spelling (reverse H) e

end_grows : TakesMore → (e : Event) (H : List Event) → journal_end H + length (spelling e) < journal_end (e ∷ H)
end_grows longer e H = rw (spellings-cons e H) (longer (spellings H) (spelling e))

-- a journal that is to end at the front of its file is full: no more is saved than its history comes to
always_full : (z : ℕ) (H : List Event) → z ≤ journal_end H → is_full 0 z H ≡ true
unfolding is_full
always_full z H less = le-leb (0 + z) (journal_end H) (omega (arith, less))

never_room : TakesMore → (z : ℕ) (H : List Event) (e : Event) → z ≤ journal_end H → HasRoomFor 0 z H e → ⊥
never_room longer z H e less room =
    let grows = end_grows longer e H in true≢false (sym (always_full z (e ∷ H) (omega (arith, less, grows))) ∙ room.room)

-- and so it says nothing but that
pub full_only : TakesMore → (z : ℕ) (H : List Event) (e : Event) (result : Result (Unit {0}) WorkFault) → z ≤ journal_end H
    → is_post e.kind ≡ true → TellsRoom 0 z H e result
    → (result ≡ Err work.Memory → ⊥) → ((end more : ℕ) → result ≡ Err (work.Full end more) → ⊥) → ⊥
full_only longer z H e (Ok done) less post room memory full = never_room longer z H e less room
full_only longer z H e (Err (work.TooLong n)) less post room memory full =
    let long = room.long in omega (arith, long, post_length e.moment e.kind post)
full_only longer z H e (Err (work.Full end more)) less post room memory full = full end more refl
full_only longer z H e (Err work.Memory) less post room memory full = memory refl
full_only longer z H e (Err work.Disk) less post room memory full = never_room longer z H e less room

-- the answer that it is full says so
pub told_full : (z : ℕ) (H : List Event) (e : Event) (result : Result (Unit {0}) WorkFault) (end more : ℕ)
    → result ≡ Err (work.Full end more) → TellsRoom 0 z H e result → IsFullWith 0 z H e end more
told_full z H e result end more is room = subst (TellsRoom 0 z H e) is room

-- what it says of where it ends tells whether a journal that may fill its file has room
pub room_there : HasRoomBefore → (z : ℕ) (H : List Event) (e : Event) (end more : ℕ) → IsFullWith 0 z H e end more
    → HasRoom end more MAX_FILE → HasRoomFor MAX_FILE z H e
room_there before z H e end more full fits = record {
  fits = full.fits;
  room = room_told before MAX_FILE z end more H e full.end_is full.more_is fits;
}

pub room_full : HasRoomBefore → (z : ℕ) (H : List Event) (e : Event) (end more : ℕ) → IsFullWith 0 z H e end more
    → (HasRoom end more MAX_FILE → ⊥) → IsFullWith MAX_FILE z H e end more
room_full before z H e end more full none = record {
  fits = full.fits;
  full = full_told before MAX_FILE z end more H e full.end_is full.more_is none;
  end_is = full.end_is;
  more_is = full.more_is;
}

end_more : AddsUp → (e : Event) (H : List Event) → journal_end (e ∷ H) ≡ journal_end H + 9 + length (spelling e)
end_more adds e H =
    ap size (spellings-cons e H)
    ∙ sym (adds (spellings H) (spelling e) (journal_end H) (journal_end H + 9 + length (spelling e)) refl refl)

-- events of one length fill a journal alike
full_alike : AddsUp → (limit z : ℕ) (H : List Event) (e f : Event) → length (spelling f) ≡ length (spelling e)
    → is_full limit z (f ∷ H) ≡ is_full limit z (e ∷ H)
unfolding is_full
full_alike adds limit z H e f same =
    ap (nat_le (limit + z)) (end_more adds f H ∙ (ap (λ (n : ℕ). journal_end H + 9 + n) same ∙ sym (end_more adds e H)))

room_alike : AddsUp → (z : ℕ) (H : List Event) (e f : Event) (result : Result (Unit {0}) DeliveryFault)
    → length (spelling f) ≡ length (spelling e) → TellsRoomOf z H e result → TellsRoomOf z H f result
room_alike adds z H e f (Ok done) same room = record {
  fits = subst (λ (n : ℕ). n ≤ MAX_RECORD) (sym same) room.fits;
  room = full_alike adds MAX_FILE z H e f same ∙ room.room;
}
room_alike adds z H e f (Err (fault.Full end more)) same room = record {
  fits = subst (λ (n : ℕ). n ≤ MAX_RECORD) (sym same) room.fits;
  full = full_alike adds MAX_FILE z H e f same ∙ room.full;
  end_is = room.end_is;
  more_is = room.more_is ∙ sym same;
}
room_alike adds z H e f (Err (fault.BadRecord n)) same room = room
room_alike adds z H e f (Err fault.Disk) same room = room
room_alike adds z H e f (Err fault.Memory) same room = room

outcome_alike : AddsUp → (z now : ℕ) (H : List Event) (s place : ℕ) (result : Result (Unit {0}) DeliveryFault)
    → TellsRoomOf z H (posted_event now s place Delivered) result
    → (how : PostOutcome) → TellsRoomOf z H (posted_event now s place how) result
outcome_alike adds z now H s place result room how =
    room_alike adds z H (posted_event now s place Delivered) (posted_event now s place how) result
    (post_length now (Posted s place how) refl ∙ sym (post_length now (Posted s place Delivered) refl)) room

-- the room for one outcome is that for every outcome
pub room_before : AddsUp → (z now : ℕ) (H : List Event) (s place : ℕ) (result : Result (Unit {0}) DeliveryFault)
    → TellsRoomOf z H (posted_event now s place Delivered) result → TellsRoomBefore z now H s place result
room_before adds z now H s place (Err fault.Memory) room = tt
room_before adds z now H s place (Ok done) room = outcome_alike adds z now H s place (Ok done) room
room_before adds z now H s place (Err (fault.Full end more)) room = outcome_alike adds z now H s place (Err (fault.Full end more)) room
room_before adds z now H s place (Err (fault.BadRecord n)) room = absurd room
room_before adds z now H s place (Err fault.Disk) room = absurd room
