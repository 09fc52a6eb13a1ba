-- Whether the journal of a stage is full, by the length of its file and by where its closed gate stands.
use Rattle.std.proofs.Common.{◌≡◌, ◌∙◌, ◌+◌, ◌<◌, ◌≤◌, ◌++◌, ◌∷◌, ℕ, List, true, false, ap, arith, length, length-append, sym}
use Rattle.std.proofs.lemmas.Bool.{le-leb, lt-leb}
use Rattle.executor.specs.Managed.{Managed, StandsFor}
use Rattle.executor.specs.Room.{is_full, journal_end}
use Rattle.journal_core.proofs.Records.{batches_of, front_length}
use Rattle.journal_core.specs.Journal.{Ledger, Stands}
use Rattle.journal_records.specs.File.{HasRecords, batches, blocks, gate_place, header, records, size}
use Rattle.lcm_events.specs.declared.events.Event.{Event}
use Rattle.site_traits.specs.Site.{SiteState}

-- a file with records is longer than where the gate stands behind them
gate_within : (m : ℕ) (rs : List (List ℕ)) (image : List ℕ) → HasRecords m rs image → gate_place (batches image) < length image
gate_within m rs image has =
    let bs = has.batches in
    let same : gate_place (batches image) ≡ gate_place bs = ap gate_place (batches_of m bs image has.file) in
    let front = front_length m bs in
    let gate = has.file.gate in
    let tail = has.file.tail in
    let whole : length image ≡ length ((header m ++ blocks bs) ++ gate ∷ tail) = ap length has.file.is in
    let parts : length ((header m ++ blocks bs) ++ gate ∷ tail) ≡ length (header m ++ blocks bs) + length (gate ∷ tail) =
    length-append (header m ++ blocks bs) (gate ∷ tail) in
    let some : 1 ≤ length (gate ∷ tail) = omega arith in
    omega (arith, same, front, whole, parts, some)

-- the journal of a history ends where the closed gate of the file stands, and what it saves behind that
end_is : (m : Managed) (H : List Event) (s : SiteState) → StandsFor m H s → journal_end H ≡ m.ledger.end + m.ledger.saved
end_is m H s stands = ap size (sym stands.records) ∙ sym stands.journal.saved

-- a journal whose file isn't longer than the room isn't full
pub not_full : (m : Managed) (H : List Event) (s : SiteState) → StandsFor m H s → m.ledger.saved ≡ 0 → length s.image ≤ 67108864
    → is_full 67108864 0 H ≡ false
unfolding is_full
not_full m H s stands none within =
    let end = end_is m H s stands in
    let place = stands.journal.end in
    let less = gate_within m.ledger.manager (records s.image) s.image stands.journal.file in
    lt-leb (67108864 + 0) (journal_end H) (omega (arith, end, place, less, none, within))

-- a journal of the same file that ends past the room is full
pub full : (m : Managed) (H : List Event) (s b : SiteState) (j : Ledger) → StandsFor m H s → Stands b j → b.image ≡ s.image
    → 67108864 ≤ j.end + j.saved → is_full 67108864 0 H ≡ true
unfolding is_full
full m H s b j stands other same past =
    let own : journal_end H ≡ size (records s.image) = ap size (sym stands.records) in
    let its = other.saved in
    let alike : size (records b.image) ≡ size (records s.image) = ap (λ (i : List ℕ). size (records i)) same in
    le-leb (67108864 + 0) (journal_end H) (omega (arith, own, its, alike, past))
