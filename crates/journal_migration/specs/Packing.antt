-- How the records of a journal are packed into batches (own rule, docs/JOURNAL.md, "Migration").
use Rattle.std.specs.Prelude.{◌≡◌, ◌⊎◌, ◌≤◌, ◌<◌, ℕ, ◌+◌, List, [], ◌∷◌, ◌++◌, length, All, Option, Some, None}
use Rattle.std.specs.Int.{w32, to_be_bytes}
use Rattle.journal_records.specs.File.{header, held, content, blocks, gate_place, records_of_all, IsBatch, IsRecord}
use Rattle.journal_records.specs.declared.limits.TheConstants.{MAX_BATCH, MAX_FILE}
use Rattle.journal_migration.specs.declared.packing.Full.{Full}

-- a batch has no room for the first record of the batches behind it
abbrev pub HasNoRoomFor : List (List ℕ) → List (List (List ℕ)) → Type 0
HasNoRoomFor batch ((bytes ∷ more) ∷ rest) = MAX_BATCH < length (content batch) + length (held bytes)
HasNoRoomFor batch nothing = Unit {0}

-- no batch has room for the record behind it
abbrev pub AreFull : List (List (List ℕ)) → Type 0
AreFull [] = Unit {0}
AreFull (batch ∷ rest) = HasNoRoomFor batch rest × AreFull rest

-- these records are packed into these batches: in order, and each into the same batch as the one before it where that
-- has room
pub record ArePacked (rs : List (List ℕ)) (bs : List (List (List ℕ))) : Type 0 where
  pub records : records_of_all bs ≡ rs
  pub each : All IsBatch bs
  pub full : AreFull bs

-- the file of this manager with these batches, whose closed gate is 00 and the last byte
abbrev pub file_of : ℕ → List (List (List ℕ)) → List ℕ
file_of manager bs = header manager ++ blocks bs ++ 0 ∷ []

-- the file of this manager with these records, packed
pub record IsPackedFile (manager : ℕ) (rs : List (List ℕ)) (image : List ℕ) : Type 0 where
  pub batches : List (List (List ℕ))
  pub packed : ArePacked rs batches
  pub is : image ≡ file_of manager batches
  pub small : gate_place batches < MAX_FILE

-- of these batches this is the first for which a file has no room: it would begin at `end`, with so many bytes of
-- content
pub record IsFirstUnfit (unfit : Full) (bs : List (List (List ℕ))) : Type 0 where
  pub before : List (List (List ℕ))
  pub batch : List (List ℕ)
  pub behind : List (List (List ℕ))
  pub splits : bs ≡ before ++ batch ∷ behind
  pub end : unfit.end ≡ gate_place before
  pub more : unfit.more ≡ length (content batch)
  pub fits : gate_place before < MAX_FILE
  pub passes : MAX_FILE < unfit.end + 6 + unfit.more

-- these records, packed, are too many for a file
pub record AreTooMany (rs : List (List ℕ)) (unfit : Full) : Type 0 where
  pub batches : List (List (List ℕ))
  pub packed : ArePacked rs batches
  pub first : IsFirstUnfit unfit batches

-- Records that are being packed: the file so far, up to the first batch for which it has no room; the content of the
-- batch at hand; and that first batch.
pub record Packing : Type 0 where
  pub bytes : List ℕ
  pub content : List ℕ
  pub unfit : Option Full

-- the bytes are those of a file with these batches up to where its gate is to stand, or there is no room for one of them
abbrev pub HoldsBatches : ℕ → List (List (List ℕ)) → List ℕ → Option Full → Type 0
HoldsBatches manager bs bytes None = (bytes ≡ header manager ++ blocks bs) × (gate_place bs < MAX_FILE)
HoldsBatches manager bs bytes (Some unfit) = IsFirstUnfit unfit bs

-- these records were packed so far, the last of them in the batch at hand
pub record HasPacked (manager : ℕ) (rs : List (List ℕ)) (p : Packing) : Type 0 where
  pub batches : List (List (List ℕ))
  pub hand : List (List ℕ)
  pub records : records_of_all batches ++ hand ≡ rs
  pub each : All IsBatch batches
  pub some : All IsRecord hand
  pub at_hand : p.content ≡ content hand
  pub full : AreFull (batches ++ hand ∷ [])
  pub begun : hand ≡ [] → batches ≡ []
  pub file : HoldsBatches manager batches p.bytes p.unfit

-- an open batch with this content: an open gate, the number of the content's bytes, and it
abbrev pub opened : List ℕ → List ℕ
opened bytes = 1 ∷ to_be_bytes w32 (length bytes) ++ bytes

-- The batch at hand was put behind those of the file, where that has room for it and a closed gate; else it is the first
-- for which the file has none.
abbrev pub Appends : Packing → Packing → Type 0
Appends old new =
    (length old.bytes + 6 + length old.content ≤ MAX_FILE) × (new.unfit ≡ old.unfit)
    × (new.bytes ≡ old.bytes ++ opened old.content)
    ⊎ (MAX_FILE < length old.bytes + 6 + length old.content) × (new.bytes ≡ old.bytes)
    × (new.unfit ≡ Some (record { end = length old.bytes; more = length old.content }))

-- what is known once all were packed, by whether there was no room for a batch
abbrev pub PacksAll : ℕ → List (List ℕ) → List ℕ → Option Full → Type 0
PacksAll manager rs bytes None = IsPackedFile manager rs bytes
PacksAll manager rs bytes (Some unfit) = AreTooMany rs unfit
