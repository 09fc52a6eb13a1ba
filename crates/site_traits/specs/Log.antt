-- A record of calls with bytes, in room that was taken before.
use Rattle.std.specs.Prelude.{◌≡◌, ◌≤◌, ◌<◌, ℕ, ◌+◌, List, ◌∷◌, [], ◌++◌, length, take, drop, map, sum_by, All}
use Rattle.site_traits.specs.declared.log.Entry.{Entry}

-- the call of an entry with its bytes
abbrev pub entry_of : {T : Type 0} → List ℕ → Entry T → T × List ℕ
entry_of bytes e = (e.what, take e.len (drop e.from bytes))

-- the bytes of an entry lie within those that are there
abbrev pub IsWithin : {T : Type 0} → List ℕ → Entry T → Type 0
IsWithin bytes e = e.from + e.len ≤ length bytes

-- the calls on record, the oldest first, each with its bytes, and the room: for how many calls, and for how many bytes
-- (own rule)
pub record Recorded (T : Type 0) : Type 0 where
  pub calls : List (T × List ℕ)
  pub most_calls : ℕ
  pub most_bytes : ℕ

-- how many bytes these calls have
abbrev pub size_of : {T : Type 0} → List (T × List ℕ) → ℕ
size_of calls = sum_by (λ c. length c.1) calls

-- nothing is on record, with room for so many calls and so many bytes
abbrev pub empty : {T : Type 0} → ℕ → ℕ → Recorded T
empty calls bytes = record { calls = []; most_calls = calls; most_bytes = bytes }

-- one call more with so many bytes has room
pub record HasRoom {T : Type 0} (n : ℕ) (r : Recorded T) : Type 0 where
  pub call : length r.calls < r.most_calls
  pub bytes : size_of r.calls + n ≤ r.most_bytes

-- the room stays
pub record SameRoom {T : Type 0} (old new : Recorded T) : Type 0 where
  pub calls : new.most_calls ≡ old.most_calls
  pub bytes : new.most_bytes ≡ old.most_bytes

-- the record with this call and its bytes behind the others
abbrev pub with_call : {T : Type 0} → T → List ℕ → Recorded T → Recorded T
with_call what bytes r = record r { calls = r.calls ++ (what, bytes) ∷ [] }

-- each entry lies within the bytes, and the bytes are those of the entries
pub record IsKept {T : Type 0} (bytes : List ℕ) (entries : List (Entry T)) : Type 0 where
  pub within : All (IsWithin bytes) entries
  pub size : length bytes ≡ size_of (map (entry_of bytes) entries)
