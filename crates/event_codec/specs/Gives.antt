-- What a reading function answers, against what the reader makes of its bytes.
use Rattle.std.specs.Prelude.{ℕ, ◌≡◌, List, ◌++◌, Option, Some, None, Result, Ok, Err, true, false}
use Rattle.std.specs.Borrow.{Bor}
use Rattle.vnfm_base.specs.Text.{is_short_text}
use Rattle.event_codec.specs.declared.fault.DecodeFault.{DecodeFault}
use Rattle.event_codec.specs.declared.fault.DecodeFault.TheVariants.{NotEvent, Memory}

-- the value that is read and the bytes behind it, or that there is none; want of memory says nothing
abbrev pub Gives : {A : Type 0} → List ℕ → Result A DecodeFault → Option (A × List ℕ) → Type 0
Gives rest (Ok x) read = read ≡ Some (x, rest)
Gives rest (Err NotEvent) read = read ≡ None
Gives rest (Err Memory) read = Unit {0}

-- entries that were read before, in front of those that are still to be read
abbrev pub with_front : {A : Type 0} → List A → Option (List A × List ℕ) → Option (List A × List ℕ)
with_front front None = None
with_front front (Some x) = Some (front ++ x.0, x.1)

-- the same of a value that is lent
abbrev pub GivesNow : {A : Type 0} → List ℕ → Result (Bor A) DecodeFault → Option (A × List ℕ) → Type 0
GivesNow rest (Ok x) read = read ≡ Some (x.now, rest)
GivesNow rest (Err NotEvent) read = read ≡ None
GivesNow rest (Err Memory) read = Unit {0}

-- the bytes as a short text, if they are one
abbrev pub GivesText : ℕ → List ℕ → Result (List ℕ) DecodeFault → Type 0
GivesText most bytes (Ok text) = (text ≡ bytes) × (is_short_text most bytes ≡ true)
GivesText most bytes (Err NotEvent) = is_short_text most bytes ≡ false
GivesText most bytes (Err Memory) = Unit {0}

-- the same, of all the bytes
abbrev pub GivesWhole : {A : Type 0} → Result A DecodeFault → Option A → Type 0
GivesWhole (Ok x) read = read ≡ Some x
GivesWhole (Err NotEvent) read = read ≡ None
GivesWhole (Err Memory) read = Unit {0}
