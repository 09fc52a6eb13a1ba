-- What calls of std on streams do to their bytes.
use Rattle.std.specs.Prelude.{◌≡◌, ◌≤◌, ℕ, ◌+◌, List, [], ◌++◌, length, take, drop, Option, Some, None, Result, Ok, Err}
use Rattle.std.specs.Prelude.{IfOk, OnOk, OnErr}
use Rattle.std.specs.IoError.{error_kind}
use Rattle.std.specs.declared.io.ErrorKind.{ErrorKind}
use Rattle.std.specs.declared.io.ErrorKind.TheVariants as kind
use Rattle.std.specs.declared.io.Error.{Error}
use Rattle.site_traits.specs.Counts.{one_more}

-- the bytes of a stream: all that come in, and those that are left to be read
pub record Incoming : Type 0 where
  pub bytes : List ℕ
  pub left : List ℕ

-- a stream in which nothing comes in
abbrev pub nothing : Incoming
nothing = record { bytes = []; left = [] }

-- n bytes were read to the front of the piece, the rest of which stays; none only at the end or where the piece has no
-- room (std, `Read::read`)
pub record Got (before after : List ℕ) (n : ℕ) (old new : Incoming) : Type 0 where
  pub within : n ≤ length old.left
  pub piece : after ≡ take n old.left ++ drop n before
  pub left : new.left ≡ drop n old.left
  pub bytes : new.bytes ≡ old.bytes
  pub end : n ≡ 0 → 1 ≤ length before → old.left ≡ []

-- nothing was read
pub record GotNothing (before after : List ℕ) (old new : Incoming) : Type 0 where
  pub piece : after ≡ before
  pub state : new ≡ old

-- what a read does: a failed one has read nothing
pub record Gives {E : Type 0} (before after : List ℕ) (result : Result ℕ E) (old new : Incoming) : Type 0 where
  pub got : IfOk result (λ n. Got before after n old new)
  pub failed : OnErr result (GotNothing before after old new)

-- what a write does: a failed one has written nothing (std, `Write::write`)
pub record Takes {E : Type 0} (bytes : List ℕ) (result : Result ℕ E) (old new : List ℕ) : Type 0 where
  pub took : IfOk result (λ n. new ≡ old ++ take n bytes)
  pub failed : OnErr result (new ≡ old)

-- what a write of all bytes does: a failed one has written a front of them (std, `Write::write_all`)
pub record TakesAll {T E : Type 0} (bytes : List ℕ) (result : Result T E) (old new : List ℕ) : Type 0 where
  pub took : OnOk result (new ≡ old ++ bytes)
  pub failed : OnErr result ((k : ℕ) × (new ≡ old ++ take k bytes))

-- a call on a stream: for how many bytes it was, and the kind of its fault where it failed
pub record StreamCall : Type 0 where
  pub size : ℕ
  pub fault : Option ErrorKind

-- the kind of the fault of a call that failed
abbrev pub fault_of : {T : Type 0} → Result T Error → Option ErrorKind
fault_of (Ok value) = None
fault_of (Err e) = Some (error_kind e)

-- How often a call was interrupted by a signal, how often one was answered otherwise, as far as a u64 counts, and the
-- last of them all.
pub record StreamCalls : Type 0 where
  pub interrupted : ℕ
  pub answered : ℕ
  pub last : StreamCall

-- none was made
abbrev pub uncalled : StreamCalls
uncalled = record { interrupted = 0; answered = 0; last = record { size = 0; fault = None } }

-- one call more, for so many bytes, which ended so
abbrev pub called : ℕ → Option ErrorKind → StreamCalls → StreamCalls
called size (Some kind.Interrupted) c = record {
  interrupted = c.interrupted + 1;
  answered = c.answered;
  last =
      record { size = size; fault = Some kind.Interrupted };
}
called size fault c = record {
  interrupted = c.interrupted;
  answered = one_more c.answered;
  last =
      record { size = size; fault = fault };
}

-- so many were answered, the last of them for so many bytes and so, and none was interrupted
abbrev pub uninterrupted : ℕ → ℕ → Option ErrorKind → StreamCalls
uninterrupted answered size fault = record {
  interrupted = 0;
  answered = answered;
  last =
      record { size = size; fault = fault };
}
