-- A call on a stream that is made again where a signal interrupted it (own rule).
use Rattle.std.specs.Prelude.{◌≡◌, ◌≢◌, ◌⊎◌, ℕ, ◌+◌, ◌-◌, ◌^◌, Option, Some, None}
use Rattle.std.specs.declared.io.ErrorKind.{ErrorKind}
use Rattle.std.specs.declared.io.ErrorKind.TheVariants as kind
use Rattle.host_calls.specs.Streams.{StreamCalls}
use Rattle.site_traits.specs.Counts.{one_more}
use Rattle.site_traits.specs.declared.door.ReadAnswer.{ReadAnswer}
use Rattle.site_traits.specs.declared.door.ReadAnswer.TheVariants as read
use Rattle.site_traits.specs.declared.door.WriteAnswer.{WriteAnswer}
use Rattle.site_traits.specs.declared.door.WriteAnswer.TheVariants as write

-- One call, for all of so many bytes, was answered, by this fault or none, and it was the last: each before it was
-- interrupted.
pub record AnsweredOnce (size : ℕ) (fault : Option ErrorKind) (old new : StreamCalls) : Type 0 where
  pub answered : new.answered ≡ one_more old.answered
  pub last : new.last ≡ record { size = size; fault = fault }
  pub answer : fault ≢ Some kind.Interrupted

-- every call was interrupted, as many as a u64 counts, and none was made behind these
pub record GivenUp (fault : Option ErrorKind) (old new : StreamCalls) : Type 0 where
  pub answered : new.answered ≡ old.answered
  pub interrupted : new.interrupted ≡ old.interrupted + (2 ^ 64 - 1)
  pub fault_is : fault ≡ Some kind.Other

-- it was called until one call was answered, or that was given up
abbrev pub MadeAgain : ℕ → Option ErrorKind → StreamCalls → StreamCalls → Type 0
MadeAgain size fault old new = AnsweredOnce size fault old new ⊎ GivenUp fault old new

-- so it was read, and a fault is told as one
pub record ReadsAgain (size : ℕ) (answer : ReadAnswer) (old new : StreamCalls) : Type 0 where
  pub fault : Option ErrorKind
  pub again : MadeAgain size fault old new
  pub done : fault ≡ None → answer ≢ read.Failed
  pub failed : fault ≢ None → answer ≡ read.Failed

-- so it was written, and a fault is told as one
pub record WritesAgain (size : ℕ) (answer : WriteAnswer) (old new : StreamCalls) : Type 0 where
  pub fault : Option ErrorKind
  pub again : MadeAgain size fault old new
  pub failed : fault ≢ None → answer ≡ write.Failed
