-- The one connection to an infrastructure (own rules).
use Rattle.std.specs.Prelude.{◌≡◌, ◌⊎◌, ℕ, Bool, List, [], true, false, Option, Some, None, IfSome}
use Rattle.host_calls.specs.Streams.{Incoming}
use Rattle.site_traits.specs.declared.jobs.BeginAnswer.{BeginAnswer}
use Rattle.site_traits.specs.declared.jobs.BeginAnswer.TheVariants as begin
use Rattle.site_traits.specs.declared.jobs.LookAnswer.{LookAnswer}
use Rattle.site_traits.specs.declared.jobs.LookAnswer.TheVariants as look
use Rattle.site_traits.specs.declared.jobs.AbortAnswer.{AbortAnswer}
use Rattle.site_traits.specs.declared.jobs.AbortAnswer.TheVariants as abort
use Rattle.vim_wire.specs.declared.lines.VimReply.{VimReply}
use Rattle.vim_wire.specs.declared.lines.VimReply.TheVariants as reply
use Rattle.vim_peers.specs.Lines.{IsLineOf, IsNoLine}
use Rattle.vim_peers.specs.declared.opened.Opened.{Opened}

-- the connection was read to its end: no byte of it is left
pub record WasReadOut {C : Type 0} (incoming : C → Incoming) (o : Opened C) : Type 0 where
  pub after : C
  pub bytes : (incoming after).bytes ≡ (incoming o.connection).bytes
  pub none : (incoming after).left ≡ []

-- it may be this connection still: one on which a call was made isn't taken for a fresh one, nor one that failed for a
-- sound one
pub record IsStill {C : Type 0} (old new : Opened C) : Type 0 where
  pub used : old.used ≡ true → new.used ≡ true
  pub failed : old.failed ≡ true → new.failed ≡ true

-- Of a connection that is open, either it is that still, or it was read to its end, and there is none or another. So no
-- second connection is opened before the first has ended.
abbrev pub EndsBeforeNext : {C : Type 0} → (C → Incoming) → Option (Opened C) → Option (Opened C) → Type 0
EndsBeforeNext incoming None new = Unit {0}
EndsBeforeNext incoming (Some old) None = WasReadOut incoming old
EndsBeforeNext incoming (Some old) (Some new) = IsStill old new ⊎ WasReadOut incoming old

-- a call may be made on the connection that is open
abbrev pub IsReady : {C : Type 0} → Option (Opened C) → Type 0
IsReady None = ⊥
IsReady (Some o) = o.failed ≡ false

-- no connection has to end before a call is made: none is open; or no call failed on the one that is, and none was made
-- on it, or it has neither ended nor did something come that no call asked for
abbrev pub IsFree : {C : Type 0} → (C → Bool) → Option (Opened C) → Type 0
IsFree quiet None = Unit {0}
IsFree quiet (Some o) = (o.failed ≡ false) × ((o.used ≡ false) ⊎ (quiet o.connection ≡ true))

-- behind a call that failed there is no connection, or one that failed
abbrev pub IsSpent : {C : Type 0} → Option (Opened C) → Type 0
IsSpent opened = IfSome opened (λ o. o.failed ≡ true)

-- what a reply says of a begin: one to another call says that it failed
abbrev pub begin_by : VimReply → BeginAnswer
begin_by reply.Begun = begin.Begun
begin_by (reply.Refused code) = begin.Refused code
begin_by _ = begin.Failed

-- what a reply says of a look
abbrev pub look_by : VimReply → LookAnswer
look_by reply.Absent = look.Absent
look_by reply.Running = look.Running
look_by (reply.Done name) = look.Done name
look_by (reply.Broken code) = look.Broken code
look_by reply.Aborted = look.Aborted
look_by _ = look.Failed

-- what a reply says of an abort
abbrev pub abort_by : VimReply → AbortAnswer
abort_by reply.Asked = abort.Asked
abort_by _ = abort.Failed

-- the answer is what came: what the reply says whose line it is, and where it is no reply's line, that the call failed
pub record IsSaid {A : Type 0} (by : VimReply → A) (failed : A) (came : List ℕ) (answer : A) : Type 0 where
  pub said : (reply : VimReply) → IsLineOf came reply → answer ≡ by reply
  pub unsaid : IsNoLine came → answer ≡ failed
