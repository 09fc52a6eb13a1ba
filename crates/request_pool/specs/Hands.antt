-- The client in hand (own rules).
use Rattle.std.specs.Prelude.{◌≡◌, ◌≤◌, ℕ, ◌+◌, ◌-◌, min, Bool, true, false, List, ◌++◌, ◌||◌, ◌&&◌, ◌⊎◌, length, take, drop, slice_range}
use Rattle.std.specs.Prelude.{codes, Option, Some, None}
use Rattle.request_pool.specs.declared.hand.Answering.{Answering}
use Rattle.request_pool.specs.declared.hand.Answering.TheVariants.{Awaited, Within, Whole}
use Rattle.request_pool.specs.Clients.{ClientState, KnowsFront, one_fed}

-- The client in hand: where it stands between its requests, itself, how many bytes of it are fed, how many of these were
-- read, whether it is closed behind its answer, whether nothing else is fed behind it on this connection, and what of
-- its answer was written.
pub record HandState : Type 0 where
  pub slot : ℕ
  pub client : ClientState
  pub len : ℕ
  pub given : ℕ
  pub closes : Bool
  pub lone : Bool
  pub answer : Answering

-- what is fed is of its bytes, and what was read is of that
pub record IsInHand (h : HandState) : Type 0 where
  pub read : h.given ≤ h.len
  pub held : h.len ≤ length h.client.held

-- the next bytes of what is fed were read to the front of the piece, as many as there is room for or all that are left
pub record Gives (before after : List ℕ) (count : ℕ) (old new : HandState) : Type 0 where
  pub count_is : count ≡ min (length before) (old.len - old.given)
  pub piece : after ≡ slice_range old.client.held old.given (old.given + count) ++ drop count before
  pub new_is : new ≡ record old { given = old.given + count }

-- the line that says that a connection ends with an answer (RFC 9112 9.6, Tear-down)
abbrev pub close_line : List ℕ
close_line = codes "Connection: close\r\n"

-- nothing of the answer was written yet
abbrev pub is_awaited : Answering → Bool
is_awaited Awaited = true
is_awaited (Within n) = false
is_awaited Whole = false

-- The bytes that go out where these were written: these, or, where the client is closed behind the answer that begins
-- with them, these with the line that says so among them.
abbrev pub IsTold : Bool → List ℕ → List ℕ → Type 0
IsTold closes bytes told = (told ≡ bytes)
    ⊎ ((closes ≡ true) × ((at : ℕ) × (at ≤ length bytes) × (told ≡ take at bytes ++ close_line ++ drop at bytes)))

-- what was written is to go out to the client in hand, behind what was; all else of it stays
pub record PutsHome (bytes : List ℕ) (old new : HandState) : Type 0 where
  pub told : List ℕ
  pub told_is : IsTold (old.closes && is_awaited old.answer) bytes told
  pub client : new.client ≡ record old.client { out = old.client.out ++ told }
  pub slot : new.slot ≡ old.slot
  pub fed : (new.len ≡ old.len) × (new.given ≡ old.given)
  pub ends : (new.closes ≡ old.closes) × (new.lone ≡ old.lone)

-- the client once what was fed is passed: what stands behind it is held, and it is closed where that was to be
pub record EndsFeed (h : HandState) (c : ClientState) : Type 0 where
  pub held : c.held ≡ drop h.len h.client.held
  pub front : KnowsFront c.held c.front
  pub role : c.role ≡ h.client.role
  pub out : c.out ≡ h.client.out
  pub requests : c.requests ≡ one_fed h.client.requests
  pub closing : c.closing ≡ (h.client.closing || h.closes)
