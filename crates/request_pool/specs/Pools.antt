-- Many clients, each at a slot of its own, and the one in hand (own rules).
use Rattle.std.specs.Prelude.{◌≡◌, ◌≤◌, ◌<◌, ◌⊎◌, ℕ, min, Bool, true, false, List, [], ◌∷◌, ◌++◌, length, drop, Option, Some, None}
use Rattle.std.specs.Prelude.{slice_index_or, slice_set, if◌then◌else◌}
use Rattle.lcm_events.specs.declared.states.Role.{Role}
use Rattle.request_pool.specs.declared.fronts.Front.{Front}
use Rattle.request_pool.specs.declared.fronts.Front.TheVariants as front
use Rattle.request_pool.specs.declared.fronts.Place.{Place}
use Rattle.request_pool.specs.declared.hand.Answering.TheVariants.{Awaited}
use Rattle.request_pool.specs.Clients.{ClientState, CameTo, IsOpened, KnowsFront, begun}
use Rattle.request_pool.specs.Hands.{EndsFeed, Gives, HandState, PutsHome}

-- the client at a slot
abbrev pub client_at : List (Option ClientState) → ℕ → Option ClientState
client_at clients slot = slice_index_or clients slot None

-- a client that wasn't there stands at a slot where nobody stood, or at one more
abbrev pub Admits : Role → List (Option ClientState) → List (Option ClientState) → ℕ → Type 0
Admits role old new slot = ((slot < length old) × (client_at old slot ≡ None) × (new ≡ slice_set old slot (Some (begun role))))
    ⊎ ((slot ≡ length old) × (new ≡ old ++ Some (begun role) ∷ []))

-- these bytes came from the client at this slot, and the others are as they were; from nobody nothing comes
abbrev pub ComesFrom : Option ClientState → ℕ → List ℕ → List (Option ClientState) → List (Option ClientState) → Type 0
ComesFrom None slot bytes old new = new ≡ old
ComesFrom (Some c) slot bytes old new = (after : ClientState) × CameTo bytes c after × (new ≡ slice_set old slot (Some after))

abbrev pub Comes : ℕ → List ℕ → List (Option ClientState) → List (Option ClientState) → Type 0
Comes slot bytes old new = ComesFrom (client_at old slot) slot bytes old new

-- so many of the bytes that were to go out to the client at this slot went out, as far as there are any
abbrev pub GoesTo : Option ClientState → ℕ → ℕ → List (Option ClientState) → List (Option ClientState) → Type 0
GoesTo None slot count old new = new ≡ old
GoesTo (Some c) slot count old new = new ≡ slice_set old slot (Some (record c { out = drop (min count (length c.out)) c.out }))

abbrev pub Goes : ℕ → ℕ → List (Option ClientState) → List (Option ClientState) → Type 0
Goes slot count old new = GoesTo (client_at old slot) slot count old new

-- the line is as it was, or this slot stands at its end too
abbrev pub IsSameOrLonger : ℕ → List ℕ → List ℕ → Type 0
IsSameOrLonger slot old new = (new ≡ old) ⊎ (new ≡ old ++ slot ∷ [])

-- it is known what a client's bytes begin with, and more of them change nothing of it
abbrev pub is_set : Option Front → Bool
is_set None = false
is_set (Some front.Part) = false
is_set (Some (front.Whole p)) = true
is_set (Some front.Malformed) = true
is_set (Some front.TooLarge) = true

-- nothing is to go out
abbrev pub is_out : List ℕ → Bool
is_out [] = true
is_out (b ∷ bytes) = false

-- a client has something to feed: its bytes begin with a whole request or with none, its last answer went out, and it
-- isn't closed
abbrev pub is_ready : ClientState → Bool
is_ready c = if c.closing then false else if is_out c.out then is_set c.front else false

-- How much of a client is fed: its whole request, or all its bytes where these are none.
abbrev pub feed_len : Option Front → ℕ → ℕ
feed_len (Some (front.Whole p)) all = p.len
feed_len other all = all

-- the client that is fed is this one, or this one with a request that doesn't ask for the end of the connection
-- (RFC 9110 7.6.1, Connection)
abbrev pub IsFedAs : ClientState → ClientState → Type 0
IsFedAs c fed = (fed ≡ c) ⊎ ((p : Place) × (c.front ≡ Some (front.Whole p)) × (p.head.closes ≡ true) × IsOpened p c fed)

-- A client is in hand: all of its request is fed and nothing of it was read or answered; what is no request is fed alone,
-- and behind its answer the client is closed.
pub record TakesInHand (slot : ℕ) (c : ClientState) (h : HandState) : Type 0 where
  pub slot_is : h.slot ≡ slot
  pub client : IsFedAs c h.client
  pub len : h.len ≡ feed_len c.front (length c.held)
  pub unread : h.given ≡ 0
  pub unanswered : h.answer ≡ Awaited

-- the client in the front of the line was taken in hand, and all others stay
pub record Feeds (line : List ℕ) (clients : List (Option ClientState)) (line_after : List ℕ)
    (clients_after : List (Option ClientState)) (h : HandState) : Type 0 where
  pub first : line ≡ h.slot ∷ line_after
  pub client : ClientState
  pub stood : client_at clients h.slot ≡ Some client
  pub ready : is_ready client ≡ true
  pub in_hand : TakesInHand h.slot client h
  pub others : clients_after ≡ slice_set clients h.slot None

-- nothing of what is fed is left to be read, and the client is closed behind its answer
abbrev pub skipped : HandState → HandState
skipped h = record h { given = h.len; closes = true }

-- the next bytes of what is fed were read; from nobody nothing is
abbrev pub GivesNext : List ℕ → List ℕ → ℕ → Option HandState → Option HandState → Type 0
GivesNext before after count None new = (count ≡ 0) × (after ≡ before) × (new ≡ None)
GivesNext before after count (Some h) (Some new) = Gives before after count h new
GivesNext before after count (Some h) None = ⊥

-- what was written is to go out to the client in hand; to nobody nothing is
abbrev pub PutsToHand : List ℕ → Option HandState → Option HandState → Type 0
PutsToHand bytes None new = new ≡ None
PutsToHand bytes (Some h) (Some new) = PutsHome bytes h new
PutsToHand bytes (Some h) None = ⊥

-- the client in hand stands at its slot again, what was fed passed, and all others stay
abbrev pub PutsBack : Option HandState → List (Option ClientState) → Option ℕ → List (Option ClientState) → Type 0
PutsBack None old slot new = (slot ≡ None) × (new ≡ old)
PutsBack (Some h) old slot new = (slot ≡ Some h.slot)
    × ((closes : Bool) × (after : ClientState) × EndsFeed (record h { closes = closes }) after × (new ≡ slice_set old h.slot (Some after)))
