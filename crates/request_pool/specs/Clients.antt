-- Clients, by what was fed of their bytes and what goes out to them (own rules).
use Rattle.std.specs.Prelude.{◌≡◌, ◌≤◌, ℕ, Bool, true, false, ◌+◌, ◌-◌, ◌^◌, min, List, [], ◌++◌, length, take, drop, option_map, Option, Some, None}
use Rattle.httparse.specs.Spans.{span_bytes}
use Rattle.lcm_events.specs.declared.states.Role.{Role}
use Rattle.request_pool.specs.declared.fronts.Place.{Place}
use Rattle.request_pool.specs.Gateway.{open_parts}
use Rattle.request_pool.specs.declared.fronts.Front.{Front}
use Rattle.request_pool.specs.declared.fronts.Front.TheVariants as front
use Rattle.request_pool.specs.Fronts.{FrontIs}

-- A client: whose it is, its bytes that came and weren't fed, what they begin with where that is known, the bytes that
-- are to go out to it, how many of its requests were fed, and whether it is closed behind what goes out.
pub record ClientState : Type 0 where
  pub role : Role
  pub held : List ℕ
  pub front : Option Front
  pub out : List ℕ
  pub requests : ℕ
  pub closing : Bool

-- what the bytes begin with is this, where it is known
abbrev pub KnowsFront : List ℕ → Option Front → Type 0
KnowsFront held None = Unit {0}
KnowsFront held (Some f) = FrontIs held f

-- one of this role, from whom nothing has come
abbrev pub begun : Role → ClientState
begun role = record { role = role; held = []; front = Some front.Part; out = []; requests = 0; closing = false }

-- these bytes came from a client, and what its bytes begin with was looked at; all else of it stays
pub record CameTo (bytes : List ℕ) (old new : ClientState) : Type 0 where
  pub held : new.held ≡ old.held ++ bytes
  pub front : KnowsFront new.held new.front
  pub role : new.role ≡ old.role
  pub out : new.out ≡ old.out
  pub requests : new.requests ≡ old.requests
  pub closing : new.closing ≡ old.closing

-- more bytes may change what they begin with
abbrev pub is_open : Option Front → Bool
is_open None = true
is_open (Some front.Part) = true
is_open (Some (front.Whole p)) = false
is_open (Some front.Malformed) = false
is_open (Some front.TooLarge) = false

-- one more request was fed, as far as a u32 counts
abbrev pub one_fed : ℕ → ℕ
one_fed n = min (n + 1) (2 ^ 32 - 1)

-- its first so many bytes were fed, and what the others begin with was looked at; all else of it stays
pub record HasFed (count : ℕ) (old new : ClientState) : Type 0 where
  pub held : new.held ≡ drop count old.held
  pub front : KnowsFront new.held new.front
  pub role : new.role ≡ old.role
  pub out : new.out ≡ old.out
  pub requests : new.requests ≡ one_fed old.requests
  pub closing : new.closing ≡ old.closing

-- the same place, of a request that doesn't ask for the end of the connection
abbrev pub opened : Place → Place
opened p = record { len = p.len; head = open_parts p.head }

-- Its first request doesn't ask for the end of the connection any more: method, target, media type and body, and what
-- stands behind it, are what they were, and so is all else of it (RFC 9110 7.6.1, Connection).
pub record IsOpened (p : Place) (old new : ClientState) : Type 0 where
  pub as_long : length new.held ≡ length old.held
  pub behind : drop p.head.len new.held ≡ drop p.head.len old.held
  pub begins : new.front ≡ Some (front.Whole (opened p))
  pub whole : FrontIs new.held (front.Whole (opened p))
  pub method : span_bytes new.held p.head.method ≡ span_bytes old.held p.head.method
  pub target : span_bytes new.held p.head.target ≡ span_bytes old.held p.head.target
  pub media : option_map (span_bytes new.held) p.head.media ≡ option_map (span_bytes old.held) p.head.media
  pub role : new.role ≡ old.role
  pub out : new.out ≡ old.out
  pub requests : new.requests ≡ old.requests
  pub closing : new.closing ≡ old.closing
