-- A door at which one connection comes (own rule).
use Rattle.std.specs.Prelude.{◌≡◌, ℕ, Bool, true, false, not, List, [], ◌∷◌, replicate}
use Rattle.lcm_events.specs.declared.states.Role.{Role}
use Rattle.site_traits.specs.Door.{Conn, DoorCounts, DoorState, nobody}
use Rattle.site_traits.specs.declared.door.NextAnswer.{NextAnswer}
use Rattle.site_traits.specs.declared.door.NextAnswer.TheVariants.{Came, Ended}
use Rattle.host_calls.specs.Streams.{Incoming}

-- its counts: how often a call of it failed, how often `next` did, and whether the connection is up
abbrev pub counted : ℕ → ℕ → Bool → DoorCounts
counted faults next up = record { faults = faults; next = next; up = up }

-- its answers to `next`: none, or the one connection and then so many ends
abbrev pub answers_of : Bool → Role → ℕ → List NextAnswer
answers_of false role ends = []
answers_of true role ends = Came role ∷ replicate ends Ended

-- the connection at hand: none, or the one whose bytes are those of the streams
abbrev pub conn_of : Bool → Bool → Bool → Bool → Incoming → List ℕ → Conn
conn_of false up read_failed write_failed input output = nobody
conn_of true up read_failed write_failed input output =
    record {
      bytes = input.bytes;
      left = input.left;
      out = output;
      read_failed = read_failed;
      write_failed =
          write_failed;
      hung_up = not up;
    }

-- the connections before it
abbrev pub past_of : Bool → List Conn
past_of false = []
past_of true = nobody ∷ []

-- what it tells
abbrev pub state_of : Bool → Role → ℕ → Bool → Bool → Bool → Incoming → List ℕ → DoorState
state_of came role ends up read_failed write_failed input output =
    record {
      answers = answers_of came role ends;
      conn = conn_of came up read_failed write_failed input output;
      past =
          past_of came;
    }

-- until its connection has come nothing was read, written or ended, nothing failed, and no connection is up
pub record IsDoor (reads writes : Type 0) (came up : Bool) (ends : ℕ) (read_failed write_failed : Bool)
    (input : Incoming) (output : List ℕ) : Type 0 where
  pub unread : came ≡ false → reads → input.left ≡ input.bytes
  pub unwritten : came ≡ false → writes → output ≡ []
  pub not_ended : came ≡ false → ends ≡ 0
  pub no_read_failed : came ≡ false → read_failed ≡ false
  pub no_write_failed : came ≡ false → write_failed ≡ false
  pub came_where_up : up ≡ true → came ≡ true
