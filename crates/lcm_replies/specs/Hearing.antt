-- What reading a connection to its end does.
use Rattle.std.specs.Prelude.{◌≡◌, ℕ, List, length, take, Bool, false, if◌then◌else◌}
use Rattle.site_traits.specs.Door.{Conn, DoorState, ConnIs, has_read, read_broke}

-- the connection once n bytes more were read, and, where it failed, one read then failed
abbrev pub heard_of : ℕ → Bool → Conn → Conn
heard_of n failed c = if failed then read_broke (has_read n c) else has_read n c

-- These bytes of the connection were read: its next ones, up to its end or to so many, or up to where a read failed.
pub record Hears (most : ℕ) (bytes : List ℕ) (failed : Bool) (a b : DoorState) : Type 0 where
  pub conn : ConnIs (heard_of (length bytes) failed a.conn) a b
  pub front : bytes ≡ take (length bytes) a.conn.left
  pub whole : failed ≡ false → bytes ≡ take most a.conn.left
