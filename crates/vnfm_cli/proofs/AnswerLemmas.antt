-- What went out to a connection.
use Rattle.std.proofs.Common.{◌≡◌, [], ap}
use Rattle.site_traits.specs.Door.{Conn, DoorState, Comes, ConnIs}
use Rattle.lcm_events.specs.declared.states.Role.{Role}

-- the bytes out of a connection that is now this one
pub out_is : (c : Conn) (a b : DoorState) → ConnIs c a b → b.conn.out ≡ c.out
out_is c a b is = ap (λ (x : Conn). x.out) is.conn

-- a connection that just came has no bytes out
pub fresh_out : (role : Role) (a b : DoorState) → Comes role a b → b.conn.out ≡ []
fresh_out role a b comes = ap (λ (x : Conn). x.out) comes.conn
