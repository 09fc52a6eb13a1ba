-- What calls of std on connections do that don't wait (std, `TcpStream`, non-blocking).
use Rattle.std.specs.Prelude.{◌≡◌, ◌≤◌, ℕ, List, [], ◌++◌, take}
use Rattle.host_calls.specs.Streams.{Incoming, Got, GotNothing}
use Rattle.net_calls.specs.declared.parked.Took.{Took}
use Rattle.net_calls.specs.declared.parked.Took.TheVariants as took
use Rattle.net_calls.specs.declared.parked.Put.{Put}
use Rattle.net_calls.specs.declared.parked.Put.TheVariants as put

-- one byte at least was taken, and no more than there is room for
abbrev pub IsSomeTaken : ℕ → Took → Type 0
IsSomeTaken most (took.Some n) = (1 ≤ n) × (n ≤ most)
IsSomeTaken most took.Nothing = Unit {0}
IsSomeTaken most took.End = Unit {0}
IsSomeTaken most took.Lost = Unit {0}

-- the next bytes stand at the front of the piece; where there are none, none was read, and at the end none is left
abbrev pub AreTaken : List ℕ → List ℕ → Took → Incoming → Incoming → Type 0
AreTaken before after (took.Some n) old new = Got before after n old new
AreTaken before after took.Nothing old new = GotNothing before after old new
AreTaken before after took.End old new = old.left ≡ []
AreTaken before after took.Lost old new = GotNothing before after old new

-- one byte at least went out, and no more than there are
abbrev pub IsSomePut : ℕ → Put → Type 0
IsSomePut most (put.Some n) = (1 ≤ n) × (n ≤ most)
IsSomePut most put.Nothing = Unit {0}
IsSomePut most put.Lost = Unit {0}

-- the first of these bytes went out, behind all others, or none did
abbrev pub ArePut : List ℕ → Put → List ℕ → List ℕ → Type 0
ArePut bytes (put.Some n) old new = new ≡ old ++ take n bytes
ArePut bytes put.Nothing old new = new ≡ old
ArePut bytes put.Lost old new = new ≡ old
