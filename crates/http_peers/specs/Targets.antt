-- Where a request goes, by the URL of its resource (RFC 3986 3 and 5, RFC 9110 4.2.1 and 7.2, RFC 9112 3.2).
use Rattle.std.specs.Prelude.{◌≡◌, ◌⊎◌, ℕ, List, [], ◌++◌, codes, decimal, Option, Some, None, Result, Ok, Err}
use Rattle.std.specs.Prelude.{IsSomeAnd, unwrap_or, option_map}
use Rattle.std.specs.String.{string_bytes}
use Rattle.url.specs.Host.{host_text}
use Rattle.url.specs.Parser.{parse_url}
use Rattle.url.specs.Parts.{Parts, nonempty_host}
use Rattle.vnfm_base.specs.Text.{IsLine, IsName}
use Rattle.http_peers.specs.declared.targets.Target.{Target}
use Rattle.http_peers.specs.declared.targets.TargetFault.{TargetFault}
use Rattle.http_peers.specs.declared.targets.TargetFault.TheVariants as fault

-- What was looked for was found, or there is none, or there was no memory to say so (own rule).
abbrev pub Finds : {T : Type 0} → (T → Type 0) → Result T TargetFault → Type 0
Finds is (Ok found) = is found
Finds is (Err fault.NoTarget) = (found : _) → is found → ⊥
Finds is (Err fault.Memory) = Unit {0}

-- the address to which a connection is opened: the host and the port, 80 where none is told
abbrev pub address_at : List ℕ → Option ℕ → List ℕ
address_at host port = host ++ (codes ":" ++ decimal (unwrap_or port 80))

-- the host, and the port where one is told
abbrev pub host_at : List ℕ → Option ℕ → List ℕ
host_at host None = host
host_at host (Some port) = address_at host (Some port)

-- the path, and the query behind it where there is one
abbrev pub path_of : Parts → List ℕ
path_of url = url.path ++ unwrap_or (option_map (λ query. codes "?" ++ query) url.query) []

-- this is where a request for the resource of this URL goes, which is of the scheme http and has a host; host and path
-- aren't too long for a request, and have no control character
pub record IsTargetOf (url : Parts) (target : Target) : Type 0 where
  pub http : url.scheme ≡ codes "http"
  pub host_text_is : List ℕ
  pub named : option_map host_text (nonempty_host url) ≡ Some host_text_is
  pub address : string_bytes target.address ≡ address_at host_text_is url.port
  pub host : target.host ≡ host_at host_text_is url.port
  pub path : target.path ≡ path_of url
  pub host_fits : IsName target.host
  pub path_fits : IsLine target.path

-- a text names its scheme: `://` stands in it (own rule)
abbrev pub NamesScheme : List ℕ → Type 0
NamesScheme text = (front : List ℕ) × (rest : List ℕ) × (text ≡ front ++ (codes "://" ++ rest))

-- a text tells of this URL: it is a text of it, or one that lacks `http://` (own rule)
abbrev pub TellsOf : List ℕ → Parts → Type 0
TellsOf text url =
    (NamesScheme text × (parse_url None text ≡ Ok url))
    ⊎ ((NamesScheme text → ⊥) × (parse_url None (codes "http://" ++ text) ≡ Ok url))

-- the grants by the URL of an address: what it names, and where it names a host alone, these there (SOL 003 9.4.1)
abbrev pub AreGrantsOf : Parts → Parts → Type 0
AreGrantsOf told grants =
    ((told.path ≡ codes "/") × (told.query ≡ None) × (parse_url (Some told) (codes "/grant/v1/grants") ≡ Ok grants))
    ⊎ ((((told.path ≡ codes "/") × (told.query ≡ None)) → ⊥) × (grants ≡ told))

-- the grants at an address
abbrev pub AreGrantsAt : List ℕ → Parts → Type 0
AreGrantsAt address grants = (told : Parts) × TellsOf address told × AreGrantsOf told grants

-- the grants at an address, for which a request can be made
abbrev pub CanBeAskedAt : List ℕ → Parts → Type 0
CanBeAskedAt address grants = AreGrantsAt address grants × ((target : Target) × IsTargetOf grants target)

-- what a location means beside the grants, whose target is at the same address
abbrev pub IsLocatedAt : Parts → List ℕ → Parts → Target → Type 0
IsLocatedAt grants location url target =
    (parse_url (Some grants) location ≡ Ok url) × ((of : Target)
    × IsTargetOf grants of × (string_bytes target.address ≡ string_bytes of.address))

-- where a request for what a location means beside the grants goes
abbrev pub IsLocatedTarget : Parts → List ℕ → Target → Type 0
IsLocatedTarget grants location target =
    (url : Parts) × IsLocatedAt grants location url target × IsTargetOf url target

-- what is asked of the orchestrator: its grants, or what a location means beside them
abbrev pub IsAskedAt : Option Parts → Option (List ℕ) → Parts → Target → Type 0
IsAskedAt grants None url target = grants ≡ Some url
IsAskedAt grants (Some location) url target = IsSomeAnd grants (λ base. IsLocatedAt base location url target)

-- where a request to the orchestrator goes: to its grants, or to a location beside them
abbrev pub IsGrantTarget : Option Parts → Option (List ℕ) → Target → Type 0
IsGrantTarget grants location target = (url : Parts) × IsAskedAt grants location url target × IsTargetOf url target

-- where a notification for this callback goes
abbrev pub IsCallbackTarget : List ℕ → Target → Type 0
IsCallbackTarget uri target = (url : Parts) × TellsOf uri url × IsTargetOf url target
