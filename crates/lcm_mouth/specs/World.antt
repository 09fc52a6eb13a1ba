-- All that is outside of the manager as requests are answered: the journal's file, the connection and the clock.
use Rattle.std.specs.Prelude.{ℕ, List}
use Rattle.lcm_mouth.specs.Mouth.{MouthState}
use Rattle.site_traits.specs.Site.{SiteState}

-- which of the objects outside tell what is done to them
pub record WorldTells : Type 1 where
  pub site : Type 0
  pub door : Type 0
  pub clock : Type 0

-- the connection at hand and the clock
pub record Peers : Type 0 where
  pub mouth : MouthState
  pub clock : List ℕ

-- all that is outside of the manager
pub record World : Type 1 where
  pub site : SiteState
  pub mouth : MouthState
  pub clock : List ℕ

-- all of it but the site
abbrev pub peers_of : World → Peers
peers_of w = record { mouth = w.mouth; clock = w.clock }

-- the world of these
abbrev pub world : SiteState → MouthState → List ℕ → World
world site mouth clock = record { site = site; mouth = mouth; clock = clock }

-- what tells of these
abbrev pub telling : Type 0 → Type 0 → Type 0 → WorldTells
telling site door clock = record { site = site; door = door; clock = clock }
