-- A chain of moments: histories that were told of, each taken back by no stop from its moment of the site on (own
-- rule). A history has the latest event first.
use Rattle.std.specs.Prelude.{◌≡◌, ◌≤◌, ℕ, List, [], ◌∷◌, ◌++◌}
use Rattle.std.specs.List.{AllByRecursion}
use Rattle.executor.specs.History.{HasHistory}
use Rattle.executor.specs.Managed.{Managed}
use Rattle.executor.specs.Work.{AtSite, Extends, Work, stood, went}
use Rattle.lcm_events.specs.declared.events.Event.{Event}
use Rattle.site_traits.specs.Site.{Pair, SiteState}

-- a stop leaves this history, or more
pub record HasFrom (m : ℕ) (G : List Event) (p : Pair) : Type 0 where
  pub history : List Event
  pub from : Extends G history
  pub file : HasHistory m history p.image

-- at this moment, between these two states of the site, history G had been reached, and no stop since takes it back
pub record StaysSince (m : ℕ) (G : List Event) (moment : ℕ) (a b : SiteState) : Type 0 where
  pub behind : a.moment ≤ moment
  pub before : moment ≤ b.moment
  pub left : (p : Pair) → b.since moment p → HasFrom m G p

-- Between these two states of the site these histories were told of, the latest first, each at one of the moments that
-- were noted since those before, and where the site tells each stays since its moment. Nothing else was told of.
abbrev pub AreTold : Type 0 → ℕ → List (List Event) → List ℕ → List ℕ → SiteState → SiteState → Type 0
AreTold tells m [] before now a b = now ≡ before
AreTold tells m (G ∷ earlier) before now a b =
    (moment : ℕ) × (noted : List ℕ) × (now ≡ moment ∷ noted) × (tells → StaysSince m G moment a b)
    × AreTold tells m earlier before noted a b

-- no history among these goes beyond this one
abbrev pub AreWithin : List Event → List (List Event) → Type 0
AreWithin H histories = AllByRecursion (λ G. Extends G H) histories

-- What was told of in a work stays through the work behind it, and so the two works have one chain.
abbrev pub ChainsJoin : Type 0 → SiteState → SiteState → SiteState → Type 0
ChainsJoin tells a b c = (m : ℕ) (H G : List Event) (w : Work) (n o : Managed) (later earlier : List (List Event))
    (before between now : List ℕ)
    → (tells → AtSite m H (went G) n a b) → AreWithin G earlier → AreTold tells m earlier before between a b
    → (tells → AtSite m G w o b c) → AreTold tells m later between now b c
    → AreTold tells m (later ++ earlier) before now a c

-- What stands behind work may be told of: no stop since takes it back.
abbrev pub StandingStays : Type 0 → SiteState → SiteState → Type 0
StandingStays tells a b = (m : ℕ) (H : List Event) (w : Work) (n : Managed) → (tells → AtSite m H w n a b) → tells
    → StaysSince m (stood w) b.moment a b
