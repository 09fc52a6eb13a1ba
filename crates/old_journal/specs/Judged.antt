-- What the first bytes of a file say of its header of format 1 (own rule, docs/JOURNAL.md).
use Rattle.std.specs.Prelude.{◌≡◌, ◌≤◌, ℕ, List, length}
use Rattle.site_traits.specs.Site.{SiteState, IsSettled}
use Rattle.old_journal.specs.declared.header.HeaderState.{HeaderState}
use Rattle.old_journal.specs.declared.header.HeaderState.TheVariants.{Made, Unmade, Foreign}
use Rattle.old_journal.specs.Header.{HasHeader, IsUnmade, IsForeign}

-- the header that these bytes begin with, or why they have none (own rule)
abbrev pub Judged : List ℕ → HeaderState → Type 0
Judged bytes (Made manager) = HasHeader manager bytes
Judged bytes Unmade = IsUnmade bytes
Judged bytes (Foreign place) = IsForeign place bytes

-- bytes that begin with a header are at least as many
abbrev pub LongEnough : ℕ → HeaderState → Type 0
LongEnough len (Made manager) = 32 ≤ len
LongEnough len other = Unit {0}

-- nothing is pending on the site, its file is so long, and this is what it says of its header
pub record FrontIs (len : ℕ) (verdict : HeaderState) (s : SiteState) : Type 0 where
  pub settled : IsSettled s
  pub long : len ≡ length s.image
  pub judged : Judged s.image verdict
