-- Whether a file that is open may be written, by what stands at its path (own rule).
use Rattle.std.specs.Prelude.{◌≡◌, ◌≢◌, ◌≤◌, ◌<◌, ℕ, Option, Some, None}
use Rattle.outside_edges.specs.declared.real_site.WhyLost.{WhyLost}
use Rattle.outside_edges.specs.declared.real_site.WhyLost.TheVariants as why
use Rattle.outside_edges.specs.declared.standing.FileNumber.{FileNumber}
use Rattle.outside_edges.specs.declared.standing.OpenFile.{OpenFile}

-- it may be written from this place on: it has a name, it is what stands at its path, and it reaches to the place
pub record MayBeWritten (file : OpenFile) (there : Option FileNumber) (at : ℕ) : Type 0 where
  pub named : 1 ≤ file.links
  pub stands : there ≡ Some file.number
  pub reaches : at ≤ file.length

-- why it may not: it has no name any more; it has one, and nothing stands at its path; another file stands there; or
-- it doesn't reach to the place
abbrev pub IsAstray : OpenFile → Option FileNumber → ℕ → WhyLost → Type 0
IsAstray file there at why.Removed = file.links ≡ 0
IsAstray file there at why.Moved = (1 ≤ file.links) × (there ≡ None)
IsAstray file there at why.Replaced = (other : FileNumber) × (there ≡ Some other) × (other ≢ file.number)
IsAstray file there at why.Shortened = file.length < at
IsAstray file there at cause = ⊥
