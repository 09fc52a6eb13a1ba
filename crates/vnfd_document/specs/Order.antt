-- The members of each object of a value stand in byte order of their names, each once: so is what is read of a text
-- (RFC 8259 4; own rule).
use Rattle.std.specs.Prelude.{◌≡◌, ℕ, List, [], ◌∷◌}
use Rattle.std.specs.Cmp.Lexicographic.{slice_cmp}
use Rattle.std.specs.declared.cmp.Ordering.TheVariants.{Less}
use Rattle.std.specs.Ordering.{nat_cmp}
use Rattle.serde_json.specs.Data.{Data, null, boolean, number, string, array, object, Items, no_items, item, Members}
use Rattle.serde_json.specs.Data.{no_members, member}
use Rattle.vnfd_document.specs.Json.{Named}

-- every name of these stands behind k
abbrev pub Behind : List ℕ → Members → Type 0
Behind k no_members = Unit {0}
Behind k (member l d ms) = (slice_cmp nat_cmp k l ≡ Less) × Behind k ms

-- the members of each object stand in byte order of their names, each once
abbrev mutual
  pub InOrder : Data → Type 0
  InOrder null = Unit {0}
  InOrder (boolean b) = Unit {0}
  InOrder (number n) = Unit {0}
  InOrder (string s) = Unit {0}
  InOrder (array ds) = ItemsInOrder ds
  InOrder (object ms) = MembersInOrder ms

  pub ItemsInOrder : Items → Type 0
  ItemsInOrder no_items = Unit {0}
  ItemsInOrder (item d ds) = InOrder d × ItemsInOrder ds

  pub MembersInOrder : Members → Type 0
  MembersInOrder no_members = Unit {0}
  MembersInOrder (member k d ms) = Behind k ms × InOrder d × MembersInOrder ms

-- the same of what stands under each name
abbrev pub AllInOrder : List Named → Type 0
AllInOrder [] = Unit {0}
AllInOrder (x ∷ xs) = InOrder x.1 × AllInOrder xs

-- every name of these stands behind k
abbrev pub AllBehind : List ℕ → List Named → Type 0
AllBehind k [] = Unit {0}
AllBehind k (x ∷ xs) = (slice_cmp nat_cmp k x.0 ≡ Less) × AllBehind k xs

-- the names rise in byte order
abbrev pub Rises : List Named → Type 0
Rises [] = Unit {0}
Rises (x ∷ xs) = AllBehind x.0 xs × Rises xs
