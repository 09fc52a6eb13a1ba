-- HTML as it is made part by part (HTML Living Standard 13.1).
use Rattle.std.specs.Prelude.{ℕ, ◌/◌, ◌%◌, List, [], ◌∷◌, ◌++◌, codes, decimal}
use Rattle.html_text.specs.Escaped.{escaped}
use Rattle.html_text.specs.declared.html.Spot.{Spot}
use Rattle.html_text.specs.declared.tags.Tag.{Tag}
use Rattle.html_text.specs.declared.tags.Tag.TheVariants.{Body, Caption, Details, G, H1, H2, Head, Html, Li, P, Rect}
use Rattle.html_text.specs.declared.tags.Tag.TheVariants.{Section, Span, Style, Summary, Svg, Table, Tbody, Td, Text}
use Rattle.html_text.specs.declared.tags.Tag.TheVariants.{Th, Thead, Title, Tr, Ul}

-- the name of an element
abbrev pub name : Tag → List ℕ
name Html = codes "html"
name Head = codes "head"
name Title = codes "title"
name Style = codes "style"
name Body = codes "body"
name H1 = codes "h1"
name H2 = codes "h2"
name P = codes "p"
name Span = codes "span"
name Section = codes "section"
name Ul = codes "ul"
name Li = codes "li"
name Table = codes "table"
name Caption = codes "caption"
name Thead = codes "thead"
name Tbody = codes "tbody"
name Tr = codes "tr"
name Th = codes "th"
name Td = codes "td"
name Details = codes "details"
name Summary = codes "summary"
name Svg = codes "svg"
name G = codes "g"
name Rect = codes "rect"
name Text = codes "text"

-- the attributes that each element of a name has
abbrev pub extras : Tag → List ℕ
extras Html = codes " lang=\"en\""
extras Th = codes " scope=\"col\""
extras Svg = codes " aria-hidden=\"true\" width=\"100%\""
extras _ = []

-- what is written, and the elements that are open, the outermost first
pub record HtmlSoFar : Type 0 where
  pub text : List ℕ
  pub open_tags : List Tag

-- nothing is
abbrev pub nothing_written : HtmlSoFar
nothing_written = record { text = []; open_tags = [] }

-- that a page of HTML begins
unfoldable pub doctype : List ℕ
doctype = codes "<!doctype html>\n"

-- how a page is encoded, and that it is as wide as what shows it
unfoldable pub meta : List ℕ
meta = codes "<meta charset=\"utf-8\"><meta name=\"viewport\" content=\"width=device-width\">"

-- with this text behind it
abbrev pub with_more : List ℕ → HtmlSoFar → HtmlSoFar
with_more part w = record { text = w.text ++ part; open_tags = w.open_tags }

-- an attribute with a value that is escaped already
abbrev pub attribute : List ℕ → List ℕ → List ℕ
attribute key value = codes " " ++ (key ++ (codes "=\"" ++ (value ++ codes "\"")))

-- an element's class, where it isn't empty
abbrev pub class_where : List ℕ → List ℕ
class_where [] = []
class_where (c ∷ cs) = attribute (codes "class") (escaped (c ∷ cs))

-- so many hundredths of a per cent, as an attribute's value behind this beginning
abbrev pub share_of : List ℕ → ℕ → List ℕ
share_of front share = front ++ (decimal (share / 100)
    ++ (codes "." ++ (decimal (share / 10 % 10) ++ (decimal (share % 10) ++ codes "%\""))))

-- where a shape begins
abbrev pub corner_text : ℕ → ℕ → List ℕ
corner_text x y = share_of (codes " x=\"") x ++ share_of (codes " y=\"") y

-- where a rectangle stands
abbrev pub spot_text : Spot → List ℕ
spot_text s = corner_text s.x s.y ++ (share_of (codes " width=\"") s.width ++ share_of (codes " height=\"") s.height)

-- how high a drawing is, in pixels
abbrev pub high : ℕ → List ℕ
high height = codes " height=\"" ++ (decimal height ++ codes "\"")

-- the attributes of an element besides its class: none, a drawing's height, or where a shape stands
pub data Attributes : Type 0 where
  plain : Attributes
  as_high : ℕ → Attributes
  at_spot : Spot → Attributes
  at_corner : ℕ → ℕ → Attributes

abbrev pub attributes_text : Attributes → List ℕ
attributes_text plain = []
attributes_text (as_high height) = high height
attributes_text (at_spot spot) = spot_text spot
attributes_text (at_corner x y) = corner_text x y

-- the tag that begins an element of this class with these attributes
unfoldable pub start_tag : Tag → List ℕ → List ℕ → List ℕ
start_tag tag class attributes =
    codes "<" ++ (name tag ++ (extras tag ++ (class_where class ++ (attributes ++ codes ">"))))

-- the tag that ends it
unfoldable pub end_tag : Tag → List ℕ
end_tag tag = codes "</" ++ (name tag ++ codes ">")

-- with the tag behind it that begins an element
abbrev pub begun_with : Tag → List ℕ → List ℕ → HtmlSoFar → HtmlSoFar
begun_with tag class attributes w =
    record { text = w.text ++ start_tag tag class attributes; open_tags = w.open_tags ++ tag ∷ [] }

-- the same with the attributes that a call of this crate gives it
abbrev pub begun : Tag → List ℕ → Attributes → HtmlSoFar → HtmlSoFar
begun tag class attributes w = begun_with tag class (attributes_text attributes) w

-- the elements but the innermost
abbrev pub outer : List Tag → List Tag
outer [] = []
outer (tag ∷ []) = []
outer (tag ∷ next ∷ rest) = tag ∷ outer (next ∷ rest)

-- the tag that ends the innermost
abbrev pub closing : List Tag → List ℕ
closing [] = []
closing (tag ∷ []) = end_tag tag
closing (tag ∷ next ∷ rest) = closing (next ∷ rest)

-- with the end of the innermost element behind it, where one is open
abbrev pub ended : HtmlSoFar → HtmlSoFar
ended w = record { text = w.text ++ closing w.open_tags; open_tags = outer w.open_tags }
