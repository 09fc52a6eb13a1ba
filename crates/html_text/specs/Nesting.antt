-- What HTML is that is made by the calls of this crate: elements that nest (HTML Living Standard 13.1.2).
use Rattle.std.specs.Prelude.{ℕ, ◌≡◌, List, [], ◌∷◌, ◌++◌, decimal}
use Rattle.html_text.specs.Escaped.{escaped}
use Rattle.html_text.specs.Html.{Attributes, HtmlSoFar, attributes_text, begun, doctype, end_tag, ended, meta}
use Rattle.html_text.specs.Html.{nothing_written, start_tag, with_more}
use Rattle.html_text.specs.declared.tags.Tag.{Tag}

-- texts that are escaped, numbers, void elements and elements, one after another
pub data Content : Type 0 where
  nothing : Content
  text_then : List ℕ → Content → Content
  number_then : ℕ → Content → Content
  void_then : Content → Content
  element_then : Tag → List ℕ → Attributes → Content → Content → Content

-- how it is written: an element is what begins it, what is in it, and what ends it
abbrev pub content_text : Content → List ℕ
content_text nothing = []
content_text (text_then text rest) = escaped text ++ content_text rest
content_text (number_then number rest) = decimal number ++ content_text rest
content_text (void_then rest) = meta ++ content_text rest
content_text (element_then tag class attributes inner rest) =
    start_tag tag class (attributes_text attributes) ++ (content_text inner ++ (end_tag tag ++ content_text rest))

-- a call that writes
pub data Call : Type 0 where
  begins : Tag → List ℕ → Attributes → Call
  ends : Call
  says : List ℕ → Call
  counts : ℕ → Call
  tells_encoding : Call

-- what is written after it
abbrev pub after : Call → HtmlSoFar → HtmlSoFar
after (begins tag class attributes) w = begun tag class attributes w
after ends w = ended w
after (says text) w = with_more (escaped text) w
after (counts number) w = with_more (decimal number) w
after tells_encoding w = with_more meta w

-- what is written after these calls, the latest first, behind the beginning of a page
abbrev pub after_all : List Call → HtmlSoFar
after_all [] = with_more doctype nothing_written
after_all (call ∷ calls) = after call (after_all calls)

-- whatever calls were made, once each element has ended there is the beginning of a page, and elements that nest
abbrev pub PagesNest : Type 0
PagesNest = (calls : List Call) → (after_all calls).open_tags ≡ []
    → (content : Content) × ((after_all calls).text ≡ doctype ++ content_text content)
