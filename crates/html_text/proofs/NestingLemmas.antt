-- Elements nest as they are begun and ended.
use Rattle.std.proofs.Common.{◌≡◌, ℕ, List, [], ◌∷◌, ◌++◌, append_assoc, append-nil, ap, ap₂, decimal, refl, subst, sym, ◌∙◌}
use Rattle.html_text.specs.Html.{Attributes, HtmlSoFar, attributes_text, closing, doctype, end_tag, ended, meta, outer, start_tag, with_more}
use Rattle.html_text.specs.Nesting.{Call, Content, after, after_all, begins, content_text, counts, element_then, ends}
use Rattle.html_text.specs.Nesting.{nothing, number_then, says, tells_encoding, text_then, void_then}
use Rattle.html_text.specs.Escaped.{escaped}
use Rattle.html_text.specs.declared.tags.Tag.{Tag}

-- one content behind another
abbrev both : Content → Content → Content
both nothing d = d
both (text_then text rest) d = text_then text (both rest d)
both (number_then number rest) d = number_then number (both rest d)
both (void_then rest) d = void_then (both rest d)
both (element_then tag class attributes inner rest) d = element_then tag class attributes inner (both rest d)

content_text-both : (c d : Content) → content_text (both c d) ≡ content_text c ++ content_text d
content_text-both nothing d = refl
content_text-both (text_then text rest) d = simp (content_text-both rest d, append_assoc)
content_text-both (number_then number rest) d = simp (content_text-both rest d, append_assoc)
content_text-both (void_then rest) d = simp (content_text-both rest d, append_assoc)
content_text-both (element_then tag class attributes inner rest) d = simp (content_text-both rest d, append_assoc)

-- the text is content, but for these elements, the outermost first, which haven't ended
abbrev Opened : List Tag → List ℕ → Type 0
Opened [] text = (c : Content) × (content_text c ≡ text)
Opened (t ∷ ts) text = (before : Content) × (class : List ℕ) × (a : Attributes) × (inner : List ℕ) × Opened ts inner
    × (text ≡ content_text before ++ (start_tag t class (attributes_text a) ++ inner))

-- what is written behind it is in the innermost of them
more : (ts : List Tag) (text : List ℕ) (c : Content) → Opened ts text → Opened ts (text ++ content_text c)
more [] text c o = (both o.0 c, content_text-both o.0 c ∙ ap (λ (x : List ℕ). x ++ content_text c) o.1)
more (t ∷ ts) text c (before, class, a, inner, o, e) =
    (before, class, a, inner ++ content_text c, more ts inner c o, subst (λ (x : List ℕ). x ++ content_text c ≡ content_text before ++ (start_tag t class (attributes_text a) ++ (inner ++ content_text c))) (sym e) (simp append_assoc))

-- an element begins within them
begin_one : (ts : List Tag) (text : List ℕ) (t : Tag) (class : List ℕ) (a : Attributes) → Opened ts text
    → Opened (ts ++ t ∷ []) (text ++ start_tag t class (attributes_text a))
begin_one [] text t class a o =
    (o.0, class, a, [], (nothing, refl), subst (λ (x : List ℕ). x ++ start_tag t class (attributes_text a) ≡ content_text o.0 ++ (start_tag t class (attributes_text a) ++ [])) o.1 (simp append-nil))
begin_one (u ∷ us) text t class a (before, cl, b, inner, o, e) = (
  before,
  cl,
  b,
  inner ++ start_tag t class (attributes_text a),
  begin_one us inner t class a o,
  subst (λ (x : List ℕ). x ++ start_tag t class (attributes_text a) ≡ content_text before ++ (start_tag u cl (attributes_text b) ++ (inner ++ start_tag t class (attributes_text a)))) (sym e) (simp append_assoc),
)

-- the innermost of them ends
end_one : (ts : List Tag) (text : List ℕ) → Opened ts text → Opened (outer ts) (text ++ closing ts)
end_one [] text o = (o.0, o.1 ∙ sym (append-nil text))
end_one (t ∷ []) text (before, class, a, inner, o, e) = (
  both before (element_then t class a o.0 nothing),
  content_text-both before (element_then t class a o.0 nothing)
      ∙ subst (λ (x : List ℕ). content_text before ++ (start_tag t class (attributes_text a) ++ (x ++ (end_tag t ++ []))) ≡ text ++ end_tag t) (sym o.1)
      (subst (λ (x : List ℕ). content_text before ++ (start_tag t class (attributes_text a) ++ (inner ++ (end_tag t ++ []))) ≡ x ++ end_tag t) (sym e) (simp (append_assoc, append-nil))),
)
end_one (t ∷ u ∷ us) text (before, class, a, inner, o, e) = (
  before,
  class,
  a,
  inner ++ closing (u ∷ us),
  end_one (u ∷ us) inner o,
  subst (λ (x : List ℕ). x ++ closing (u ∷ us) ≡ content_text before ++ (start_tag t class (attributes_text a) ++ (inner ++ closing (u ∷ us)))) (sym e) (simp append_assoc),
)

-- what is written behind the beginning of a page
abbrev Behind : HtmlSoFar → Type 0
Behind w = (text : List ℕ) × (w.text ≡ doctype ++ text) × Opened w.open_tags text

-- each call keeps it so
further : (text part whole : List ℕ) → whole ≡ doctype ++ text → whole ++ part ≡ doctype ++ (text ++ part)
further text part whole e = subst (λ (x : List ℕ). x ++ part ≡ doctype ++ (text ++ part)) (sym e) (append_assoc doctype text part)

one_part : (part : List ℕ) (c : Content) → content_text c ≡ part → (w : HtmlSoFar) → Behind w → Behind (with_more part w)
one_part part c is w (text, e, o) =
    (text ++ part, further text part w.text e, subst (λ (x : List ℕ). Opened w.open_tags (text ++ x)) is (more w.open_tags text c o))

one_call : (call : Call) (w : HtmlSoFar) → Behind w → Behind (after call w)
one_call (begins tag class a) w (text, e, o) =
    (text ++ start_tag tag class (attributes_text a), further text _ w.text e, begin_one w.open_tags text tag class a o)
one_call ends w (text, e, o) = (text ++ closing w.open_tags, further text _ w.text e, end_one w.open_tags text o)
one_call (says said) w b = one_part (escaped said) (text_then said nothing) (append-nil (escaped said)) w b
one_call (counts number) w b = one_part (decimal number) (number_then number nothing) (append-nil (decimal number)) w b
one_call tells_encoding w b = one_part meta (void_then nothing) (append-nil meta) w b

all_calls : (calls : List Call) → Behind (after_all calls)
all_calls [] = ([], sym (append-nil doctype), (nothing, refl))
all_calls (call ∷ calls) = one_call call (after_all calls) (all_calls calls)

-- once each element has ended, the text is content
pub pages_nest : (calls : List Call) → (after_all calls).open_tags ≡ []
    → (content : Content) × ((after_all calls).text ≡ doctype ++ content_text content)
pages_nest calls none = at (after_all calls) none (all_calls calls)
  where
    at : (w : HtmlSoFar) → w.open_tags ≡ [] → Behind w → (content : Content) × (w.text ≡ doctype ++ content_text content)
    at w closed (text, e, o) =
        let c : Opened [] text = subst (λ (ts : List Tag). Opened ts text) closed o in
        (c.0, subst (λ (x : List ℕ). w.text ≡ doctype ++ x) (sym c.1) e)

-- the innermost element is the one that began last
pub outer-snoc : (ts : List Tag) (t : Tag) → outer (ts ++ t ∷ []) ≡ ts
outer-snoc [] t = refl
outer-snoc (u ∷ []) t = refl
outer-snoc (u ∷ v ∷ vs) t = ap (λ (xs : List Tag). u ∷ xs) (outer-snoc (v ∷ vs) t)

pub closing-snoc : (ts : List Tag) (t : Tag) → closing (ts ++ t ∷ []) ≡ end_tag t
closing-snoc [] t = refl
closing-snoc (u ∷ []) t = refl
closing-snoc (u ∷ v ∷ vs) t = closing-snoc (v ∷ vs) t

-- so the tag that ends it leaves the others
pub end_written : (text whole : List ℕ) (old new : List Tag) (tag : Tag) → old ≡ new ++ tag ∷ [] → whole ≡ text ++ end_tag tag
    → record { text = whole; open_tags = new } ≡ ended (record { text = text; open_tags = old })
end_written text whole old new tag o e =
    let made : List ℕ → List Tag → HtmlSoFar = λ x ts. record { text = x; open_tags = ts } in
    let P : List Tag → Type 0 = λ ts. made whole new ≡ ended (made text ts) in
    subst P (sym o) (ap₂ made (e ∙ ap (λ (x : List ℕ). text ++ x) (sym (closing-snoc new tag))) (sym (outer-snoc new tag)))
