-- Laws on header fields.
use Rattle.std.proofs.Common.{◌≡◌, ℕ, ◌+◌, ◌*◌, ◌<◌, ◌≤◌, Bool, true, false, List, [], ◌∷◌, ◌++◌, length, take, get_or, refl, sym, ap, ◌∙◌}
use Rattle.std.proofs.Common.{map, filter, cond, min, arith}
use Rattle.std.proofs.Math.Bool.{or-false}
use Rattle.std.specs.Prelude.{codes, ◌||◌, ◌&&◌, IsTrue, ◌↔◌}
use Rattle.std.specs.List.{list_any, list_all}
use Rattle.std.specs.Bool.{Decides}
use Rattle.std.specs.Char.{is_ascii_digit, digit_value}
use Rattle.std.specs.Str.Parse.{digits_value}
use Rattle.std.proofs.lemmas.List.Folds.{list_any-append}
use Rattle.std.proofs.lemmas.Int.Digits.{digits_value_more}
use Rattle.std.proofs.lemmas.Bool.Decides.{nat_tests}
use Rattle.std.specs.Prelude.{Option, Some, None, option_map, nat_le, nat_lt}
use Rattle.std.proofs.Common.{subst, drop}
use Rattle.std.proofs.Math.Bool.{or-true}
use Rattle.std.proofs.lemmas.List.{map_more, map-append, take-append-drop}
use Rattle.httparse.specs.declared.spans.Span.{Span}
use Rattle.httparse.specs.declared.spans.HeaderSpan.{HeaderSpan}
use Rattle.httparse.specs.Spans.{span_bytes, IsWithin}
use Rattle.http_frames.specs.declared.TheConstants.{BODY_BYTES}
use Rattle.http_frames.specs.declared.framing.Frame.{Frame}
use Rattle.http_frames.specs.declared.framing.Frame.TheVariants.{NoBody, Sized, Chunked, TooLong, Broken}
use Rattle.http_frames.specs.declared.framing.Values.{Values}
use Rattle.http_frames.specs.declared.framing.Values.TheVariants.{Absent, Once, Several}
use Rattle.http_frames.specs.Answers.{HoldsValues}
use Rattle.http_frames.specs.Framing.{is_same_word, values_of, is_length, sized, announced, coded, framed, frame_of_fields, asks_to_close}
use Rattle.http_frames.specs.Framing.{has_close, first_value}

map_filter-append : (p : List ℕ × List ℕ → Bool) (a b : List (List ℕ × List ℕ))
    → map (λ f. f.1) (filter p (a ++ b)) ≡ map (λ f. f.1) (filter p a) ++ map (λ f. f.1) (filter p b)
map_filter-append p [] b = refl
map_filter-append p (x ∷ a) b = at (map_filter-append p a b) (p x)
  where
    at : map (λ (f : List ℕ × List ℕ). f.1) (filter p (a ++ b)) ≡ map (λ (f : List ℕ × List ℕ). f.1) (filter p a)
        ++ map (λ (f : List ℕ × List ℕ). f.1) (filter p b)
        → (t : Bool) → map (λ (f : List ℕ × List ℕ). f.1) (cond t (x ∷ filter p (a ++ b)) (filter p (a ++ b)))
        ≡ map (λ f. f.1) (cond t (x ∷ filter p a) (filter p a)) ++ map (λ f. f.1) (filter p b)
    at rest true = ap (λ v. x.1 ∷ v) rest
    at rest false = rest

-- the values of a name in two lists of fields, one behind the other
pub values_of-append : (name : List ℕ) (a b : List (List ℕ × List ℕ)) → values_of name (a ++ b) ≡ values_of name a ++ values_of name b
unfolding values_of
values_of-append name a b = map_filter-append (λ f. is_same_word f.0 name) a b

pub values_of-none : (name : List ℕ) → values_of name [] ≡ []
unfolding values_of
values_of-none name = refl

-- a field of the name has its value
pub values_of-yes : (name : List ℕ) (f : List ℕ × List ℕ) → is_same_word f.0 name ≡ true → values_of name (f ∷ []) ≡ f.1 ∷ []
unfolding values_of
values_of-yes name f e = at (is_same_word f.0 name) e
  where
    at : (t : Bool) → t ≡ true → map (λ (f : List ℕ × List ℕ). f.1) (cond t (f ∷ []) []) ≡ f.1 ∷ []
    at true e = refl
    at false e = cc

-- a field of another name has none
pub values_of-no : (name : List ℕ) (f : List ℕ × List ℕ) → is_same_word f.0 name ≡ false → values_of name (f ∷ []) ≡ []
unfolding values_of
values_of-no name f e = at (is_same_word f.0 name) e
  where
    at : (t : Bool) → t ≡ false → map (λ (f : List ℕ × List ℕ). f.1) (cond t (f ∷ []) []) ≡ []
    at true e = cc
    at false e = refl

pub asks_to_close-append : (a b : List (List ℕ × List ℕ)) → asks_to_close (a ++ b) ≡ (asks_to_close a || asks_to_close b)
unfolding asks_to_close
asks_to_close-append a b =
    let name : List ℕ = codes "connection" in
    ap (list_any has_close) (values_of-append name a b) ∙ list_any-append has_close (values_of name a) (values_of name b)

-- whether one field asks for the connection to be closed
pub asks_one : (f : List ℕ × List ℕ) → asks_to_close (f ∷ []) ≡ (is_same_word f.0 (codes "connection") && has_close f.1)
unfolding asks_to_close
asks_one f = at (is_same_word f.0 (codes "connection")) refl
  where
    at : (t : Bool) → is_same_word f.0 (codes "connection") ≡ t
        → list_any has_close (values_of (codes "connection") (f ∷ [])) ≡ (t && has_close f.1)
    at true e = ap (list_any has_close) (values_of-yes (codes "connection") f e) ∙ or-false (has_close f.1)
    at false e = ap (list_any has_close) (values_of-no (codes "connection") f e)

pub asks_to_close-none : asks_to_close [] ≡ false
unfolding asks_to_close
asks_to_close-none = ap (list_any has_close) (values_of-none _)

-- one field more that doesn't ask
pub none_asks : (f : HeaderSpan → List ℕ × List ℕ) (hs : List HeaderSpan) (i : ℕ) (d : HeaderSpan) → i < length hs
    → asks_to_close (map f (take i hs)) ≡ false → asks_to_close (f (get_or hs i d) ∷ []) ≡ false
    → asks_to_close (map f (take (i + 1) hs)) ≡ false
none_asks f hs i d lt before here =
    ap asks_to_close (map_more f hs i d lt) ∙ asks_to_close-append (map f (take i hs)) (f (get_or hs i d) ∷ [])
    ∙ ap (λ x. x || asks_to_close (f (get_or hs i d) ∷ [])) before ∙ here

-- a field that asks
pub one_asks : (f : HeaderSpan → List ℕ × List ℕ) (hs : List HeaderSpan) (i : ℕ) (d : HeaderSpan) → i < length hs
    → asks_to_close (f (get_or hs i d) ∷ []) ≡ true → asks_to_close (map f hs) ≡ true
one_asks f hs i d lt here =
    let first : List HeaderSpan = take (i + 1) hs in
    ap (λ x. asks_to_close (map f x)) (sym (take-append-drop (i + 1) hs))
    ∙ ap asks_to_close (map-append f first (drop (i + 1) hs))
    ∙ asks_to_close-append (map f first) (map f (drop (i + 1) hs))
    ∙ ap (λ x. x || asks_to_close (map f (drop (i + 1) hs)))
    (ap asks_to_close (map_more f hs i d lt) ∙ asks_to_close-append (map f (take i hs)) (f (get_or hs i d) ∷ [])
    ∙ ap (λ x. asks_to_close (map f (take i hs)) || x) here ∙ or-true (asks_to_close (map f (take i hs))))

-- a number that is cut at a limit grows by a digit as the number does
grows_cut : (v d n : ℕ) → min (min v n * 10 + d) n ≡ min (v * 10 + d) n
grows_cut v d n = omega arith

pub cut_more : (bs : List ℕ) (i n number : ℕ) → i < length bs → number ≡ min (digits_value 10 (take i bs)) n
    → min (number * 10 + digit_value (get_or bs i 0)) n ≡ min (digits_value 10 (take (i + 1) bs)) n
cut_more bs i n number lt so_far =
    ap (λ x. min (x * 10 + digit_value (get_or bs i 0)) n) so_far ∙ grows_cut (digits_value 10 (take i bs)) (digit_value (get_or bs i 0)) n
    ∙ sym (ap (λ x. min x n) (digits_value_more 10 bs i lt))

-- what is announced, by a number that is cut one past the limit
pub announced_length : (value : List ℕ) (number : ℕ) → is_length value ≡ true → number ≡ min (digits_value 10 value) (BODY_BYTES + 1)
    → number ≤ BODY_BYTES → announced value ≡ Sized number
unfolding announced
announced_length value number is cut fits =
    ap (λ t. cond t (sized (digits_value 10 value)) Broken) is ∙ at (digits_value 10 value) cut
  where
    at : (v : ℕ) → number ≡ min v (BODY_BYTES + 1) → sized v ≡ Sized number
    at v cut = let same : v ≡ number = omega arith in let within : nat_le v BODY_BYTES ≡ true = grind (arith, nat_tests) in
        rw (within, same) refl

pub announced_long : (value : List ℕ) (number : ℕ) → is_length value ≡ true → number ≡ min (digits_value 10 value) (BODY_BYTES + 1)
    → BODY_BYTES < number → announced value ≡ TooLong
unfolding announced
announced_long value number is cut over =
    ap (λ t. cond t (sized (digits_value 10 value)) Broken) is ∙ at (digits_value 10 value) cut
  where
    at : (v : ℕ) → number ≡ min v (BODY_BYTES + 1) → sized v ≡ TooLong
    at v cut = let beyond : nat_le v BODY_BYTES ≡ false = grind (arith, nat_tests) in rw beyond refl

-- one value more
abbrev pub one_more : Values → Span → Values
one_more Absent v = Once v
one_more (Once s) v = Several s
one_more (Several s) v = Several s

pub holds_one_more : (buf : List ℕ) (found : Values) (v : Span) (values vs : List (List ℕ)) → IsWithin (length buf) v
    → vs ≡ span_bytes buf v ∷ [] → HoldsValues buf found values → HoldsValues buf (one_more found v) (values ++ vs)
holds_one_more buf Absent v values vs within e h = (within, ap (λ x. x ++ vs) h ∙ e)
holds_one_more buf (Once s) v values vs within e h =
    (h.0, (span_bytes buf v, [], ap (λ x. x ++ vs) h.1 ∙ ap (λ x. span_bytes buf s ∷ x) e))
holds_one_more buf (Several s) v values vs within e h =
    (h.0, (h.1.0, h.1.1 ++ vs, ap (λ x. x ++ vs) h.1.2))

-- the values of the fields so far and one field more
pub holds_more : (buf name : List ℕ) (found : Values) (f : HeaderSpan → List ℕ × List ℕ) (hs : List HeaderSpan) (i : ℕ) (d : HeaderSpan)
    → i < length hs
    → HoldsValues buf found (values_of name (map f (take i hs)) ++ values_of name (f (get_or hs i d) ∷ []))
    → HoldsValues buf found (values_of name (map f (take (i + 1) hs)))
holds_more buf name found f hs i d lt h =
    subst (HoldsValues buf found) (sym (ap (values_of name) (map_more f hs i d lt)
    ∙ values_of-append name (map f (take i hs)) (f (get_or hs i d) ∷ []))) h

-- the framing by the values that were found
abbrev pub frame_by : List ℕ → Values → Values → Frame
frame_by buf Absent Absent = NoBody
frame_by buf (Once v) Absent = announced (span_bytes buf v)
frame_by buf Absent (Once v) = coded (span_bytes buf v)
frame_by buf lengths codings = Broken

same_framed : (ls ms cs ds : List (List ℕ)) → ls ≡ ms → cs ≡ ds → framed ls cs ≡ framed ms ds
same_framed ls ms cs ds e f = ap (λ x. framed x cs) e ∙ ap (framed ms) f

pub framed_by_found : (buf : List ℕ) (lengths codings : Values) (ls cs : List (List ℕ)) → HoldsValues buf lengths ls
    → HoldsValues buf codings cs
    → framed ls cs ≡ frame_by buf lengths codings
unfolding framed
framed_by_found buf Absent Absent ls cs l c = same_framed ls _ cs _ l c
framed_by_found buf Absent (Once w) ls cs l c = same_framed ls _ cs _ l c.1
framed_by_found buf Absent (Several w) ls cs l c = same_framed ls _ cs _ l c.1.2
framed_by_found buf (Once v) Absent ls cs l c = same_framed ls _ cs _ l.1 c
framed_by_found buf (Once v) (Once w) ls cs l c = same_framed ls _ cs _ l.1 c.1
framed_by_found buf (Once v) (Several w) ls cs l c = same_framed ls _ cs _ l.1 c.1.2
framed_by_found buf (Several v) Absent ls cs l c = same_framed ls _ cs _ l.1.2 c
framed_by_found buf (Several v) (Once w) ls cs l c = same_framed ls _ cs _ l.1.2 c.1
framed_by_found buf (Several v) (Several w) ls cs l c = same_framed ls _ cs _ l.1.2 c.1.2

pub frame_found : (buf : List ℕ) (fields : List (List ℕ × List ℕ)) (lengths codings : Values)
    → HoldsValues buf lengths (values_of (codes "content-length") fields)
    → HoldsValues buf codings (values_of (codes "transfer-encoding") fields)
    → frame_of_fields fields ≡ frame_by buf lengths codings
unfolding frame_of_fields
frame_found buf fields lengths codings l c = framed_by_found buf lengths codings _ _ l c

same_frame : (buf : List ℕ) (l m c d : Values) → l ≡ m → c ≡ d → frame_by buf l c ≡ frame_by buf m d
same_frame buf l m c d e f = ap (λ x. frame_by buf x c) e ∙ ap (frame_by buf m) f

broken_when_several : (buf : List ℕ) (s : Span) (c : Values) → frame_by buf (Several s) c ≡ Broken
broken_when_several buf s Absent = refl
broken_when_several buf s (Once v) = refl
broken_when_several buf s (Several v) = refl

broken_when_both : (buf : List ℕ) (s : Span) (c : Values) → (c ≡ Absent → ⊥) → frame_by buf (Once s) c ≡ Broken
broken_when_both buf s Absent other = absurd (other refl)
broken_when_both buf s (Once v) other = refl
broken_when_both buf s (Several v) other = refl

-- the framing where the values that were found are these
pub frame_found_at : (buf : List ℕ) (fields : List (List ℕ × List ℕ)) (l c m d : Values)
    → HoldsValues buf l (values_of (codes "content-length") fields) → HoldsValues buf c (values_of (codes "transfer-encoding") fields)
    → l ≡ m → c ≡ d → frame_by buf m d ≡ frame_of_fields fields
frame_found_at buf fields l c m d hl hc e f = sym (frame_found buf fields l c hl hc ∙ same_frame buf l m c d e f)

pub frame_several : (buf : List ℕ) (fields : List (List ℕ × List ℕ)) (l c : Values) (s : Span)
    → HoldsValues buf l (values_of (codes "content-length") fields) → HoldsValues buf c (values_of (codes "transfer-encoding") fields)
    → l ≡ Several s → Broken ≡ frame_of_fields fields
frame_several buf fields l c s hl hc e = sym (broken_when_several buf s c) ∙ frame_found_at buf fields l c (Several s) c hl hc e refl

pub frame_both : (buf : List ℕ) (fields : List (List ℕ × List ℕ)) (l c : Values) (s : Span)
    → HoldsValues buf l (values_of (codes "content-length") fields) → HoldsValues buf c (values_of (codes "transfer-encoding") fields)
    → l ≡ Once s → (c ≡ Absent → ⊥) → Broken ≡ frame_of_fields fields
frame_both buf fields l c s hl hc e other = sym (broken_when_both buf s c other) ∙ frame_found_at buf fields l c (Once s) c hl hc e refl

-- the first of the values that were found
abbrev pub first_found : Values → Option Span
first_found Absent = None
first_found (Once s) = Some s
first_found (Several s) = Some s

pub first_is_found : (buf : List ℕ) (values : List (List ℕ)) (found : Values) → HoldsValues buf found values
    → first_value values ≡ option_map (span_bytes buf) (first_found found)
first_is_found buf values Absent h = ap first_value h
first_is_found buf values (Once s) h = ap first_value h.1
first_is_found buf values (Several s) h = ap first_value h.1.2

-- a test that tells whether a fact holds decides it
pub decided : (r : Bool) (P : Type 0) → (IsTrue r ↔ P) → Decides r P
decided r P h = (h.0, h.1)

-- a value that isn't empty is a length where each byte is a digit
pub length_of_some : (value : List ℕ) → 0 < length value → is_length value ≡ list_all is_ascii_digit value
unfolding is_length
length_of_some value some = let lt : nat_lt 0 (length value) ≡ true = grind (arith, nat_tests) in rw lt refl

pub no_length_of_none : (value : List ℕ) → length value ≡ 0 → is_length value ≡ false
unfolding is_length
no_length_of_none value none = let lt : nat_lt 0 (length value) ≡ false = grind (arith, nat_tests) in rw lt refl

pub announced_broken : (value : List ℕ) → is_length value ≡ false → announced value ≡ Broken
unfolding announced
announced_broken value is = ap (λ t. cond t (sized (digits_value 10 value)) Broken) is

-- an announced length is within the limit
cond_fits : (t : Bool) (v n : ℕ) → cond t (sized v) Broken ≡ Sized n → n ≤ BODY_BYTES
cond_fits false v n e = absurd (broken_unsized n e)
  where
    broken_unsized : (n : ℕ) → Broken ≡ Sized n → ⊥
    broken_unsized n e = cc
cond_fits true v n e = at (nat_le v BODY_BYTES) refl e
  where
    at : (t : Bool) → nat_le v BODY_BYTES ≡ t → cond t (Sized v) TooLong ≡ Sized n → n ≤ BODY_BYTES
    at true is e = let same : v ≡ n = cc in let within : v ≤ BODY_BYTES = grind (arith, nat_tests) in omega arith
    at false is e = absurd (long_unsized n e)
      where
        long_unsized : (n : ℕ) → TooLong ≡ Sized n → ⊥
        long_unsized n e = cc

announced_fits : (value : List ℕ) (n : ℕ) → announced value ≡ Sized n → n ≤ BODY_BYTES
unfolding announced
announced_fits value n e = cond_fits (is_length value) (digits_value 10 value) n e

coded_unsized : (value : List ℕ) (n : ℕ) → coded value ≡ Sized n → ⊥
unfolding coded
coded_unsized value n e = at (is_same_word value (codes "chunked")) e
  where
    at : (t : Bool) → cond t Chunked Broken ≡ Sized n → ⊥
    at true e = cc
    at false e = cc

no_body_unsized : (n : ℕ) → NoBody ≡ Sized n → ⊥
no_body_unsized n e = cc

broken_unsized : (n : ℕ) → Broken ≡ Sized n → ⊥
broken_unsized n e = cc

framed_fits : (ls cs : List (List ℕ)) (n : ℕ) → framed ls cs ≡ Sized n → n ≤ BODY_BYTES
unfolding framed
framed_fits [] [] n e = absurd (no_body_unsized n e)
framed_fits (l ∷ []) [] n e = announced_fits l n e
framed_fits [] (c ∷ []) n e = absurd (coded_unsized c n e)
framed_fits [] (c ∷ d ∷ cs) n e = absurd (broken_unsized n e)
framed_fits (l ∷ []) (c ∷ cs) n e = absurd (broken_unsized n e)
framed_fits (l ∷ k ∷ ls) cs n e = absurd (broken_unsized n e)

pub sized_fits : (fields : List (List ℕ × List ℕ)) (n : ℕ) → frame_of_fields fields ≡ Sized n → n ≤ BODY_BYTES
unfolding frame_of_fields
sized_fits fields n e = framed_fits _ _ n e
