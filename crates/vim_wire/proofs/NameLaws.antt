-- Lists of names, as fields.
use Rattle.std.proofs.Common.{◌≡◌, ◌∙◌, ap, sym, subst, ℕ, suc, ◌<◌, List, [], ◌∷◌, ◌++◌, map, append_assoc, arith, length, get_or, take}
use Rattle.std.proofs.Common.{◌+◌, append-nil}
use Rattle.std.specs.Prelude.{All}
use Rattle.std.proofs.lemmas.List.{map-append}
use Rattle.std.proofs.lemmas.List.Elements.{All-push}
use Rattle.std.specs.Prelude.{Result, Ok, Err, OnOk}
use Rattle.std.specs.List.{flat_map}
use Rattle.std.proofs.lemmas.List.{take_more}
use Rattle.std.proofs.lemmas.Grind.{flat_map-append}
use Rattle.vnfm_base.specs.Text.{IsName}
use Rattle.vim_wire.specs.Lines.{name_field}

pub one_more : (names next : List (List ℕ)) (name field : List ℕ) (all left rest : List (List ℕ)) → All IsName names
    → all ≡ map name_field names ++ left
    → left ≡ field ∷ rest → next ≡ names ++ name ∷ [] → IsName name → field ≡ name_field name
    → record { names : All IsName next; front : all ≡ map name_field next ++ rest }
one_more names next name field all left rest each front e more h is =
    let fields = map name_field names in
    let P : List (List ℕ) → Type 0 = All IsName in
    record {
      names = subst P (sym more) (All-push IsName names name each h);
      front = front ∙ ap (λ t. fields ++ t) (e ∙ ap (λ f. f ∷ rest) is) ∙ sym (append_assoc fields (name_field name ∷ []) rest)
          ∙ ap (λ t. t ++ rest) (sym (map-append name_field names (name ∷ [])) ∙ ap (map name_field) (sym more));
    }

-- each of the fields of some names is that of a name
pub is_named : (names before : List (List ℕ)) (field : List ℕ) (behind : List (List ℕ)) → All IsName names
    → map name_field names ≡ before ++ field ∷ behind
    → (name : List ℕ) × (IsName name × (field ≡ name_field name))
is_named [] [] field behind each e = absurd cc
is_named [] (x ∷ before) field behind each e = absurd cc
is_named (name ∷ names) [] field behind each e = (name, (each 0 [] (omega arith), cc))
is_named (name ∷ names) (x ∷ before) field behind each e =
    let rest : map name_field names ≡ before ++ field ∷ behind = cc in
    is_named names before field behind (λ k d lt. each (suc k) d (omega arith)) rest

-- what was put, and what was put behind it
pub further : (a b e x y : List ℕ) → b ≡ a ++ x → e ≡ b ++ y → e ≡ a ++ (x ++ y)
further a b e x y h k = k ∙ ap (λ t. t ++ y) h ∙ append_assoc a x y

pub on_ok_further : {A E : Type 0} (r : Result A E) (a b e x y : List ℕ) → b ≡ a ++ x → OnOk r (e ≡ b ++ y) → OnOk r (e ≡ a ++ (x ++ y))
on_ok_further (Ok v) a b e x y h k = further a b e x y h k
on_ok_further (Err v) a b e x y h k = tt

-- the fields of some names, each behind a space
abbrev pub put_behind : List (List ℕ) → List ℕ
put_behind names = flat_map (λ f. 32 ∷ f) (map name_field names)

pub name_more : (start line next : List ℕ) (names : List (List ℕ)) (i : ℕ) (name : List ℕ) → i < length names → name ≡ get_or names i name
    → line ≡ start ++ put_behind (take i names) → next ≡ line ++ 32 ∷ name_field name → next ≡ start ++ put_behind (take (i + 1) names)
name_more start line next names i name lt at so put =
    let more : take (i + 1) names ≡ take i names ++ name ∷ [] = take_more names i name lt ∙ ap (λ n. take i names ++ n ∷ []) (sym at) in
    let both : put_behind (take (i + 1) names) ≡ put_behind (take i names) ++ ((32 ∷ name_field name) ++ []) =
    ap put_behind more ∙ ap (flat_map (λ f. 32 ∷ f)) (map-append name_field (take i names) (name ∷ []))
    ∙ flat_map-append (λ f. 32 ∷ f) (map name_field (take i names)) (name_field name ∷ []) in
    further start line next (put_behind (take i names)) (32 ∷ name_field name) so put
    ∙ ap (λ t. start ++ (put_behind (take i names) ++ t)) (sym (append-nil (32 ∷ name_field name))) ∙ ap (λ t. start ++ t) (sym both)

pub typed_more : (names : List (List ℕ)) (i : ℕ) (name : List ℕ) → i < length names → name ≡ get_or names i name
    → All IsName (take i names) → IsName name → All IsName (take (i + 1) names)
typed_more names i name lt at so h =
    let more : take (i + 1) names ≡ take i names ++ name ∷ [] = take_more names i name lt ∙ ap (λ n. take i names ++ n ∷ []) (sym at) in
    let P : List (List ℕ) → Type 0 = All IsName in subst P (sym more) (All-push IsName (take i names) name so h)
