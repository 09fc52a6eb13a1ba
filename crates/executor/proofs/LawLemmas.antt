-- A file's records are the spellings of one history, and none of them is bad where that history is legal.
use Rattle.std.proofs.Common.{◌≡◌, ◌≤◌, ◌<◌, ℕ, List, [], ◌∷◌, ◌++◌, length, reverse, ◌⊎◌, ap, ◌∙◌, sym, subst, refl, arith, inl, inr}
use Rattle.std.proofs.Common.{⊎_elim, length-append, append_assoc}
use Rattle.std.specs.List.{AllByRecursion}
use Rattle.std.proofs.lemmas.Bool.{cases_lt}
use Rattle.std.proofs.lemmas.List.{length-map, length-reverse, same_from_push}
use Rattle.event_codec.specs.Spell.{spelling}
use Rattle.event_codec.specs.Valid.{IsEvent}
use Rattle.journal_records.specs.File.{records, HasRecords}
use Rattle.journal_records.specs.Head.{IsBrokenAt}
use Rattle.event_codec.specs.Prefix.{NoSpellingBeginsAnother}
use Rattle.journal_core.specs.Exclusion.{BreaksOnce, IsHeadedOnce, IsWholeOnce, IsWholeOrBroken, ReadsItsRecords}
use Rattle.lcm_events.specs.declared.events.Event.{Event}
use Rattle.lcm_model.specs.Allowed.{IsAllowed, IsLegal}
use Rattle.executor.specs.History.{HasHistory, spellings}
use Rattle.executor.specs.Laws.{HasOneHistory, HasNoBadRecord, HasOneBadRecord}
use Rattle.executor.specs.Open.{IsBadAt}
use Rattle.executor.proofs.SpellingLemmas.{same_event, spellings-cons}

never_empty : {X : Type 0} (xs : List X) (y : X) (ys : List X) → [] ≡ xs ++ y ∷ ys → ⊥
never_empty xs y ys same = let short : 0 ≡ length (xs ++ y ∷ ys) = ap length same in omega (arith, length-append xs (y ∷ ys))

-- a list is empty or has a last entry
last_of : {X : Type 0} (xs : List X) → (xs ≡ []) ⊎ ((front : List X) × (last : X) × (xs ≡ front ++ last ∷ []))
last_of [] = inl refl
last_of {X} (x ∷ xs) = ⊎_elim
    (λ (none : xs ≡ []). inr ([], x, ap (λ (t : List X). x ∷ t) none))
    (λ (some : (front : List X) × (last : X) × (xs ≡ front ++ last ∷ [])). inr (x ∷ some.0, some.1, ap (λ (t : List X). x ∷ t) some.2))
    (last_of xs)

-- what stands at one place of a list stands there in each longer front of it
front_of : {X : Type 0} (xs ys : List X) (x y : X) (rest more : List X) → xs ++ x ∷ rest ≡ ys ++ y ∷ more → length xs < length ys
    → (between : List X) × (ys ≡ xs ++ x ∷ between)
front_of [] [] x y rest more same less = let no : ⊥ = omega (arith, less) in absurd no
front_of {X = X} [] (z ∷ ys) x y rest more same less = let first : x ≡ z = cc in (ys, ap (λ (t : X). t ∷ ys) (sym first))
front_of (w ∷ xs) [] x y rest more same less = let no : ⊥ = omega (arith, less) in absurd no
front_of {X = X} (w ∷ xs) (z ∷ ys) x y rest more same less =
    let first : w ≡ z = cc in
    let behind : xs ++ x ∷ rest ≡ ys ++ y ∷ more = cc in
    let found = front_of xs ys x y rest more behind (omega (arith, less)) in
    (found.0, ap (λ (t : List X). z ∷ t) found.1 ∙ ap (λ (t : X). t ∷ xs ++ x ∷ found.0) (sym first))

spellings-length : (H : List Event) → length (spellings H) ≡ length H
spellings-length H = length-map (reverse H) spelling ∙ length-reverse H

-- what is known of spellings and of files
module _ (one_spelling : NoSpellingBeginsAnother) (once : IsWholeOnce) (its : ReadsItsRecords) (unbroken : IsWholeOrBroken)
    (breaks : BreaksOnce) (headed : IsHeadedOnce) where
  -- one history's spellings are no other's
  pub spellings-inj : (H G : List Event) → AllByRecursion IsEvent H → AllByRecursion IsEvent G → spellings H ≡ spellings G → H ≡ G
  spellings-inj [] [] is also same = refl
  spellings-inj [] (g ∷ G) is also same = absurd (never_empty (spellings G) (spelling g) [] (same ∙ spellings-cons g G))
  spellings-inj (h ∷ H) [] is also same = absurd (never_empty (spellings H) (spelling h) [] (sym same ∙ spellings-cons h H))
  spellings-inj (h ∷ H) (g ∷ G) is also same =
      let parts = same_from_push (spellings H) (spellings G) (spelling h) (spelling g)
      (sym (spellings-cons h H) ∙ same ∙ spellings-cons g G) in
      let first : h ≡ g = same_event one_spelling h g (spelling h) is.0 also.0 refl parts.1 in
      let rest : H ≡ G = spellings-inj H G is.1 also.1 parts.0 in
      ap (λ (e : Event). e ∷ H) first ∙ ap (λ (F : List Event). g ∷ F) rest

  -- where each event was allowed after those before it, no record is one that wasn't
  pub no_bad : (m : ℕ) (H before : List Event) (bytes : List ℕ) (rest : List (List ℕ)) → AllByRecursion IsEvent H
      → AllByRecursion IsEvent before → IsLegal m H
      → spellings H ≡ spellings before ++ bytes ∷ rest → ((e : Event) → IsEvent e → bytes ≡ spelling e → IsAllowed m before e.kind → ⊥) → ⊥
  no_bad m [] before bytes rest is also legal same none = never_empty (spellings before) bytes rest same
  no_bad m (h ∷ H) before bytes rest is also legal same none = ⊎_elim
      (λ (empty : rest ≡ []).
      let parts = same_from_push (spellings H) (spellings before) (spelling h) bytes
      (sym (spellings-cons h H) ∙ same ∙ ap (λ (t : List (List ℕ)). spellings before ++ bytes ∷ t) empty) in
      let past : H ≡ before = spellings-inj H before is.1 also parts.0 in
      let P : List Event → Type 0 = λ G. IsAllowed m G h.kind in
      none h is.0 (sym parts.1) (subst P past legal.0))
      (λ (some : (front : List (List ℕ)) × (last : List ℕ) × (rest ≡ front ++ last ∷ [])).
      let parts = same_from_push (spellings H) (spellings before ++ bytes ∷ some.0) (spelling h) some.1
      (sym (spellings-cons h H) ∙ same ∙ ap (λ (t : List (List ℕ)). spellings before ++ bytes ∷ t) some.2
      ∙ sym (append_assoc (spellings before) (bytes ∷ some.0) (some.1 ∷ []))) in
      no_bad m H before bytes some.0 is.1 also legal.1 parts.0 none)
      (last_of rest)

  -- a file has one history, and is one manager's
  pub one_history : HasOneHistory
  one_history m n H G image small also_small has also =
      let same = once m n (spellings H) (spellings G) image small also_small has.file also.file in
      (same.0, spellings-inj H G has.events also.events same.1)

  late_bad : (m n : ℕ) (H : List Event) (image : List ℕ) → HasHistory m H image → IsLegal m H → IsBadAt m n (records image) → ⊥
  late_bad m n H image has legal found =
      no_bad m H found.before found.bytes found.rest has.events found.events legal
      (sym (its m (spellings H) image has.file) ∙ found.is) found.none

  -- where a file's history is legal, none of its records is bad
  pub no_bad_record : HasNoBadRecord
  no_bad_record m n H image small has legal bad = ⊎_elim
      (λ (broken : IsBrokenAt bad.0 n image). unbroken m bad.0 n (spellings H) image has.file broken)
      (λ (late : HasRecords bad.0 (records image) image × IsBadAt bad.0 n (records image)).
      let same = once m bad.0 (spellings H) (records image) image small bad.1.number has.file late.0 in
      let P : ℕ → Type 0 = λ k. IsBadAt k n (records image) in
      late_bad m n H image has legal (subst P (sym same.0) late.1))
      bad.2

  -- a bad record isn't among those that were allowed before another
  no_earlier : (m n k : ℕ) (rs : List (List ℕ)) → (one : IsBadAt m n rs) → (other : IsBadAt m k rs)
      → length one.before < length other.before → ⊥
  no_earlier m n k rs one other less =
      let found = front_of (spellings one.before) (spellings other.before) one.bytes other.bytes one.rest other.rest (sym one.is ∙ other.is)
      (omega (arith, less, spellings-length one.before, spellings-length other.before)) in
      no_bad m other.before one.before one.bytes found.0 other.events one.events other.legal found.1 one.none

  bad_once : (m n k : ℕ) (rs : List (List ℕ)) → IsBadAt m n rs → IsBadAt m k rs → n ≡ k
  bad_once m n k rs one other = ⊎_elim
      (λ (less : length one.before < length other.before). absurd (no_earlier m n k rs one other less))
      (λ (least : length other.before ≤ length one.before). ⊎_elim
      (λ (less : length other.before < length one.before). absurd (no_earlier m k n rs other one less))
      (λ (most : length one.before ≤ length other.before). omega (arith, least, most, one.place, other.place))
      (cases_lt (length other.before) (length one.before)))
      (cases_lt (length one.before) (length other.before))

  -- a file has one bad record at most
  pub one_bad_record : HasOneBadRecord
  one_bad_record n k image one other = ⊎_elim
      (λ (broken : IsBrokenAt one.0 n image). ⊎_elim
      (λ (also : IsBrokenAt other.0 k image). breaks one.0 other.0 n k image broken also)
      (λ (late : HasRecords other.0 (records image) image × IsBadAt other.0 k (records image)). absurd
      (unbroken other.0 one.0 n (records image) image late.0 broken))
      other.2)
      (λ (late : HasRecords one.0 (records image) image × IsBadAt one.0 n (records image)). ⊎_elim
      (λ (broken : IsBrokenAt other.0 k image). absurd (unbroken one.0 other.0 k (records image) image late.0 broken))
      (λ (also : HasRecords other.0 (records image) image × IsBadAt other.0 k (records image)).
      let same = headed other.0 one.0 image other.1 one.1 in
      let P : ℕ → Type 0 = λ m. IsBadAt m k (records image) in
      bad_once one.0 n k (records image) late.1 (subst P same also.1))
      other.2)
      one.2
