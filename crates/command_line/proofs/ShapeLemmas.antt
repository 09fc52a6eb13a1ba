-- Which pairs the words are, pair by pair.
use Rattle.std.proofs.Common.{◌≡◌, ◌≤◌, ◌-◌, List, [], ◌∷◌, Bool, true, false, Option, Some, None, ap, refl, sym, ◌∙◌, length}
use Rattle.std.proofs.Common.{arith}
use Rattle.std.specs.Prelude.{is_some, option_map, ◌&&◌, take, drop, if◌then◌else◌}
use Rattle.std.proofs.lemmas.List.{take_all}
use Rattle.std.specs.List.{list_all, slice_index_or}
use Rattle.std.specs.Str.{bytes_eq}
use Rattle.command_line.specs.Words.{Pair, Word, are_of, are_taken, command_named, needed_of, pairs_of, parted, settings_for, settings_of}
use Rattle.command_line.specs.Words.{stand_once, stands, takes, value_in, value_of}
use Rattle.command_line.specs.declared.options.Command.{Command}

-- words of which two or more are left begin with a pair
two_front : (ws : List Word) (o v : Word) → 2 ≤ length ws → o ≡ slice_index_or ws 0 o → v ≡ slice_index_or ws 1 v
    → ws ≡ o ∷ v ∷ take (length ws - 2) (drop 2 ws)
two_front [] o v two first second = absurd (omega (arith, two))
two_front (x ∷ []) o v two first second = absurd (omega (arith, two))
two_front (x ∷ y ∷ ws) o v two first second =
    let all : take (length (x ∷ y ∷ ws) - 2) ws ≡ ws = take_all _ ws (omega arith) in
    rw (first, second, all) refl

pub some_pairs : (xs ys : List Pair) → Some xs ≡ Some ys → xs ≡ ys
some_pairs xs ys same = cc

-- the pairs of words that begin with one
pub pairs_behind : (o v : Word) (behind : List Word) (pairs : List Pair) → pairs_of (o ∷ v ∷ behind) ≡ Some pairs
    → (more : List Pair) × (pairs_of behind ≡ Some more) × (pairs ≡ (o, v) ∷ more)
pairs_behind o v behind pairs are = go (pairs_of behind) refl where
  go : (p : Option (List Pair)) → pairs_of behind ≡ p → (more : List Pair) × (pairs_of behind ≡ Some more) × (pairs ≡ (o, v) ∷ more)
  go None e = let no : None ≡ Some pairs = rw e at are in cc
  go (Some ps) e = let same : Some ((o, v) ∷ ps) ≡ Some pairs = rw e at are in (ps, e, sym (some_pairs ((o, v) ∷ ps) pairs same))

-- an option's value, read otherwise, is there where it was
pub some_mapped : {T U : Type 0} (f : T → U) (x : Option T) → is_some x ≡ is_some (option_map f x)
some_mapped f None = refl
some_mapped f (Some v) = refl

-- the value of an option of words that are pairs is that of the pairs
pub value_is : (name : Word) (words : List Word) (ps : List Pair) → pairs_of words ≡ Some ps → value_in name words ≡ value_of name ps
value_is name [] ps are = let empty : [] ≡ ps = some_pairs [] ps are in ap (value_of name) empty
value_is name (o ∷ []) ps are = cc
value_is name (o ∷ v ∷ rest) ps are =
    let at = pairs_behind o v rest ps are in
    go (bytes_eq o name) refl (value_is name rest at.0 at.1) ∙ ap (value_of name) (sym at.2)
  where
    go : (b : Bool) → bytes_eq o name ≡ b → value_in name rest ≡ value_of name (pairs_behind o v rest ps are).0
        → value_in name (o ∷ v ∷ rest) ≡ value_of name ((o, v) ∷ (pairs_behind o v rest ps are).0)
    go true e later = rw e refl
    go false e later = rw e later

-- a pair that is taken, and whose option doesn't stand behind it, leaves the question to the words behind it
pub taken_more : (c : Command) (o v : Word) (behind : List Word) (b : Bool) → takes c (o, v) ≡ true
    → ((pairs : List Pair) → pairs_of behind ≡ Some pairs → b ≡ stands o pairs) → b ≡ false
    → are_taken c (o ∷ v ∷ behind) ≡ are_taken c behind
taken_more c o v behind b taken is clear = go (pairs_of behind) refl where
  go : (p : Option (List Pair)) → pairs_of behind ≡ p → are_taken c (o ∷ v ∷ behind) ≡ are_taken c behind
  go None e = rw e refl
  go (Some ps) e = rw (e, taken, sym (is ps e) ∙ clear) refl

-- the same of words of which two or more are left
pub taken_behind : (c : Command) (o v : Word) (rest : List Word) (b : Bool) → 2 ≤ length rest → o ≡ slice_index_or rest 0 o
    → v ≡ slice_index_or rest 1 v → takes c (o, v) ≡ true
    → ((pairs : List Pair) → pairs_of (take (length rest - 2) (drop 2 rest)) ≡ Some pairs → b ≡ stands o pairs) → b ≡ false
    → are_taken c rest ≡ are_taken c (take (length rest - 2) (drop 2 rest))
taken_behind c o v rest b two first second taken is clear = ap (are_taken c) (two_front rest o v two first second)
    ∙ taken_more c o v (take (length rest - 2) (drop 2 rest)) b taken is clear

-- words with a pair that isn't taken aren't
pub untaken : (c : Command) (o v : Word) (behind : List Word) → takes c (o, v) ≡ false → are_taken c (o ∷ v ∷ behind) ≡ false
untaken c o v behind wrong = go (pairs_of behind) refl where
  go : (p : Option (List Pair)) → pairs_of behind ≡ p → are_taken c (o ∷ v ∷ behind) ≡ false
  go None e = rw e refl
  go (Some ps) e = rw (e, wrong) refl

-- words with an option that stands again aren't
pub again : (c : Command) (o v : Word) (behind : List Word) (b : Bool)
    → ((pairs : List Pair) → pairs_of behind ≡ Some pairs → b ≡ stands o pairs) → b ≡ true → are_taken c (o ∷ v ∷ behind) ≡ false
again c o v behind b is twice = go (pairs_of behind) refl where
  and_false : (b : Bool) → (b && false) ≡ false
  and_false true = refl
  and_false false = refl

  go : (p : Option (List Pair)) → pairs_of behind ≡ p → are_taken c (o ∷ v ∷ behind) ≡ false
  go None e = rw e refl
  go (Some ps) e = rw (e, sym (is ps e) ∙ twice) (and_false _)

-- the same of words of which two or more are left
pub untaken_behind : (c : Command) (o v : Word) (rest : List Word) → 2 ≤ length rest → o ≡ slice_index_or rest 0 o
    → v ≡ slice_index_or rest 1 v → takes c (o, v) ≡ false → are_taken c rest ≡ false
untaken_behind c o v rest two first second wrong = ap (are_taken c) (two_front rest o v two first second)
    ∙ untaken c o v (take (length rest - 2) (drop 2 rest)) wrong

pub again_behind : (c : Command) (o v : Word) (rest : List Word) (b : Bool) → 2 ≤ length rest → o ≡ slice_index_or rest 0 o
    → v ≡ slice_index_or rest 1 v
    → ((pairs : List Pair) → pairs_of (take (length rest - 2) (drop 2 rest)) ≡ Some pairs → b ≡ stands o pairs) → b ≡ true
    → are_taken c rest ≡ false
again_behind c o v rest b two first second is twice = ap (are_taken c) (two_front rest o v two first second)
    ∙ again c o v (take (length rest - 2) (drop 2 rest)) b is twice

-- words that are a command set what it sets
pub sets : (words : List Word) (c : Command) (ps : List Pair) → parted words ≡ Some (c, ps) → settings_of words ≡ Some (settings_for c ps)
sets words c ps are = rw are refl

-- a command has its pairs
pub has_pairs : (words : List Word) (c : Command) → Some c ≡ option_map (λ parts. parts.0) (parted words)
    → (ps : List Pair) × (parted words ≡ Some (c, ps))
has_pairs words c is = go (parted words) refl where
  go : (x : Option (Command × List Pair)) → parted words ≡ x → (ps : List Pair) × (parted words ≡ Some (c, ps))
  go None e = let no : Some c ≡ None = rw e at is in cc
  go (Some x) e =
      let same : Some c ≡ Some x.0 = rw e at is in
      let one : x.0 ≡ c = cc in
      (x.1, e ∙ ap (λ (d : Command). Some (d, x.1)) one)

-- the options that have to stand do or don't, where the pairs are taken
abbrev AreAskedFor : Command → List Word → Bool → Bool → Type 0
AreAskedFor c rest taken needed = taken ≡ true → (pairs : List Pair) → pairs_of rest ≡ Some pairs
    → needed ≡ list_all (λ option. stands option pairs) (needed_of c)

-- the command of words with a name, by whether the pairs behind it are taken and those that have to stand do
command_by : (name : Word) (rest : List Word) (c : Command) (taken needed : Bool) → command_named name ≡ Some c
    → taken ≡ are_taken c rest → AreAskedFor c rest taken needed
    → option_map (λ parts. parts.0) (parted (name ∷ rest)) ≡ (if taken && needed then Some c else None)
command_by name rest c taken needed named takes_all stand_all = go (pairs_of rest) refl where
  judged : (b : Bool) (ps : List Pair) → pairs_of rest ≡ Some ps → are_of c ps ≡ b → b ≡ (taken && needed)
      → option_map (λ parts. parts.0) (parted (name ∷ rest)) ≡ (if taken && needed then Some c else None)
  judged true ps e is same = rw (named, e, is, sym same) refl
  judged false ps e is same = rw (named, e, is, sym same) refl

  both : (b : Bool) (ps : List Pair) → pairs_of rest ≡ Some ps → taken ≡ b
      → (b ≡ (list_all (takes c) ps && stand_once ps)) → are_of c ps ≡ (taken && needed)
  both true ps e is all = rw (is, sym all, stand_all is ps e) refl
  both false ps e is all = rw (is, sym all) refl

  go : (p : Option (List Pair)) → pairs_of rest ≡ p
      → option_map (λ parts. parts.0) (parted (name ∷ rest)) ≡ (if taken && needed then Some c else None)
  go None e = let no : taken ≡ false = rw e at takes_all in rw (named, e, no) refl
  go (Some ps) e =
      let all : taken ≡ (list_all (takes c) ps && stand_once ps) = rw e at takes_all in
      judged (are_of c ps) ps e refl (both taken ps e refl all)

-- words of which one or more are left begin with a name
one_front : (ws : List Word) (name : Word) → 1 ≤ length ws → name ≡ slice_index_or ws 0 name
    → ws ≡ name ∷ take (length ws - 1) (drop 1 ws)
one_front [] name one first = absurd (omega (arith, one))
one_front (x ∷ ws) name one first =
    let all : take (length (x ∷ ws) - 1) ws ≡ ws = take_all _ ws (omega arith) in
    rw (first, all) refl

-- the same of words of which one or more are left
pub command_in : (ws : List Word) (name : Word) (c : Command) (taken needed : Bool) → 1 ≤ length ws
    → name ≡ slice_index_or ws 0 name → command_named name ≡ Some c
    → taken ≡ are_taken c (take (length ws - 1) (drop 1 ws))
    → AreAskedFor c (take (length ws - 1) (drop 1 ws)) taken needed
    → (if taken && needed then Some c else None) ≡ option_map (λ parts. parts.0) (parted ws)
command_in ws name c taken needed one first named takes_all stand_all =
    sym (command_by name (take (length ws - 1) (drop 1 ws)) c taken needed named takes_all stand_all)
    ∙ ap (λ v. option_map (λ parts. parts.0) (parted v)) (sym (one_front ws name one first))
