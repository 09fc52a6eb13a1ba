-- What `clap` finds for the options of words that are a command.
use Rattle.std.proofs.Common.{◌≡◌, ◌⊎◌, ◌∙◌, ℕ, List, [], ◌∷◌, ◌++◌, Bool, true, false, not, Option, Some, None, ap, ap₂, refl, sym, subst}
use Rattle.std.proofs.Common.{inl, inr, codes, map, is_some}
use Rattle.std.specs.Prelude.{◌&&◌, ◌||◌, if◌then◌else◌, drop, find, fold, option_map, option_and_then, unwrap_or, slice_get}
use Rattle.std.specs.List.{list_all, list_any}
use Rattle.std.specs.Str.{bytes_eq}
use Rattle.std.proofs.lemmas.Slice.Eq.{bytes_eq-Decides}
use Rattle.std.proofs.lemmas.List.{append-nil, append_assoc}
use Rattle.std.proofs.lemmas.Bool.{and_parts, false≢true, true≢false}
use Rattle.clap.specs.Lexer.{long_of, short_of}
use Rattle.clap.specs.Simple.{App, built, is_simple, matches_of, new_app, new_rule, with_rule}
use Rattle.clap.specs.Walk.{Held, Row, Rule, Walk, at_row, default_rows, more_values, finished, first_of, has_row, nothing_held, option}
use Rattle.clap.specs.Walk.{reading_by, rows_after, rows_of, settled, walk, walk_from, walked, with_default, with_values, without}
use Rattle.clap.specs.Matches.{first_value}
use Rattle.clap.specs.declared.builder.value_parser.Reading.{Reading}
use Rattle.clap.specs.declared.parser.matches.Found.{Found}
use Rattle.clap.specs.declared.parser.matches.ValueSource.TheVariants.{CommandLine, DefaultValue}
use Rattle.clap.proofs.OnLiterals.{clap_on_literals}
use Rattle.clap.proofs.WalkLemmas.{first_value-rows}
use Rattle.command_line.proofs.ShapeLemmas.{pairs_behind, some_pairs}
use Rattle.command_line.specs.Found.{HasValues}
use Rattle.command_line.specs.Words.{Pair, Word, are_of, command_named, fits, given, is_option, needed_of, options_of, pairs_of, parted}
use Rattle.command_line.specs.Words.{stand_once, stands, takes}
use Rattle.command_line.specs.declared.options.Command.{Command}
use Rattle.command_line.specs.declared.options.Command.TheVariants.{Check, Init, Migrate, Onboard, Once, Serve, Trial}

-- what `clap` is told of an option, and of the words
abbrev pub option_rule : Word → Word → Rule
option_rule name default = record (new_rule name) { long = Some name; defaults = default ∷ [] }

abbrev pub reader : App
reader = with_rule (with_rule (with_rule (with_rule (with_rule (with_rule (with_rule (with_rule (with_rule (with_rule
    (with_rule (new_app (codes "vnfm")) (option_rule (codes "journal") [])) (option_rule (codes "manager") (codes "0")))
    (option_rule (codes "role") (codes "orchestrator"))) (option_rule (codes "rounds") []))
    (option_rule (codes "orchestrator") [])) (option_rule (codes "vim") [])) (option_rule (codes "to") []))
    (option_rule (codes "listen") [])) (option_rule (codes "em-listen") [])) (option_rule (codes "start") (codes "0")))
    (option_rule (codes "count") (codes "0"))

-- what it makes of that
abbrev rules : List Rule
rules = (built reader).top.rules

pub reader_is_simple : is_simple reader ≡ true
unfolding clap_on_literals
reader_is_simple = refl

-- an option of a command
abbrev IsKnown : Word → Type 0
IsKnown o = (o ≡ codes "--journal") ⊎ ((o ≡ codes "--manager") ⊎ ((o ≡ codes "--role")
    ⊎ ((o ≡ codes "--rounds") ⊎ ((o ≡ codes "--orchestrator") ⊎ ((o ≡ codes "--vim") ⊎ ((o ≡ codes "--to")
    ⊎ ((o ≡ codes "--listen") ⊎ ((o ≡ codes "--em-listen") ⊎ ((o ≡ codes "--start") ⊎ (o ≡ codes "--count"))))))))))

-- what holds of each option holds of a known one
known_by : (P : Word → Type 0) → P (codes "--journal") → P (codes "--manager") → P (codes "--role") → P (codes "--rounds")
    → P (codes "--orchestrator") → P (codes "--vim") → P (codes "--to") → P (codes "--listen") → P (codes "--em-listen")
    → P (codes "--start") → P (codes "--count") → (o : Word) → IsKnown o → P o
known_by P journal manager role rounds orchestrator vim to listen em_listen start count o known = elim known [
  | inl e ↦ subst P (sym e) journal
  | inr (inl e) ↦ subst P (sym e) manager
  | inr (inr (inl e)) ↦ subst P (sym e) role
  | inr (inr (inr (inl e))) ↦ subst P (sym e) rounds
  | inr (inr (inr (inr (inl e)))) ↦ subst P (sym e) orchestrator
  | inr (inr (inr (inr (inr (inl e))))) ↦ subst P (sym e) vim
  | inr (inr (inr (inr (inr (inr (inl e)))))) ↦ subst P (sym e) to
  | inr (inr (inr (inr (inr (inr (inr (inl e))))))) ↦ subst P (sym e) listen
  | inr (inr (inr (inr (inr (inr (inr (inr (inl e)))))))) ↦ subst P (sym e) em_listen
  | inr (inr (inr (inr (inr (inr (inr (inr (inr (inl e))))))))) ↦ subst P (sym e) start
  | inr (inr (inr (inr (inr (inr (inr (inr (inr (inr e))))))))) ↦ subst P (sym e) count
]

-- a held state in which the option waits for its value, and one in which it has it
abbrev met : Word → Held → Held
met o h = record (settled rules h) { pending = Some (drop 2 o, []) }

abbrev had : Pair → Held → Held
had p h = record (settled rules h) { pending = Some (drop 2 p.0, p.1 ∷ []) }

abbrev waiting_for : Word → Held → Walk
waiting_for o h = record (walk_from (met o h)) { waiting = option (drop 2 o) }

-- a word that is an option's name
name_walked : (h : Held) (o : Word) → IsKnown o → walked rules [] (walk_from h) o ≡ waiting_for o h
unfolding clap_on_literals
name_walked h = known_by (λ o. walked rules [] (walk_from h) o ≡ waiting_for o h) refl refl refl refl refl refl refl
    refl refl refl refl

-- a word that is no option's name looks like none
no_option : (v : Word) → is_option v ≡ false → (bytes_eq v (codes "--") ≡ false) × (long_of v ≡ None) × (short_of v ≡ None)
no_option [] plain = (refl, refl, refl)
no_option (x ∷ xs) plain = (rw plain refl, rw plain refl, rw plain refl)

-- the word behind an option's name is its value
value_walked : (h : Held) (v : Word) → is_option v ≡ false → (o : Word) → IsKnown o
    → walked rules [] (waiting_for o h) v ≡ walk_from (had (o, v) h)
unfolding clap_on_literals
value_walked h v plain =
    let it = no_option v plain in
    known_by (λ o. walked rules [] (waiting_for o h) v ≡ walk_from (had (o, v) h))
    (rw (it.0, it.1, it.2) refl) (rw (it.0, it.1, it.2) refl) (rw (it.0, it.1, it.2) refl)
    (rw (it.0, it.1, it.2) refl) (rw (it.0, it.1, it.2) refl) (rw (it.0, it.1, it.2) refl)
    (rw (it.0, it.1, it.2) refl) (rw (it.0, it.1, it.2) refl) (rw (it.0, it.1, it.2) refl)
    (rw (it.0, it.1, it.2) refl) (rw (it.0, it.1, it.2) refl)

-- the words of these pairs
abbrev spelled : List Pair → List Word
spelled [] = []
spelled (p ∷ ps) = p.0 ∷ p.1 ∷ spelled ps

-- each is a known option and its value
abbrev AreKnown : List Pair → Type 0
AreKnown [] = Unit {0}
AreKnown (p ∷ ps) = IsKnown p.0 × (is_option p.1 ≡ false) × AreKnown ps

-- what is held behind them
abbrev held_after : Held → List Pair → Held
held_after h [] = h
held_after h (p ∷ ps) = held_after (had p h) ps

pairs_walked : (h : Held) (ps : List Pair) → AreKnown ps → walk rules [] h (spelled ps) ≡ walk_from (held_after h ps)
pairs_walked h [] known = refl
pairs_walked h (p ∷ ps) known =
    let two : walked rules [] (walked rules [] (walk_from h) p.0) p.1 ≡ walk_from (had p h) =
    ap (λ w. walked rules [] w p.1) (name_walked h p.0 known.0) ∙ value_walked h p.1 known.1 p.0 known.0 in
    ap (λ w. fold (walked rules []) w (spelled ps)) two ∙ pairs_walked (had p h) ps known.2

-- the row of a pair
abbrev row : Pair → Row
row p = record { id = drop 2 p.0; values = p.1 ∷ []; count = None; source = Some CommandLine; reading = reading_by (option_rule [] []) }

-- a row that isn't there is added
unmet : (id : Word) (change : Row → List Row) (missing rows : List Row) → has_row id rows ≡ false
    → at_row id change missing rows ≡ rows ++ missing
unmet id change missing [] no_row = refl
unmet id change missing (r ∷ rs) no_row = go (bytes_eq r.id id) refl (unmet id change missing rs) where
  go : (b : Bool) → bytes_eq r.id id ≡ b → (has_row id rs ≡ false → at_row id change missing rs ≡ rs ++ missing)
      → at_row id change missing (r ∷ rs) ≡ r ∷ (rs ++ missing)
  go true e later = let bad : true ≡ false = rw e at no_row in absurd (true≢false bad)
  go false e later = let none : has_row id rs ≡ false = rw e at no_row in rw (e, later none) refl

-- a value that isn't there is added
with_row : (rows : List Row) (v id : Word) → has_row id rows ≡ false
    → with_values id (reading_by (option_rule [] [])) CommandLine (v ∷ []) (without id rows) ≡
    rows ++ (record { id = id; values = v ∷ []; count = None; source = Some CommandLine; reading = reading_by (option_rule [] []) }) ∷ []
with_row rows v id none =
    let same : without id rows ≡ rows = unmet id (λ r. []) [] rows none ∙ append-nil rows in
    ap (with_values id (reading_by (option_rule [] [])) CommandLine (v ∷ [])) same
    ∙ unmet id (more_values CommandLine (v ∷ [])) ((record {
      id = id;
      values = v ∷ [];
      count = None;
      source = Some CommandLine;
      reading =
          reading_by (option_rule [] []);
    }) ∷ []) rows none

-- a pair is settled as its row
settled_row : (rows : List Row) (k : ℕ) (v : Word) (o : Word) → IsKnown o → has_row (drop 2 o) rows ≡ false
    → (settled rules (record { rows = rows; pending = Some (drop 2 o, v ∷ []); skip = k })).rows ≡ rows ++ row (o, v) ∷ []
settled_row rows k v o known = known_by (λ o. has_row (drop 2 o) rows ≡ false
    → (settled rules (record { rows = rows; pending = Some (drop 2 o, v ∷ []); skip = k })).rows ≡ rows ++ row (o, v) ∷ [])
    (with_row rows v (codes "journal")) (with_row rows v (codes "manager")) (with_row rows v (codes "role"))
    (with_row rows v (codes "rounds"))
    (with_row rows v (codes "orchestrator")) (with_row rows v (codes "vim")) (with_row rows v (codes "to"))
    (with_row rows v (codes "listen")) (with_row rows v (codes "em-listen")) (with_row rows v (codes "start"))
    (with_row rows v (codes "count")) o known

-- no pair has a row yet
abbrev AreNew : List Row → List Pair → Type 0
AreNew rows [] = Unit {0}
AreNew rows (p ∷ ps) = (has_row (drop 2 p.0) rows ≡ false) × AreNew rows ps

-- a known option is its name behind `--`
dashes : (o : Word) → IsKnown o → o ≡ 45 ∷ 45 ∷ drop 2 o
dashes = known_by (λ o. o ≡ 45 ∷ 45 ∷ drop 2 o) refl refl refl refl refl refl refl refl refl refl refl

same_name : (o q : Word) → IsKnown o → IsKnown q → bytes_eq (drop 2 o) (drop 2 q) ≡ bytes_eq o q
same_name o q known other = sym (ap₂ bytes_eq (dashes o known) (dashes q other))

-- two names differ whichever is asked first
differ : (a b : Word) → bytes_eq a b ≡ false → bytes_eq b a ≡ false
differ a b apart = go (bytes_eq b a) refl where
  go : (t : Bool) → bytes_eq b a ≡ t → bytes_eq b a ≡ false
  go false e = e
  go true e =
      let same : a ≡ b = sym ((bytes_eq-Decides b a).0 e) in
      let bad : bytes_eq a b ≡ true = (bytes_eq-Decides a b).1 same in
      absurd (true≢false (sym bad ∙ apart))

-- one row more is another's
has_more : (id : Word) (r : Row) (rows : List Row) → has_row id rows ≡ false → bytes_eq r.id id ≡ false
    → has_row id (rows ++ r ∷ []) ≡ false
has_more id r [] none other = rw other refl
has_more id r (x ∷ xs) none other =
    let parts = or_parts (bytes_eq x.id id) (has_row id xs) none in
    rw (parts.0, has_more id r xs parts.1 other) refl
  where
    or_parts : (a b : Bool) → (a || b) ≡ false → (a ≡ false) × (b ≡ false)
    or_parts true b e = absurd (true≢false e)
    or_parts false b e = (refl, e)

-- an option that doesn't stand again is none of those behind it
others : (p : Pair) (rows : List Row) (ps : List Pair) → IsKnown p.0 → AreKnown ps → stands p.0 ps ≡ false → AreNew rows ps
    → AreNew (rows ++ row p ∷ []) ps
others p rows [] known all once new = tt
others p rows (q ∷ ps) known all once new = go (bytes_eq q.0 p.0) refl (others p rows ps known all.2) where
  go : (b : Bool) → bytes_eq q.0 p.0 ≡ b → (stands p.0 ps ≡ false → AreNew rows ps → AreNew (rows ++ row p ∷ []) ps)
      → AreNew (rows ++ row p ∷ []) (q ∷ ps)
  go true e later = let bad : true ≡ false = rw e at once in absurd (true≢false bad)
  go false e later =
      let rest : stands p.0 ps ≡ false = rw e at once in
      let other : bytes_eq (drop 2 p.0) (drop 2 q.0) ≡ false = same_name p.0 q.0 known all.0 ∙ differ q.0 p.0 e in
      (has_more (drop 2 q.0) (row p) rows new.0 other, later rest new.1)

-- the pairs are settled as their rows
rows_settled : (h : Held) (ps : List Pair) → AreKnown ps → stand_once ps ≡ true → AreNew (settled rules h).rows ps
    → (settled rules (held_after h ps)).rows ≡ (settled rules h).rows ++ map row ps
rows_settled h [] known once new = sym (append-nil (settled rules h).rows)
rows_settled h (p ∷ ps) known once new =
    let parts = and_parts (not (stands p.0 ps)) (stand_once ps) once in
    let alone : stands p.0 ps ≡ false = not_true (stands p.0 ps) parts.0 in
    let one : (settled rules (had p h)).rows ≡ (settled rules h).rows ++ row p ∷ [] =
    settled_row (settled rules h).rows h.skip p.1 p.0 known.0 new.0 in
    rows_settled (had p h) ps known.2 parts.1 (subst (λ rows. AreNew rows ps) (sym one)
    (others p (settled rules h).rows ps known.0 known.2 alone new.1))
    ∙ ap (λ rows. rows ++ map row ps) one ∙ append_assoc (settled rules h).rows (row p ∷ []) (map row ps)
  where
    not_true : (b : Bool) → not b ≡ true → b ≡ false
    not_true true e = absurd (false≢true e)
    not_true false e = refl

-- nothing is held, and no row is there
all_new : (ps : List Pair) → AreNew [] ps
all_new [] = tt
all_new (p ∷ ps) = (refl, all_new ps)

-- the first row of an id
abbrev row_at : Word → List Row → Option Row
row_at id = find (λ r. bytes_eq r.id id)

abbrev or_else : Option Row → Option Row → Option Row
or_else None other = other
or_else (Some r) other = Some r

-- the row that an argument's default makes
abbrev row_by : Word → Reading → List Word → Option Row
row_by id how [] = None
row_by id how (v ∷ vs) = Some (record { id = id; values = v ∷ vs; count = None; source = Some DefaultValue; reading = how })

abbrev default_at : Word → Rule → Option Row
default_at id a = if bytes_eq a.id id then row_by a.id (reading_by a) a.defaults else None

or_none : (x : Option Row) → x ≡ or_else x None
or_none None = refl
or_none (Some r) = refl

has_is : (id : Word) (rows : List Row) → has_row id rows ≡ is_some (row_at id rows)
has_is id [] = refl
has_is id (r ∷ rs) = go (bytes_eq r.id id) refl (has_is id rs) where
  go : (b : Bool) → bytes_eq r.id id ≡ b → has_row id rs ≡ is_some (row_at id rs) → has_row id (r ∷ rs) ≡ is_some (row_at id (r ∷ rs))
  go true e later = rw e refl
  go false e later = rw e later

-- one row more
row_more : (id : Word) (r : Row) (rows : List Row) → row_at id (rows ++ r ∷ [])
    ≡ or_else (row_at id rows) (if bytes_eq r.id id then Some r else None)
row_more id r [] = refl
row_more id r (x ∷ xs) = go (bytes_eq x.id id) refl (row_more id r xs) where
  go : (b : Bool) → bytes_eq x.id id ≡ b → row_at id (xs ++ r ∷ []) ≡ or_else (row_at id xs) (if bytes_eq r.id id then Some r else None)
      → row_at id (x ∷ (xs ++ r ∷ [])) ≡ or_else (row_at id (x ∷ xs)) (if bytes_eq r.id id then Some r else None)
  go true e later = rw e refl
  go false e later = rw e later

none_either : (b : Bool) → ◌≡◌ {A = Option Row} None (if b then None else None)
none_either true = refl
none_either false = refl

-- an argument that has no row gets its default's
defaulted : (id : Word) (a : Rule) (rows : List Row) → row_at id (with_default rows a) ≡ or_else (row_at id rows) (default_at id a)
defaulted id a rows = go (has_row a.id rows) refl where
  present : (t : Bool) → bytes_eq a.id id ≡ t → (x : Option Row) → row_at id rows ≡ x → has_row a.id rows ≡ true
      → row_at id rows ≡ or_else (row_at id rows) (default_at id a)
  present false e x is has = rw e (or_none (row_at id rows))
  present true e (Some r) is has = rw is refl
  present true e None is has =
      let same : a.id ≡ id = (bytes_eq-Decides a.id id).0 e in
      let bad : false ≡ true = sym (has_is id rows ∙ ap is_some is) ∙ ap (λ i. has_row i rows) (sym same) ∙ has in
      absurd (false≢true bad)

  absent : (ds : List Word) → a.defaults ≡ ds → has_row a.id rows ≡ false
      → row_at id (default_rows a.id (reading_by a) ds rows) ≡ or_else (row_at id rows)
      (if bytes_eq a.id id then row_by a.id (reading_by a) ds else None)
  absent [] is none = or_none (row_at id rows) ∙ ap (or_else (row_at id rows)) (none_either (bytes_eq a.id id))
  absent (v ∷ vs) is none =
      let r : Row = record { id = a.id; values = v ∷ vs; count = None; source = Some DefaultValue; reading = reading_by a } in
      ap (row_at id) (unmet a.id (more_values DefaultValue (v ∷ vs)) (r ∷ []) rows none) ∙ row_more id r rows

  go : (b : Bool) → has_row a.id rows ≡ b → row_at id (with_default rows a) ≡ or_else (row_at id rows) (default_at id a)
  go true e = rw e (present (bytes_eq a.id id) refl (row_at id rows) refl e)
  go false e = rw e (absent a.defaults refl e)

abbrev defaults_at : Word → Option Row → List Rule → Option Row
defaults_at id = fold (λ found a. or_else found (default_at id a))

all_defaulted : (id : Word) (rs : List Rule) (rows : List Row) → row_at id (fold with_default rows rs) ≡ defaults_at id (row_at id rows) rs
all_defaulted id [] rows = refl
all_defaulted id (a ∷ more) rows = all_defaulted id more (with_default rows a) ∙ ap (λ x. defaults_at id x more) (defaulted id a rows)

-- the row of an option is that of its pair
row_of_pair : (o : Word) → IsKnown o → (ps : List Pair) → AreKnown ps
    → row_at (drop 2 o) (map row ps) ≡ option_map row (find (λ p. bytes_eq p.0 o) ps)
row_of_pair o known [] all = refl
row_of_pair o known (p ∷ ps) all = go (bytes_eq p.0 o) refl (same_name p.0 o all.0 known) (row_of_pair o known ps all.2) where
  go : (b : Bool) → bytes_eq p.0 o ≡ b → bytes_eq (drop 2 p.0) (drop 2 o) ≡ bytes_eq p.0 o
      → row_at (drop 2 o) (map row ps) ≡ option_map row (find (λ p. bytes_eq p.0 o) ps)
      → row_at (drop 2 o) (map row (p ∷ ps)) ≡ option_map row (find (λ p. bytes_eq p.0 o) (p ∷ ps))
  go true e same later = rw (same, e) refl
  go false e same later = rw (same, e) later

-- what is found behind the words of these pairs
rows_are : (ps : List Pair) → AreKnown ps → stand_once ps ≡ true → rows_after rules [] (spelled ps) ≡ fold with_default (map row ps) rules
rows_are ps known once =
    ap (λ (w : Walk). finished rules w.held) (pairs_walked nothing_held ps known)
    ∙ ap (λ rows. fold with_default rows rules) (rows_settled nothing_held ps known once (all_new ps))

-- an option's first value, by its pair
abbrev first_by : Word → Option Pair → Option Word
first_by o found = option_and_then (λ r. slice_get r.values 0) (defaults_at (drop 2 o) (option_map row found) rules)

abbrev IsGiven : Word → Word → Option Pair → Type 0
IsGiven o default found = first_by o found ≡ Some (unwrap_or (option_map (λ p. p.1) found) default)

either : (P : Option Pair → Type 0) → P None → ((p : Pair) → P (Some p)) → (x : Option Pair) → P x
either P none some None = none
either P none some (Some p) = some p

value_found : (o default : Word) → IsKnown o → ((x : Option Pair) → IsGiven o default x) → (ps : List Pair) → AreKnown ps
    → stand_once ps ≡ true
    → first_of (drop 2 o) (rows_after rules [] (spelled ps)) ≡ Some (given o default ps)
value_found o default known is ps all once =
    ap (first_of (drop 2 o)) (rows_are ps all once)
    ∙ ap (option_and_then (λ r. slice_get r.values 0)) (all_defaulted (drop 2 o) rules (map row ps)
    ∙ ap (λ x. defaults_at (drop 2 o) x rules) (row_of_pair o known ps all))
    ∙ is (find (λ p. bytes_eq p.0 o) ps)

-- the pairs that a command takes are known
abbrev AllKnown : List Word → Type 0
AllKnown [] = Unit {0}
AllKnown (o ∷ os) = IsKnown o × AllKnown os

known_among : (o : Word) (os : List Word) → AllKnown os → list_any (λ known. bytes_eq o known) os ≡ true → IsKnown o
known_among o [] all any = absurd (false≢true any)
known_among o (q ∷ qs) all any = go (bytes_eq o q) refl (known_among o qs all.1) where
  go : (b : Bool) → bytes_eq o q ≡ b → (list_any (λ known. bytes_eq o known) qs ≡ true → IsKnown o) → IsKnown o
  go true e later = subst IsKnown (sym ((bytes_eq-Decides o q).0 e)) all.0
  go false e later = later (rw e at any)

options_known : (c : Command) → AllKnown (options_of c)
options_known Init = (inl refl, (inr (inl refl), tt))
options_known Onboard = (inl refl, tt)
options_known Check = (inl refl, tt)
options_known Once = (inl refl, (inr (inr (inl refl)), (inr (inr (inr (inl refl))), (inr (inr (inr (inr (inl refl)))), (inr (inr (inr (inr (inr (inl refl))))), tt)))))
options_known Serve = (inl refl, (inr (inr (inr (inr (inr (inr (inr (inl refl))))))), (inr (inr (inr (inr (inr (inr (inr (inr (inl refl)))))))), (inr (inr (inr (inl refl))), (inr (inr (inr (inr (inl refl)))), (inr (inr (inr (inr (inr (inl refl))))), tt))))))
options_known Migrate = (inl refl, (inr (inr (inr (inr (inr (inr (inl refl)))))), tt))
options_known Trial = (inr (inr (inr (inr (inr (inr (inr (inr (inr (inl refl))))))))), (inr (inr (inr (inr (inr (inr (inr (inr (inr (inr refl))))))))), tt))

not_true : (b : Bool) → not b ≡ true → b ≡ false
not_true true e = absurd (false≢true e)
not_true false e = refl

are_known : (c : Command) (ps : List Pair) → list_all (takes c) ps ≡ true → AreKnown ps
are_known c [] all = tt
are_known c (p ∷ ps) all =
    let parts = and_parts (takes c p) (list_all (takes c) ps) all in
    let front = and_parts (list_any (λ known. bytes_eq p.0 known) (options_of c) && not (is_option p.1)) (fits p) parts.0 in
    let two = and_parts (list_any (λ known. bytes_eq p.0 known) (options_of c)) (not (is_option p.1)) front.0 in
    (known_among p.0 (options_of c) (options_known c) two.0, not_true (is_option p.1) two.1, are_known c ps parts.1)

-- words that are pairs are the words of those
spelled_are : (ws : List Word) (ps : List Pair) → pairs_of ws ≡ Some ps → ws ≡ spelled ps
spelled_are [] ps are = let empty : [] ≡ ps = some_pairs [] ps are in ap spelled empty
spelled_are (o ∷ []) ps are = cc
spelled_are (o ∷ v ∷ rest) ps are =
    let at = pairs_behind o v rest ps are in
    ap (λ ws. o ∷ v ∷ ws) (spelled_are rest at.0 at.1) ∙ ap spelled (sym at.2)

-- the pairs of words that are a command
parted_from : (name : Word) (rest : List Word) (c : Command) (ps : List Pair) → parted (name ∷ rest) ≡ Some (c, ps)
    → (pairs_of rest ≡ Some ps) × (are_of c ps ≡ true)
parted_from name rest c ps are = named (command_named name) refl where
  some_parts : (x y : Command × List Pair) → Some x ≡ Some y → x ≡ y
  some_parts x y same = cc

  both : Command → List Pair → Command × List Pair
  both d qs = (d, qs)

  judged : (d : Command) → command_named name ≡ Some d → (qs : List Pair) → pairs_of rest ≡ Some qs → (b : Bool) → are_of d qs ≡ b
      → (pairs_of rest ≡ Some ps) × (are_of c ps ≡ true)
  judged d e qs is false judge = let no : None ≡ Some (both c ps) = rw (e, is, judge) at are in cc
  judged d e qs is true judge =
      let same : Some (both d qs) ≡ Some (both c ps) = rw (e, is, judge) at are in
      let parts = some_parts (both d qs) (both c ps) same in
      (is ∙ ap (λ (x : Command × List Pair). Some x.1) parts, sym (ap (λ (x : Command × List Pair). are_of x.0 x.1) parts) ∙ judge)

  paired : (d : Command) → command_named name ≡ Some d → (x : Option (List Pair)) → pairs_of rest ≡ x
      → (pairs_of rest ≡ Some ps) × (are_of c ps ≡ true)
  paired d e None is = let no : None ≡ Some (both c ps) = rw (e, is) at are in cc
  paired d e (Some qs) is = judged d e qs is (are_of d qs) refl

  named : (x : Option Command) → command_named name ≡ x → (pairs_of rest ≡ Some ps) × (are_of c ps ≡ true)
  named None e = let no : None ≡ Some (both c ps) = rw e at are in cc
  named (Some d) e = paired d e (pairs_of rest) refl

-- what `clap` finds in words that are a command
pub has_values : (f : Found) (words : List Word) (c : Command) (ps : List Pair) → rows_of f ≡ matches_of reader words
    → parted words ≡ Some (c, ps) → HasValues f ps
has_values f [] c ps found are = cc
has_values f (name ∷ rest) c ps found are =
    let it = parted_from name rest c ps are in
    let judged = and_parts (list_all (takes c) ps && stand_once ps) (list_all (λ option. stands option ps) (needed_of c)) it.1 in
    let front = and_parts (list_all (takes c) ps) (stand_once ps) judged.0 in
    let known = are_known c ps front.0 in
    let rows : rows_of f ≡ rows_after rules [] (spelled ps) = found ∙ ap (rows_after rules []) (spelled_are rest ps it.0) in
    let value : (o default : Word) → IsKnown o → ((x : Option Pair) → IsGiven o default x)
    → first_value f (drop 2 o) ≡ Some (given o default ps) =
    λ o default is_known is. first_value-rows f (drop 2 o) ∙ ap (first_of (drop 2 o)) rows
    ∙ value_found o default is_known is ps known front.1 in
    record {
      journal = value (codes "--journal") [] (inl refl)
          (either (IsGiven (codes "--journal") []) refl (λ p. refl));
      manager = value (codes "--manager") (codes "0") (inr (inl refl))
          (either (IsGiven (codes "--manager") (codes "0")) refl (λ p. refl));
      role = value (codes "--role") (codes "orchestrator") (inr (inr (inl refl)))
          (either (IsGiven (codes "--role") (codes "orchestrator")) refl (λ p. refl));
      rounds = value (codes "--rounds") [] (inr (inr (inr (inl refl))))
          (either (IsGiven (codes "--rounds") []) refl (λ p. refl));
      orchestrator = value (codes "--orchestrator") [] (inr (inr (inr (inr (inl refl)))))
          (either (IsGiven (codes "--orchestrator") []) refl (λ p. refl));
      vim = value (codes "--vim") [] (inr (inr (inr (inr (inr (inl refl))))))
          (either (IsGiven (codes "--vim") []) refl (λ p. refl));
      to = value (codes "--to") [] (inr (inr (inr (inr (inr (inr (inl refl)))))))
          (either (IsGiven (codes "--to") []) refl (λ p. refl));
      listen = value (codes "--listen") [] (inr (inr (inr (inr (inr (inr (inr (inl refl))))))))
          (either (IsGiven (codes "--listen") []) refl (λ p. refl));
      em_listen = value (codes "--em-listen") [] (inr (inr (inr (inr (inr (inr (inr (inr (inl refl)))))))))
          (either (IsGiven (codes "--em-listen") []) refl (λ p. refl));
      start = value (codes "--start") (codes "0") (inr (inr (inr (inr (inr (inr (inr (inr (inr (inl refl))))))))))
          (either (IsGiven (codes "--start") (codes "0")) refl (λ p. refl));
      count = value (codes "--count") (codes "0") (inr (inr (inr (inr (inr (inr (inr (inr (inr (inr refl))))))))))
          (either (IsGiven (codes "--count") (codes "0")) refl (λ p. refl));
    }
