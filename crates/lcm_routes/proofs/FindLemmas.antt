-- A walk over rows that hold texts, identifiers and slashes, in the words of a path's segments.
use Rattle.std.proofs.Common.{◌≡◌, ◌≢◌, ◌⊎◌, inl, inr, ℕ, suc, ◌-◌, ◌<◌, ◌≤◌, List, [], ◌∷◌, ◌++◌, length, drop, Option, Some, None, Bool}
use Rattle.std.proofs.Common.{true, false, cond, refl, sym, ap, ◌∙◌, subst, arith, nat_eq, ◌==◌, ltb, ◌&&◌, ◌||◌, not, append-nil}
use Rattle.std.proofs.Common.{length-append}
use Rattle.std.proofs.lemmas.Bool.Decides.{nat_tests}
use Rattle.std.specs.List.{onto_first, ends_with, join_with_byte}
use Rattle.std.specs.Cmp.Lexicographic.{bytes_decides}
use Rattle.std.proofs.lemmas.List.Splits.{join_with_byte-slice_split}
use Rattle.std.specs.Str.{bytes_eq}
use Rattle.matchit.specs.Rows.{Rows, Seen, rows_of, empty_node, prepend, ends, param_token, catch_all_token}
use Rattle.matchit.specs.Level.{IsText, AreSuffixes, AllSegment}
use Rattle.matchit.specs.Seek.{own, step, or_else, seek, first, param_step, has_slash, segment, cuts, longest_from, longest_suffix}
use Rattle.matchit.specs.Seek.{after_param}
use Rattle.matchit.specs.Router.{map_key, rename}
use Rattle.matchit.proofs.SeekLemmas.{own-append, step-append, own-prepend, step-hit, step-miss, step-ends, own-ends, or_else-none}
use Rattle.matchit.proofs.SeekLemmas.{param_step-empty, seek-empty, seek-lit, prepend-nil}
use Rattle.matchit.proofs.ParamLemmas.{after_param-end, after_param-stop, after_param-kid, one_less}
use Rattle.matchit.proofs.RenameLemmas.{or_else-rename}
use Rattle.lcm_routes.specs.declared.resources.Resource.{Resource}
use Rattle.lcm_routes.specs.Paths.{Names, Collection, named, below, among}
use Rattle.lcm_routes.specs.Targets.{is_slash, segments}

-- ---- rows that begin with texts

-- the row begins with a byte
abbrev pub starts_plain : List ℕ → Bool
starts_plain [] = true
starts_plain (x ∷ t) = ltb x 256

-- all rows begin with a byte, or end
abbrev pub all_start_plain : Rows → Bool
all_start_plain [] = true
all_start_plain ((t, k) ∷ r) = starts_plain t && all_start_plain r

and-left : (a b : Bool) → (a && b) ≡ true → a ≡ true
and-left true b e = refl
and-left false b e = e

and-right : (a b : Bool) → (a && b) ≡ true → b ≡ true
and-right true b e = e
and-right false b e = cc

-- such rows have no step by a token that is no byte
pub step-plain : (token : ℕ) (r : Rows) → 256 ≤ token → all_start_plain r ≡ true → step token r ≡ []
step-plain token [] l h = refl
step-plain token (([], k) ∷ r) l h = step-plain token r l h
step-plain token ((x ∷ t, k) ∷ r) l h =
    let low : ltb x 256 ≡ true = and-left (ltb x 256) (all_start_plain r) h in
    let e : (x == token) ≡ false = grind (arith, nat_tests) in
    rw e (step-plain token r l (and-right (ltb x 256) (all_start_plain r) h))

-- so a walk over them takes the path's next byte
pub seek-plain : (r : Rows) (b : ℕ) (p : List ℕ) → all_start_plain r ≡ true → first r (b ∷ p) ≡ first (step b r) p
unfolding seek
seek-plain r b p h =
    simp (
      step-plain param_token r (omega arith) h,
      step-plain catch_all_token r (omega arith) h,
      param_step-empty (b ∷ p),
      seek-empty ((param_step {K = ℕ} [] (b ∷ p)).0 - 1) p,
      or_else-none,
    )

-- ---- rows of texts alone: a look-up

-- all of the tokens are bytes
abbrev pub is_plain : List ℕ → Bool
is_plain [] = true
is_plain (x ∷ t) = ltb x 256 && is_plain t

abbrev pub all_plain : Rows → Bool
all_plain [] = true
all_plain ((t, k) ∷ r) = is_plain t && all_plain r

pub all_plain-start : (r : Rows) → all_plain r ≡ true → all_start_plain r ≡ true
all_plain-start [] h = refl
all_plain-start (([], k) ∷ r) h = all_plain-start r h
all_plain-start ((x ∷ t, k) ∷ r) h =
    rw (and-left (ltb x 256) (is_plain t) (and-left (ltb x 256 && is_plain t) (all_plain r) h))
    (all_plain-start r (and-right (ltb x 256 && is_plain t) (all_plain r) h))

pub all_plain-step : (b : ℕ) (r : Rows) → all_plain r ≡ true → all_plain (step b r) ≡ true
all_plain-step b [] h = refl
all_plain-step b (([], k) ∷ r) h = all_plain-step b r h
all_plain-step b ((x ∷ t, k) ∷ r) h =
    let rest = all_plain-step b r (and-right (ltb x 256 && is_plain t) (all_plain r) h) in
    let tail = and-right (ltb x 256) (is_plain t) (and-left (ltb x 256 && is_plain t) (all_plain r) h) in
    elim (x == b) as (λ v. all_plain (cond v ((t, k) ∷ step b r) (step b r)) ≡ true) [
      | true ↦ rw tail rest
      | false ↦ rest
    ]

-- the key of the first row with this text
abbrev pub look : Rows → List ℕ → Option ℕ
look [] text = None
look ((t, k) ∷ r) text = cond (bytes_eq text t) (Some k) (look r text)

own-look : (r : Rows) → own r ≡ look r []
own-look [] = refl
own-look (([], k) ∷ r) = refl
own-look ((x ∷ t, k) ∷ r) = own-look r

look-step : (b : ℕ) (p : List ℕ) (r : Rows) → look (step b r) p ≡ look r (b ∷ p)
look-step b p [] = refl
look-step b p (([], k) ∷ r) = look-step b p r
look-step b p ((x ∷ t, k) ∷ r) = by (x == b) refl (look-step b p r)
  where
    by : (v : Bool) → (x == b) ≡ v → look (step b r) p ≡ look r (b ∷ p)
        → look (cond (x == b) ((t, k) ∷ step b r) (step b r)) p ≡ look ((x ∷ t, k) ∷ r) (b ∷ p)
    by true e ih =
        let f : nat_eq b x ≡ true = grind (arith, nat_tests) in
        rw (e, f) (ap (cond (bytes_eq p t) (Some k)) ih)
    by false e ih =
        let f : nat_eq b x ≡ false = grind (arith, nat_tests) in
        rw (e, f) ih

pub first-look : (r : Rows) (path : List ℕ) → all_plain r ≡ true → first r path ≡ look r path
unfolding seek
first-look r [] h = own-look r
first-look r (b ∷ p) h =
    seek-plain r b p (all_plain-start r h) ∙ first-look (step b r) p (all_plain-step b r h) ∙ look-step b p r

-- ---- rows that part from a text

-- the row has another byte than this text at a place of both
abbrev pub is_apart : List ℕ → List ℕ → Bool
is_apart [] t = false
is_apart (x ∷ a) [] = false
is_apart (x ∷ a) (y ∷ t) = ltb y 256 && (not (x == y) || is_apart a t)

abbrev pub all_apart : List ℕ → Rows → Bool
all_apart a [] = true
all_apart a ((t, k) ∷ r) = is_apart a t && all_apart a r

apart-none : (r : Rows) → all_apart [] r ≡ true → r ≡ []
apart-none [] h = refl
apart-none ((t, k) ∷ r) h = cc

apart-start : (a : List ℕ) (r : Rows) → all_apart a r ≡ true → all_start_plain r ≡ true
apart-start a [] h = refl
apart-start a (([], k) ∷ r) h = apart-start a r (and-right (is_apart a []) (all_apart a r) h)
apart-start [] ((y ∷ t, k) ∷ r) h = cc
apart-start (x ∷ a) ((y ∷ t, k) ∷ r) h =
    rw (and-left (ltb y 256) (not (x == y) || is_apart a t) (and-left (is_apart (x ∷ a) (y ∷ t)) (all_apart (x ∷ a) r) h))
    (apart-start (x ∷ a) r (and-right (is_apart (x ∷ a) (y ∷ t)) (all_apart (x ∷ a) r) h))

apart-own : (a : List ℕ) (r : Rows) → all_apart a r ≡ true → own r ≡ None
apart-own a [] h = refl
apart-own [] (([], k) ∷ r) h = cc
apart-own (x ∷ a) (([], k) ∷ r) h = cc
apart-own a ((y ∷ t, k) ∷ r) h = apart-own a r (and-right (is_apart a (y ∷ t)) (all_apart a r) h)

apart-step : (x : ℕ) (a : List ℕ) (r : Rows) → all_apart (x ∷ a) r ≡ true → all_apart a (step x r) ≡ true
apart-step x a [] h = refl
apart-step x a (([], k) ∷ r) h = cc
apart-step x a ((y ∷ t, k) ∷ r) h = by (y == x) refl (apart-step x a r (and-right (is_apart (x ∷ a) (y ∷ t)) (all_apart (x ∷ a) r) h))
  where
    by : (v : Bool) → (y == x) ≡ v → all_apart a (step x r) ≡ true → all_apart a (cond (y == x) ((t, k) ∷ step x r) (step x r)) ≡ true
    by true e ih =
        let f : (x == y) ≡ true = grind (arith, nat_tests) in
        let here = and-right (ltb y 256) (not (x == y) || is_apart a t) (and-left (is_apart (x ∷ a) (y ∷ t)) (all_apart (x ∷ a) r) h) in
        let under : is_apart a t ≡ true = rw f at here in
        rw (e, under) ih
    by false e ih = rw e ih

prepend-start : (x : ℕ) (a : List ℕ) (r : Rows) → x < 256 → all_start_plain (prepend (x ∷ a) r) ≡ true
prepend-start x a [] l = refl
prepend-start x a ((t, k) ∷ r) l =
    let low : ltb x 256 ≡ true = grind (arith, nat_tests) in
    rw low (prepend-start x a r l)

append-start : (r s : Rows) → all_start_plain r ≡ true → all_start_plain s ≡ true → all_start_plain (r ++ s) ≡ true
append-start [] s h i = i
append-start ((t, k) ∷ r) s h i =
    rw (and-left (starts_plain t) (all_start_plain r) h) (append-start r s (and-right (starts_plain t) (all_start_plain r) h) i)

-- a walk over the rows behind a text, and over rows that part from it
pub first-apart : (a : List ℕ) (x y : Rows) (path : List ℕ) → is_plain a ≡ true → all_apart a y ≡ true
    → first (prepend a x ++ y) path ≡ or_else (first (prepend a x) path) (first y path)
unfolding seek
first-apart [] x y path h i = rw (apart-none y i, append-nil (prepend [] x), seek-empty 0 path)
    (sym (or_else-none (first (prepend [] x) path)))
first-apart (c ∷ a) x y [] h i = own-append (prepend (c ∷ a) x) y
first-apart (c ∷ a) x y (b ∷ p) h i =
    let low = and-left (ltb c 256) (is_plain a) h in
    let below : c < 256 = grind (arith, nat_tests) in
    let front = prepend-start c a x below in
    let back = apart-start (c ∷ a) y i in
    seek-plain (prepend (c ∷ a) x ++ y) b p (append-start (prepend (c ∷ a) x) y front back)
    ∙ ap (λ r. first r p) (step-append b (prepend (c ∷ a) x) y)
    ∙ by (c == b) refl (first-apart a x (step b y) p (and-right (ltb c 256) (is_plain a) h))
    ∙ sym (ap (λ v. or_else v (first y (b ∷ p))) (seek-plain (prepend (c ∷ a) x) b p front)
    ∙ ap (or_else (first (step b (prepend (c ∷ a) x)) p)) (seek-plain y b p back))
  where
    by : (v : Bool) → (c == b) ≡ v
        → (all_apart a (step b y) ≡ true → first (prepend a x ++ step b y) p ≡ or_else (first (prepend a x) p) (first (step b y) p))
        → first (step b (prepend (c ∷ a) x) ++ step b y) p ≡ or_else (first (step b (prepend (c ∷ a) x)) p) (first (step b y) p)
    by true e ih =
        let same : c ≡ b = grind (arith, nat_tests) in
        let apart : all_apart a (step b y) ≡ true = subst (λ z. all_apart a (step z y) ≡ true) same (apart-step c a y i) in
        let hit : step b (prepend (c ∷ a) x) ≡ prepend a x = subst (λ z. step z (prepend (c ∷ a) x) ≡ prepend a x) same (step-hit c a x) in
        rw hit (ih apart)
    by false e ih =
        let n : c ≢ b = λ q. grind (arith, nat_tests) in
        rw (step-miss b c a x n, seek-empty 0 p) refl

-- ---- the segments of a path

-- a path has a segment
pub segments-some : (p : List ℕ) → 0 < length (segments p)
segments-some [] = omega arith
segments-some (b ∷ p) = by (is_slash b) (segments p)
  where
    by : (v : Bool) (l : List (List ℕ)) → 0 < length (cond v ([] ∷ l) (onto_first b l))
    by true l = omega arith
    by false [] = omega arith
    by false (s ∷ l) = omega arith

-- a path is one segment without a slash, or a segment, a slash and a path
abbrev pub Cut : List ℕ → Type 0
Cut p =
    ((has_slash p ≡ false) × (segment p ≡ p) × (segments p ≡ p ∷ []))
    ⊎ ((before : List ℕ) × (after : List ℕ) × (p ≡ before ++ (47 ∷ after)) × (segment p ≡ before ++ (47 ∷ [])) × (has_slash p ≡ true)
    × (segments p ≡ before ∷ segments after))

pub cut : (p : List ℕ) → Cut p
cut [] = inl (refl, refl, refl)
cut (b ∷ p) = by (b == 47) refl (cut p)
  where
    by : (v : Bool) → (b == 47) ≡ v → Cut p → Cut (b ∷ p)
    by true e c =
        let same : b ≡ 47 = grind (arith, nat_tests) in
        inr ([], p, ap (λ z. z ∷ p) same, rw e (ap (λ z. z ∷ []) same), rw e refl, rw e refl)
    by false e (inl c) = inl (rw e c.0, rw e (ap (λ z. b ∷ z) c.1), rw (e, c.2) refl)
    by false e (inr c) = inr (b ∷ c.0, c.1, ap (λ z. b ∷ z) c.2, rw e (ap (λ z. b ∷ z) c.3), rw e c.4, rw (e, c.5) refl)

-- ---- names without a slash

-- no name of the table has a slash
abbrev pub Slashless : Names → Type 0
Slashless [] = Unit {0}
Slashless ((name, resource) ∷ rest) = (segments name ≡ name ∷ []) × Slashless rest

named-slash : (names : Names) (text : List ℕ) → Slashless names → 1 < length (segments text) → named names text ≡ None
named-slash [] text h l = refl
named-slash ((name, resource) ∷ rest) text h l = by (bytes_eq text name) refl (named-slash rest text h.1 l)
  where
    by : (v : Bool) → bytes_eq text name ≡ v → named rest text ≡ None → cond (bytes_eq text name) (Some resource) (named rest text) ≡ None
    by true e ih =
        let same : text ≡ name = (bytes_decides text name).0 e in
        let one : segments text ≡ name ∷ [] = ap segments same ∙ h.0 in
        absurd (omega (arith, ap length one))
    by false e ih = rw e ih

-- what stands under an item is one of its tasks
pub below-task : (c : Collection) (byte : ℕ) (id after : List ℕ) → Slashless c.tasks
    → below c ((byte ∷ id) ∷ segments after) ≡ named c.tasks after
below-task c byte id after h = by (segments after) refl
  where
    by : (l : List (List ℕ)) → segments after ≡ l → below c ((byte ∷ id) ∷ segments after) ≡ named c.tasks after
    by [] e = absurd (omega (arith, segments-some after, ap length e))
    by (t ∷ []) e =
        let whole : t ≡ after = sym (ap (join_with_byte 47) e) ∙ join_with_byte-slice_split 47 after in
        rw e (ap (named c.tasks) whole)
    by (t ∷ u ∷ more) e = rw e (sym (named-slash c.tasks after h (omega (arith, ap length e))))

module _ (g : ℕ → Resource) where
  -- the rows of names are their table
  pub named-look : (r : Rows) (text : List ℕ) → map_key g (look r text) ≡ named (rename g r) text
  named-look [] text = refl
  named-look ((t, k) ∷ r) text = by (bytes_eq text t) (named-look r text)
    where
      by : (v : Bool) → map_key g (look r text) ≡ named (rename g r) text
          → map_key g (cond v (Some k) (look r text)) ≡ cond v (Some (g k)) (named (rename g r) text)
      by true ih = refl
      by false ih = ih

-- ---- an identifier in front

no-byte : (b x : ℕ) → b < x → x ≢ b
no-byte b x l e = omega arith

byte-below : (x b : ℕ) → x < b → x ≢ b
byte-below x b l e = omega arith

-- a walk over rows with a parameter in front goes on after it
pub first-param : (r : Rows) (b : ℕ) (p : List ℕ) → b < 256 → first (prepend (256 ∷ []) r) (b ∷ p) ≡ after_param r (b ∷ p)
unfolding seek
first-param r b p l =
    rw (
      step-miss b 256 [] r (no-byte b 256 l),
      step-hit 256 [] r,
      prepend-nil r,
      step-miss 257 256 [] r (byte-below 256 257 (omega arith)),
      seek-empty 0 p,
    ) (or_else-none _)

-- the suffixes of rows that begin with a slash
abbrev pub suffixes : Rows → List Seen
suffixes [] = []
suffixes (x ∷ r) = record { prefix = 47 ∷ []; tails = x ∷ r; height = 0 } ∷ []

rows-suffixes : (r : Rows) → rows_of (suffixes r) ≡ prepend (47 ∷ []) r
rows-suffixes [] = refl
rows-suffixes (x ∷ r) = append-nil (prepend (47 ∷ []) (x ∷ r))

slash-segment : (r : Rows) → AllSegment (47 ∷ []) (prepend (47 ∷ []) r)
slash-segment [] = tt
slash-segment ((t, k) ∷ r) = (refl, slash-segment r)

are-suffixes : (r : Rows) → AreSuffixes (suffixes r)
are-suffixes [] = tt
are-suffixes ((t, k) ∷ r) = (
  record { some_prefix = omega arith; some_rows = omega arith; all_segment = slash-segment ((t, k) ∷ r) },
  tt,
  tt,
)

longest-none : (seg : List ℕ) (r : Rows) → cuts seg (47 ∷ []) ≡ false → longest_suffix seg (prepend (47 ∷ []) r) ≡ []
longest-none seg [] h = refl
longest-none seg ((t, k) ∷ r) h = ap (λ v. longest_from seg (cond v (47 ∷ []) []) (prepend (47 ∷ []) r)) h ∙ longest-none seg r h

longest-kept : (seg : List ℕ) (r : Rows) → longest_from seg (47 ∷ []) (prepend (47 ∷ []) r) ≡ 47 ∷ []
longest-kept seg [] = refl
longest-kept seg ((t, k) ∷ r) = longest-kept seg r

longest-slash : (seg t : List ℕ) (k : ℕ) (r : Rows) → cuts seg (47 ∷ []) ≡ true
    → longest_suffix seg (prepend (47 ∷ []) ((t, k) ∷ r)) ≡ 47 ∷ []
longest-slash seg t k r h = ap (λ v. longest_from seg (cond v (47 ∷ []) []) (prepend (47 ∷ []) r)) h ∙ longest-kept seg r

ends-cons : (x y : ℕ) (q : List ℕ) → ends_with nat_eq (x ∷ y ∷ q) (47 ∷ []) ≡ ends_with nat_eq (y ∷ q) (47 ∷ [])
ends-cons x y q = rw (one_less (suc (length q)), one_less (length q)) refl

ends-none : (x : ℕ) (q : List ℕ) → has_slash (x ∷ q) ≡ false → ends_with nat_eq (x ∷ q) (47 ∷ []) ≡ false
ends-none x [] h = by (x == 47) refl
  where
    by : (v : Bool) → (x == 47) ≡ v → (nat_eq 47 x && true) ≡ false
    by true e = let f : cond (x == 47) true false ≡ true = rw e refl in cc
    by false e = let f : nat_eq 47 x ≡ false = grind (arith, nat_tests) in rw f refl
ends-none x (y ∷ q) h = ends-cons x y q ∙ ends-none y q (by (x == 47) refl)
  where
    by : (v : Bool) → (x == 47) ≡ v → has_slash (y ∷ q) ≡ false
    by true e = let f : has_slash (x ∷ y ∷ q) ≡ true = rw e refl in cc
    by false e = let f : has_slash (x ∷ y ∷ q) ≡ has_slash (y ∷ q) = rw e refl in sym f ∙ h

ends-slash : (x : ℕ) (q : List ℕ) → ends_with nat_eq (x ∷ (q ++ (47 ∷ []))) (47 ∷ []) ≡ true
ends-slash x [] = refl
ends-slash x (y ∷ q) = ends-cons x y (q ++ (47 ∷ [])) ∙ ends-slash y q

drop-before : (before after : List ℕ) → drop (length before) (before ++ after) ≡ after
drop-before [] after = refl
drop-before (x ∷ before) after = drop-before before after

and-false : (a : Bool) → (a && false) ≡ false
and-false true = refl
and-false false = refl

and-true : (a b : Bool) → a ≡ true → b ≡ true → (a && b) ≡ true
and-true a b e f = rw (e, f) refl

module _ (g : ℕ → Resource) (c : Collection) (v : ℕ) (whole : g v ≡ c.item) where
  -- after an identifier stands nothing, or a slash and one of the names
  after-cut : (r : Rows) (b : ℕ) (p : List ℕ) → all_plain r ≡ true → rename g r ≡ c.tasks → Slashless c.tasks → (b == 47) ≡ false → Cut p
      → map_key g (after_param (rows_of (suffixes r) ++ ends (Some v)) (b ∷ p)) ≡ below c (segments (b ∷ p))
  after-cut r b p h names free other (inl cutting) =
      let slashless : has_slash (b ∷ p) ≡ false = rw (other, cutting.0) refl in
      let seg : segment (b ∷ p) ≡ b ∷ p = rw other (ap (λ z. b ∷ z) cutting.1) in
      let no : cuts (segment (b ∷ p)) (47 ∷ []) ≡ false = ap (λ z. cuts z (47 ∷ [])) seg
      ∙ ap (λ z. ltb 1 (length (b ∷ p)) && z) (ends-none b p slashless) ∙ and-false (ltb 1 (length (b ∷ p))) in
      let none : longest_suffix (segment (b ∷ p)) (rows_of (suffixes r)) ≡ [] =
      ap (longest_suffix (segment (b ∷ p))) (rows-suffixes r) ∙ longest-none (segment (b ∷ p)) r no in
      let parts : segments (b ∷ p) ≡ (b ∷ p) ∷ [] = rw (other, cutting.2) refl in
      ap (map_key g) (after_param-end (suffixes r) (Some v) b p (are-suffixes r) none slashless) ∙ ap Some whole ∙ sym (ap (below c) parts)
  after-cut [] b p h names free other (inr (before, after, is, seg, slashed, cutting)) =
      let slash : has_slash (b ∷ p) ≡ true = rw (other, slashed) refl in
      let parts : segments (b ∷ p) ≡ (b ∷ before) ∷ segments after = rw (other, cutting) refl in
      ap (map_key g) (after_param-stop [] (Some v) b p refl slash) ∙ ap (λ t. named t after) names ∙ sym (below-task c b before after free)
      ∙ sym (ap (below c) parts)
  after-cut ((t, k) ∷ r) b p h names free other (inr (before, after, is, seg, slashed, cutting)) =
      let full : segment (b ∷ p) ≡ b ∷ (before ++ (47 ∷ [])) = rw other (ap (λ z. b ∷ z) seg) in
      let long : ltb 1 (length (b ∷ (before ++ (47 ∷ [])))) ≡ true = grind (arith, nat_tests, length-append before (47 ∷ [])) in
      let yes : cuts (segment (b ∷ p)) (47 ∷ []) ≡ true = ap (λ z. cuts z (47 ∷ [])) full
      ∙ and-true (ltb 1 (length (b ∷ (before ++ (47 ∷ []))))) _ long (ends-slash b before) in
      let found : longest_suffix (segment (b ∷ p)) (rows_of (suffixes ((t, k) ∷ r))) ≡ 47 ∷ [] =
      ap (longest_suffix (segment (b ∷ p))) (rows-suffixes ((t, k) ∷ r)) ∙ longest-slash (segment (b ∷ p)) t k r yes in
      let taken : length (segment (b ∷ p)) - 1 ≡ suc (length before) = omega (arith, ap length full, length-append before (47 ∷ [])) in
      let left : drop (length (segment (b ∷ p)) - 1) (b ∷ p) ≡ 47 ∷ after =
      ap (λ n. drop n (b ∷ p)) taken ∙ ap (drop (length before)) is ∙ drop-before before (47 ∷ after) in
      let parts : segments (b ∷ p) ≡ (b ∷ before) ∷ segments after = rw (other, cutting) refl in
      let walked : first (prepend (47 ∷ []) ((t, k) ∷ r)) (47 ∷ after) ≡ look ((t, k) ∷ r) after =
      seek-plain (prepend (47 ∷ []) ((t, k) ∷ r)) 47 after (prepend-start 47 [] ((t, k) ∷ r) (omega arith))
      ∙ ap (λ z. first z after) (step-hit 47 [] ((t, k) ∷ r) ∙ prepend-nil ((t, k) ∷ r))
      ∙ first-look ((t, k) ∷ r) after h in
      ap (map_key g) (after_param-kid (suffixes ((t, k) ∷ r)) 0 empty_node (Some v) b p (are-suffixes ((t, k) ∷ r)) (omega arith)
      (sym found) ∙ ap (first (prepend (47 ∷ []) ((t, k) ∷ r))) left ∙ walked)
      ∙ named-look g ((t, k) ∷ r) after
      ∙ ap (λ z. named z after) names
      ∙ sym (below-task c b before after free)
      ∙ sym (ap (below c) parts)

  -- a walk over an item's rows gives what the segments behind its collection stand for
  pub first-item : (r : Rows) (path : List ℕ) → all_plain r ≡ true → rename g r ≡ c.tasks → Slashless c.tasks → IsText path
      → map_key g (first (prepend (256 ∷ []) (prepend (47 ∷ []) r ++ ends (Some v))) path) ≡ below c (segments path)
  unfolding seek
  first-item r [] h names free text = ap (map_key g) (own-prepend 256 [] (prepend (47 ∷ []) r ++ ends (Some v)))
  first-item r (b ∷ p) h names free text =
      let shown : rows_of (suffixes r) ++ ends (Some v) ≡ prepend (47 ∷ []) r ++ ends (Some v) =
      ap (λ z. z ++ ends (Some v)) (rows-suffixes r) in
      ap (map_key g) (first-param (prepend (47 ∷ []) r ++ ends (Some v)) b p text.0 ∙ sym (ap (λ z. after_param z (b ∷ p)) shown))
      ∙ by (b == 47) refl
    where
      by : (w : Bool) → (b == 47) ≡ w → map_key g (after_param (rows_of (suffixes r) ++ ends (Some v)) (b ∷ p)) ≡ below c (segments (b ∷ p))
      by true e =
          let slash : has_slash (b ∷ p) ≡ true = rw e refl in
          let seg : segment (b ∷ p) ≡ b ∷ [] = rw e refl in
          let no : cuts (segment (b ∷ p)) (47 ∷ []) ≡ false = ap (λ z. cuts z (47 ∷ [])) seg in
          let none : longest_suffix (segment (b ∷ p)) (rows_of (suffixes r)) ≡ [] =
          ap (longest_suffix (segment (b ∷ p))) (rows-suffixes r) ∙ longest-none (segment (b ∷ p)) r no in
          let parts : segments (b ∷ p) ≡ [] ∷ segments p = rw e refl in
          ap (map_key g) (after_param-stop (suffixes r) (Some v) b p none slash) ∙ sym (ap (below c) parts)
      by false e = after-cut r b p h names free e (cut p)

-- ---- a name in front

-- the text is a name: bytes that are no slash
abbrev pub is_name : List ℕ → Bool
is_name [] = true
is_name (x ∷ t) = ltb x 256 && (not (x == 47) && is_name t)

-- what the segments stand for where the first is this name
abbrev pub at_name : List ℕ → (List (List ℕ) → Option Resource) → List (List ℕ) → Option Resource
at_name name f [] = None
at_name name f (s ∷ rest) = cond (bytes_eq s name) (f rest) None

ends-start : (v : Option ℕ) → all_start_plain (ends v) ≡ true
ends-start None = refl
ends-start (Some k) = refl

onto-empty : (b : ℕ) (l : List (List ℕ)) (f : List (List ℕ) → Option Resource) → at_name [] f (onto_first b l) ≡ None
onto-empty b [] f = refl
onto-empty b (s ∷ l) f = refl

onto-other : (b x : ℕ) (w : List ℕ) (l : List (List ℕ)) (f : List (List ℕ) → Option Resource) → x ≢ b
    → at_name (x ∷ w) f (onto_first b l) ≡ None
onto-other b x w [] f n =
    let e : nat_eq b x ≡ false = grind (arith, nat_tests) in
    rw e refl
onto-other b x w (s ∷ l) f n =
    let e : nat_eq b x ≡ false = grind (arith, nat_tests) in
    rw e refl

onto-same : (x : ℕ) (w : List ℕ) (l : List (List ℕ)) (f : List (List ℕ) → Option Resource) → 0 < length l
    → at_name (x ∷ w) f (onto_first x l) ≡ at_name w f l
onto-same x w [] f n = absurd (omega arith)
onto-same x w (s ∷ l) f n =
    let e : nat_eq x x ≡ true = grind (arith, nat_tests) in
    rw e refl

module _ (g : ℕ → Resource) (f : List (List ℕ) → Option Resource) (x : Rows) (v : Option ℕ) (own_end : map_key g v ≡ f [])
    (under_slash : (more : List ℕ) → IsText more → map_key g (first x more) ≡ f (segments more)) where
  own-behind : own (prepend (47 ∷ []) x ++ ends v) ≡ v
  own-behind = own-append (prepend (47 ∷ []) x) (ends v) ∙ ap (λ z. or_else z (own (ends v))) (own-prepend 47 [] x) ∙ own-ends v

  step-behind : (b : ℕ) → step b (prepend (47 ∷ []) x ++ ends v) ≡ step b (prepend (47 ∷ []) x)
  step-behind b = step-append b (prepend (47 ∷ []) x) (ends v) ∙ ap (λ z. step b (prepend (47 ∷ []) x) ++ z) (step-ends b v)
      ∙ append-nil (step b (prepend (47 ∷ []) x))

  -- a walk behind a whole name
  first-behind : (tail : List ℕ) → IsText tail → map_key g (first (prepend (47 ∷ []) x ++ ends v) tail) ≡ at_name [] f (segments tail)
  unfolding seek
  first-behind [] text = ap (map_key g) own-behind ∙ own_end
  first-behind (b ∷ p) text =
      ap (map_key g) (seek-plain (prepend (47 ∷ []) x ++ ends v) b p
      (append-start (prepend (47 ∷ []) x) (ends v) (prepend-start 47 [] x (omega arith)) (ends-start v))
      ∙ ap (λ z. first z p) (step-behind b))
      ∙ by (b == 47) refl
    where
      by : (w : Bool) → (b == 47) ≡ w → map_key g (first (step b (prepend (47 ∷ []) x)) p) ≡ at_name [] f (segments (b ∷ p))
      by true e =
          let same : 47 ≡ b = grind (arith, nat_tests) in
          let hit : step b (prepend (47 ∷ []) x) ≡ x = subst (λ z. step z (prepend (47 ∷ []) x) ≡ x) same
          (step-hit 47 [] x ∙ prepend-nil x) in
          let parts : segments (b ∷ p) ≡ [] ∷ segments p = rw e refl in
          ap (λ z. map_key g (first z p)) hit ∙ under_slash p text.1 ∙ sym (ap (at_name [] f) parts)
      by false e =
          let n : 47 ≢ b = λ q. grind (arith, nat_tests) in
          let parts : segments (b ∷ p) ≡ onto_first b (segments p) = rw e refl in
          ap (λ z. map_key g (first z p)) (step-miss b 47 [] x n) ∙ ap (map_key g) (seek-empty 0 p)
          ∙ sym (ap (at_name [] f) parts ∙ onto-empty b (segments p) f)

  -- a walk over rows behind a name gives what the segments behind it stand for
  pub first-name : (name tail : List ℕ) → is_name name ≡ true → IsText tail
      → map_key g (first (prepend name (prepend (47 ∷ []) x ++ ends v)) tail) ≡ at_name name f (segments tail)
  unfolding seek
  first-name [] tail h text = ap (λ z. map_key g (first z tail)) (prepend-nil (prepend (47 ∷ []) x ++ ends v)) ∙ first-behind tail text
  first-name (c ∷ name) [] h text = ap (map_key g) (own-prepend c name (prepend (47 ∷ []) x ++ ends v))
  first-name (c ∷ name) (b ∷ p) h text =
      let low : c < 256 = grind (arith, nat_tests, and-left (ltb c 256) (not (c == 47) && is_name name) h) in
      let later = and-right (ltb c 256) (not (c == 47) && is_name name) h in
      ap (map_key g) (seek-lit c name (prepend (47 ∷ []) x ++ ends v) b p low)
      ∙ by (c == b) refl (first-name name p (and-right (not (c == 47)) (is_name name) later) text.1)
      (and-left (not (c == 47)) (is_name name) later)
    where
      by : (w : Bool) → (c == b) ≡ w → map_key g (first (prepend name (prepend (47 ∷ []) x ++ ends v)) p) ≡ at_name name f (segments p)
          → not (c == 47) ≡ true
          → map_key g (first (step b (prepend (c ∷ name) (prepend (47 ∷ []) x ++ ends v))) p) ≡ at_name (c ∷ name) f (segments (b ∷ p))
      by true e ih other =
          let same : c ≡ b = grind (arith, nat_tests) in
          let hit : step b (prepend (c ∷ name) (prepend (47 ∷ []) x ++ ends v)) ≡ prepend name (prepend (47 ∷ []) x ++ ends v) =
          subst (λ z. step z (prepend (c ∷ name) (prepend (47 ∷ []) x ++ ends v)) ≡ prepend name (prepend (47 ∷ []) x ++ ends v)) same
          (step-hit c name (prepend (47 ∷ []) x ++ ends v)) in
          let no : (b == 47) ≡ false = grind (arith, nat_tests) in
          let parts : segments (b ∷ p) ≡ onto_first b (segments p) = rw no refl in
          let more : at_name (c ∷ name) f (onto_first b (segments p)) ≡ at_name name f (segments p) =
          subst (λ z. at_name (c ∷ name) f (onto_first z (segments p)) ≡ at_name name f (segments p)) same
          (onto-same c name (segments p) f (segments-some p)) in
          ap (λ z. map_key g (first z p)) hit ∙ ih ∙ sym (ap (at_name (c ∷ name) f) parts ∙ more)
      by false e ih other =
          let n : c ≢ b = λ q. grind (arith, nat_tests) in
          ap (λ z. map_key g (first z p)) (step-miss b c name (prepend (47 ∷ []) x ++ ends v) n) ∙ ap (map_key g) (seek-empty 0 p)
          ∙ sym (missed (b == 47) refl)
        where
          missed : (w : Bool) → (b == 47) ≡ w → at_name (c ∷ name) f (segments (b ∷ p)) ≡ None
          missed true q = rw q refl
          missed false q =
              let n : c ≢ b = λ z. grind (arith, nat_tests) in
              let parts : segments (b ∷ p) ≡ onto_first b (segments p) = rw q refl in
              ap (at_name (c ∷ name) f) parts ∙ onto-other b c name (segments p) f n

-- ---- the collections

among-empty : (cs : List Collection) → among cs [] ≡ None
among-empty [] = refl
among-empty (c ∷ cs) = refl

or-none : (a : Option Resource) → or_else a None ≡ a
or-none None = refl
or-none (Some r) = refl

-- the first collection of this name, or one of the others, where none of those has the name
pick : (c : Collection) (others : List Collection) (l : List (List ℕ)) → ((rest : List (List ℕ)) → among others (c.name ∷ rest) ≡ None)
    → or_else (at_name c.name (below c) l) (among others l) ≡ among (c ∷ others) l
pick c others [] apart = among-empty others
pick c others (s ∷ rest) apart = by (bytes_eq s c.name) refl
  where
    by : (w : Bool) → bytes_eq s c.name ≡ w → or_else (cond (bytes_eq s c.name) (below c rest) None) (among others (s ∷ rest))
        ≡ cond (bytes_eq s c.name) (below c rest) (among others (s ∷ rest))
    by true e =
        let same : s ≡ c.name = (bytes_decides s c.name).0 e in
        let none : among others (s ∷ rest) ≡ None = ap (λ z. among others (z ∷ rest)) same ∙ apart rest in
        rw (e, none) (or-none (below c rest))
    by false e = rw e refl

pub first-among : (g : ℕ → Resource) (c : Collection) (others : List Collection) (x y : Rows) (tail : List ℕ) → is_plain c.name ≡ true
    → all_apart c.name y ≡ true
    → ((rest : List (List ℕ)) → among others (c.name ∷ rest) ≡ None)
    → map_key g (first (prepend c.name x) tail) ≡ at_name c.name (below c) (segments tail)
    → map_key g (first y tail) ≡ among others (segments tail)
    → map_key g (first (prepend c.name x ++ y) tail) ≡ among (c ∷ others) (segments tail)
first-among g c others x y tail h i apart here there =
    ap (map_key g) (first-apart c.name x y tail h i)
    ∙ sym (or_else-rename g (first (prepend c.name x) tail) (first y tail))
    ∙ ap (λ z. or_else z (map_key g (first y tail))) here
    ∙ ap (or_else (at_name c.name (below c) (segments tail))) there
    ∙ pick c others (segments tail) apart
