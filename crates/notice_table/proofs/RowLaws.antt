-- What a row's marks stand for, after each step.
use Rattle.std.proofs.Common.{◌≡◌, ◌≤◌, ◌<◌, ◌+◌, ◌-◌, ◌++◌, ◌∙◌, ◌||◌, ◌==◌, ℕ, zero, suc, List, [], ◌∷◌, Bool, true, false, cond, refl}
use Rattle.std.proofs.Common.{ap, sym, subst, length, map, max, nat_le, drop, get_or, arith, slice_get}
use Rattle.std.specs.List.{All, list_any}
use Rattle.std.proofs.Math.Nat.{le-max_left, le-max_right, max-le}
use Rattle.std.proofs.Math.Seq.{drop-cons}
use Rattle.std.proofs.lemmas.List.{drop-append-le, length-append, length-drop}
use Rattle.std.proofs.lemmas.List.Elements.{All-cons, All-head, All-map, All-nil, All-tail}
use Rattle.std.proofs.lemmas.Option.{slice_get-get_or, slice_get_past}
use Rattle.lcm_events.specs.declared.events.PostOutcome.{PostOutcome}
use Rattle.lcm_laws.proofs.Lists.{by_test}
use Rattle.lcm_model.specs.Notices.{is_delivered, matches}
use Rattle.lcm_model.specs.Notices as model
use Rattle.lcm_model.specs.Words.{first}
use Rattle.notice_table.specs.Marks.{from_set}
use Rattle.notice_table.specs.Queues.{Queue}
use Rattle.notice_table.specs.Rows.{IsWithin, Row, StartsSet, after_row_post, asked, last_of, longest, marked, plain, row, row_posted}
use Rattle.notice_table.specs.Rows.{with_mark, with_place}
use Rattle.notice_table.specs.Steps.{after_post, heard, posted}
use Rattle.notice_table.specs.declared.queues.QueueRow.{QueueRow}
use Rattle.notice_table.proofs.Lists.{nil_right}

-- ---- the last places
-- the last places, one place later
last_more : (n : ℕ) (places : List ℕ) (place : ℕ) → n ≤ length places
    → last_of (n + 1) (places ++ place ∷ []) ≡ last_of n places ++ place ∷ []
last_more n places place h =
    let both = length-append places (place ∷ []) in
    let same : length (places ++ place ∷ []) - (n + 1) ≡ length places - n = omega (arith, both) in
    ap (λ (k : ℕ). drop k (places ++ place ∷ [])) same ∙ drop-append-le (length places - n) places (place ∷ []) (omega arith)

pub last_length : (n : ℕ) (places : List ℕ) → n ≤ length places → length (last_of n places) ≡ n
last_length n places h = let rest = length-drop (length places - n) places in omega (arith, rest, h)

-- one place more
last_next : (n : ℕ) (places : List ℕ) (d : ℕ) → n < length places
    → last_of (suc n) places ≡ get_or places (length places - suc n) d ∷ last_of n places
last_next n places d h =
    let next : suc (length places - suc n) ≡ length places - n = omega (arith, h) in
    drop-cons places (length places - suc n) d (omega (arith, h)) ∙ ap
    (λ (k : ℕ). get_or places (length places - suc n) d ∷ drop k places) next

nothing_left : {A : Type 0} → (n : ℕ) → drop {A = A} n [] ≡ []
nothing_left zero = refl
nothing_left (suc n) = refl

drop_twice : {A : Type 0} → (i j : ℕ) (xs : List A) → drop j (drop i xs) ≡ drop (i + j) xs
drop_twice zero j xs = let same : 0 + j ≡ j = omega arith in ap (λ (k : ℕ). drop k xs) (sym same)
drop_twice (suc i) j [] = nothing_left j ∙ sym (nothing_left (suc i + j))
drop_twice (suc i) j (x ∷ xs) = let more : suc i + j ≡ suc (i + j) = omega arith in
    drop_twice i j xs ∙ ap (λ (k : ℕ). drop k (x ∷ xs)) (sym more)

-- the last of more of the last
last_within : (n k : ℕ) (places : List ℕ) → n ≤ k → last_of n (last_of k places) ≡ last_of n places
last_within n k places h =
    let rest = length-drop (length places - k) places in
    let same : length places - k + (length (last_of k places) - n) ≡ length places - n = omega (arith, rest, h) in
    drop_twice (length places - k) (length (last_of k places) - n) places ∙ ap (λ (m : ℕ). drop m places) same

-- where there are no more places, all are the last
pub last_all : (n : ℕ) (places : List ℕ) → length places ≤ n → places ≡ last_of n places
last_all n places h = let none : 0 ≡ length places - n = omega (arith, h) in ap (λ (k : ℕ). drop k places) none

-- the last places without the first of more
pub last_drop : (n : ℕ) (places : List ℕ) → n < length places → last_of n (drop 1 places) ≡ last_of n places
last_drop n places h =
    let rest = length-drop 1 places in
    let same : 1 + (length (drop 1 places) - n) ≡ length places - n = omega (arith, rest, h) in
    drop_twice 1 (length (drop 1 places) - n) places ∙ ap (λ (k : ℕ). drop k places) same

-- ---- marks and places
marked_more : (marks : List Bool) (mark : Bool) (places : List ℕ) (place : ℕ) → length marks ≡ length places
    → marked (marks ++ mark ∷ []) (places ++ place ∷ []) ≡ marked marks places ++ cond mark (place ∷ []) []
marked_more [] true [] place e = refl
marked_more [] false [] place e = refl
marked_more [] mark (p ∷ ps) place e = absurd (omega (arith, e))
marked_more (m ∷ ms) mark [] place e = absurd (omega (arith, e))
marked_more (true ∷ ms) mark (p ∷ ps) place e = ap (λ (ns : List ℕ). p ∷ ns) (marked_more ms mark ps place (omega (arith, e)))
marked_more (false ∷ ms) mark (p ∷ ps) place e = marked_more ms mark ps place (omega (arith, e))

one_longer : (marks : List Bool) (mark : Bool) → length (marks ++ mark ∷ []) ≡ length marks + 1
one_longer marks mark = length-append marks (mark ∷ [])

grown : (mark : Bool) (marks : List Bool) (places : List ℕ) (place : ℕ) → length marks ≤ length places
    → marked (marks ++ mark ∷ []) (last_of (length (marks ++ mark ∷ [])) (places ++ place ∷ []))
    ≡ marked marks (last_of (length marks) places) ++ cond mark (place ∷ []) []
grown mark marks places place h =
    ap (λ (n : ℕ). marked (marks ++ mark ∷ []) (last_of n (places ++ place ∷ []))) (one_longer marks mark)
    ∙ (ap (marked (marks ++ mark ∷ [])) (last_more (length marks) places place h)
    ∙ marked_more marks mark (last_of (length marks) places) place (sym (last_length (length marks) places h)))

put_waiting : (mark : Bool) (marks : List Bool) (places : List ℕ) (place : ℕ) → length marks ≤ length places
    → marked (with_mark mark marks) (last_of (length (with_mark mark marks)) (places ++ place ∷ []))
    ≡ marked marks (last_of (length marks) places) ++ cond mark (place ∷ []) []
put_waiting true [] places place h = grown true [] places place h
put_waiting false [] places place h = refl
put_waiting mark (m ∷ ms) places place h = grown mark (m ∷ ms) places place h

-- marks in front of the first that is set stand for nothing
skipped : (marks : List Bool) (places : List ℕ) → length marks ≤ length places
    → marked (from_set marks) (last_of (length (from_set marks)) places) ≡ marked marks (last_of (length marks) places)
skipped [] places h = refl
skipped (true ∷ ms) places h = refl
skipped (false ∷ ms) places h =
    skipped ms places (omega (arith, h)) ∙ sym (ap (marked (false ∷ ms)) (last_next (length ms) places 0 (omega (arith, h))))

passed_waiting : (marks : List Bool) (places : List ℕ) → length marks ≤ length places → StartsSet marks
    → marked (from_set (drop 1 marks)) (last_of (length (from_set (drop 1 marks))) places)
    ≡ drop 1 (marked marks (last_of (length marks) places))
passed_waiting [] places h set = refl
passed_waiting (true ∷ ms) places h set =
    skipped ms places (omega (arith, h)) ∙ sym (ap (λ (ns : List ℕ). drop 1 (marked (true ∷ ms) ns))
    (last_next (length ms) places 0 (omega (arith, h))))
passed_waiting (false ∷ ms) places h set = cc

-- the first notice that waits is that of the first mark
pub first_marked : (marks : List Bool) (places : List ℕ) → length marks ≤ length places → StartsSet marks
    → slice_get places (length places - length marks) ≡ first (marked marks (last_of (length marks) places))
first_marked [] places h set = slice_get_past places (length places - 0) (omega arith)
first_marked (true ∷ ms) places h set =
    slice_get-get_or places (length places - suc (length ms)) 0 (omega (arith, h))
    ∙ sym (ap (λ (ns : List ℕ). first (marked (true ∷ ms) ns)) (last_next (length ms) places 0 (omega (arith, h))))
first_marked (false ∷ ms) places h set = cc

-- ---- rows and what is seen of them
-- a place of which no row is asked is not seen
heard_if : (mark : Bool) (q : Queue) (place : ℕ) → record q { waiting = q.waiting ++ cond mark (place ∷ []) [] }
    ≡ cond mark (record q { waiting = q.waiting ++ place ∷ [] }) q
heard_if true q place = refl
heard_if false q place = ap (λ (ns : List ℕ). record q { waiting = ns }) (nil_right q.waiting)

-- what a row with the place of a notice that it was asked about shows
heard_row : (m : ℕ) (n : model.NoticeFacts) (place : ℕ) (places : List ℕ) (r : QueueRow) → IsWithin (length places) (row r)
    → plain (places ++ place ∷ []) (with_place (row (asked m n r))) ≡ heard m place n (plain places (row r))
heard_row m n place places r h =
    let mark : Bool = matches m r.filter n in
    let q : Queue = plain places (row r) in
    ap (λ (ns : List ℕ). record q { waiting = ns }) (put_waiting mark r.marks.marks places place h.length) ∙ heard_if mark q place

pub heard_rows : (m : ℕ) (n : model.NoticeFacts) (place : ℕ) (places : List ℕ) (rows : List QueueRow)
    → All (IsWithin (length places)) (map row rows)
    → map (plain (places ++ place ∷ [])) (map with_place (map row (map (asked m n) rows)))
    ≡ map (heard m place n) (map (plain places) (map row rows))
heard_rows m n place places [] all = refl
heard_rows m n place places (r ∷ rs) all =
    ap (λ (q : Queue). q ∷ map (plain (places ++ place ∷ [])) (map with_place (map row (map (asked m n) rs))))
    (heard_row m n place places r (All-head (IsWithin (length places)) (row r) (map row rs) all))
    ∙ ap (λ (qs : List Queue). heard m place n (plain places (row r)) ∷ qs)
    (heard_rows m n place places rs (All-tail (IsWithin (length places)) (row r) (map row rs) all))

-- where no filter lets the notice through no queue changes
pub none_hears : (m : ℕ) (n : model.NoticeFacts) (place : ℕ) (places : List ℕ) (rows : List QueueRow)
    → list_any (λ r. matches m r.filter n) rows ≡ false
    → map (plain places) (map row (map (asked m n) rows)) ≡ map (heard m place n) (map (plain places) (map row rows))
none_hears m n place places [] e = refl
none_hears m n place places (r ∷ rs) e = by_test (matches m r.filter n)
    (λ yes. let clash : true ≡ false = subst (λ (b : Bool). (b || list_any (λ x. matches m x.filter n) rs) ≡ false) yes e in cc)
    (λ no.
    let rest : list_any (λ x. matches m x.filter n) rs ≡ false = subst
    (λ (b : Bool). (b || list_any (λ x. matches m x.filter n) rs) ≡ false) no e in
    rw no (ap (λ (qs : List Queue). plain places (row r) ∷ qs) (none_hears m n place places rs rest)))

-- what is seen of rows stays where places that no row has a mark for are dropped
pub kept_rows : (k : ℕ) (places : List ℕ) (rows : List Row) → All (λ r. length r.marks ≤ k) rows
    → map (plain (last_of k places)) rows ≡ map (plain places) rows
kept_rows k places [] all = refl
kept_rows k places (r ∷ rs) all =
    let within = All-head (λ (x : Row). length x.marks ≤ k) r rs all in
    ap (λ (ns : List ℕ). record (plain places r) { waiting = marked r.marks ns } ∷ map (plain (last_of k places)) rs)
    (last_within (length r.marks) k places within)
    ∙ ap (λ (qs : List Queue). plain places r ∷ qs) (kept_rows k places rs (All-tail (λ (x : Row). length x.marks ≤ k) r rs all))

after_row : (outcome : PostOutcome) (places : List ℕ) (r : Row) → IsWithin (length places) r
    → plain places (after_row_post outcome r) ≡ after_post outcome (plain places r)
after_row outcome places r h = by_test (is_delivered outcome || nat_le 4 r.tries)
    (λ yes. rw yes (ap (λ (ns : List ℕ). record (plain places r) { waiting = ns; tries = 0 })
    (passed_waiting r.marks places h.length h.set)))
    (λ no. rw no refl)

posted_row : (s : ℕ) (outcome : PostOutcome) (places : List ℕ) (r : Row) → IsWithin (length places) r
    → plain places (row_posted s outcome r) ≡ posted s outcome (plain places r)
posted_row s outcome places r h = by_test (r.number == s) (λ own. rw own (after_row outcome places r h)) (λ other. rw other refl)

pub posted_rows : (s : ℕ) (outcome : PostOutcome) (places : List ℕ) (rows : List Row) → All (IsWithin (length places)) rows
    → map (plain places) (map (row_posted s outcome) rows) ≡ map (posted s outcome) (map (plain places) rows)
posted_rows s outcome places [] all = refl
posted_rows s outcome places (r ∷ rs) all =
    ap (λ (q : Queue). q ∷ map (plain places) (map (row_posted s outcome) rs))
    (posted_row s outcome places r (All-head (IsWithin (length places)) r rs all))
    ∙ ap (λ (qs : List Queue). posted s outcome (plain places r) ∷ qs)
    (posted_rows s outcome places rs (All-tail (IsWithin (length places)) r rs all))

-- ---- how many marks a row has
with_mark_set : (mark : Bool) (marks : List Bool) → StartsSet marks → StartsSet (with_mark mark marks)
with_mark_set true [] set = refl
with_mark_set false [] set = tt
with_mark_set mark (m ∷ ms) set = set

with_mark_length : (mark : Bool) (marks : List Bool) → length (with_mark mark marks) ≤ length marks + 1
with_mark_length true [] = omega arith
with_mark_length false [] = omega arith
with_mark_length mark (m ∷ ms) = let same = one_longer (m ∷ ms) mark in omega (arith, same)

from_set_set : (marks : List Bool) → StartsSet (from_set marks)
from_set_set [] = tt
from_set_set (true ∷ ms) = refl
from_set_set (false ∷ ms) = from_set_set ms

from_set_length : (marks : List Bool) → length (from_set marks) ≤ length marks
from_set_length [] = omega arith
from_set_length (true ∷ ms) = omega arith
from_set_length (false ∷ ms) = let less = from_set_length ms in omega (arith, less)

pub within_post : (s : ℕ) (outcome : PostOutcome) (n : ℕ) (r : Row) → IsWithin n r → IsWithin n (row_posted s outcome r)
within_post s outcome n r h = by_test (r.number == s)
    (λ own. rw own (by_test (is_delivered outcome || nat_le 4 r.tries)
    (λ yes.
    let less = from_set_length (drop 1 r.marks) in
    let rest = length-drop 1 r.marks in
    let low = h.length in
    rw yes (record { length = omega (arith, less, rest, low); set = from_set_set (drop 1 r.marks) }))
    (λ no. rw no (record { length = h.length; set = h.set }))))
    (λ other. rw other h)

-- no row has more marks than the one with the most
pub all_longest : (k : ℕ) (rows : List Row) → longest rows ≤ k → All (λ r. length r.marks ≤ k) rows
all_longest k [] h = All-nil (λ (r : Row). length r.marks ≤ k)
all_longest k (r ∷ rs) h =
    let own = le-max_left (length r.marks) (longest rs) in
    let others = le-max_right (length r.marks) (longest rs) in
    All-cons (λ (x : Row). length x.marks ≤ k) r rs (omega (arith, own, h)) (all_longest k rs (omega (arith, others, h)))

-- the rows behind a new place
pub all_placed : (m : ℕ) (f : model.NoticeFacts) (n k : ℕ) (rows : List QueueRow) → All (IsWithin n) (map row rows)
    → longest (map with_place (map row (map (asked m f) rows))) ≤ k
    → All (IsWithin k) (map with_place (map row (map (asked m f) rows)))
all_placed m f n k [] all h = All-nil (IsWithin k)
all_placed m f n k (r ∷ rs) all h =
    let r' : Row = with_place (row (asked m f r)) in
    let rs' : List Row = map with_place (map row (map (asked m f) rs)) in
    let own = le-max_left (length r'.marks) (longest rs') in
    let others = le-max_right (length r'.marks) (longest rs') in
    All-cons (IsWithin k) r' rs' (record {
      length = omega (arith, own, h);
      set =
          with_mark_set (matches m r.filter f) r.marks.marks (All-head (IsWithin n) (row r) (map row rs) all).set;
    })
    (all_placed m f n k rs (All-tail (IsWithin n) (row r) (map row rs) all) (omega (arith, others, h)))

-- no row has more marks than there are places
pub longest_placed : (m : ℕ) (f : model.NoticeFacts) (n : ℕ) (rows : List QueueRow) → All (IsWithin n) (map row rows)
    → longest (map with_place (map row (map (asked m f) rows))) ≤ n + 1
longest_placed m f n [] all = omega arith
longest_placed m f n (r ∷ rs) all =
    let low = (All-head (IsWithin n) (row r) (map row rs) all).length in
    let more = with_mark_length (matches m r.filter f) r.marks.marks in
    max-le (omega (arith, low, more)) (longest_placed m f n rs (All-tail (IsWithin n) (row r) (map row rs) all))

-- rows that were asked have as many marks as before
pub all_asked : (m : ℕ) (f : model.NoticeFacts) (n : ℕ) (rows : List QueueRow) → All (IsWithin n) (map row rows)
    → All (IsWithin n) (map row (map (asked m f) rows))
all_asked m f n [] all = All-nil (IsWithin n)
all_asked m f n (r ∷ rs) all =
    let here = All-head (IsWithin n) (row r) (map row rs) all in
    All-cons (IsWithin n) (row (asked m f r)) (map row (map (asked m f) rs)) (record { length = here.length; set = here.set })
    (all_asked m f n rs (All-tail (IsWithin n) (row r) (map row rs) all))

-- what holds of rows by their marks and filters holds of them after they were asked
pub asked_too : (m : ℕ) (f : model.NoticeFacts) (P : QueueRow → Type 0) → ((r : QueueRow) → P r → P (asked m f r))
    → (rows seen after : List QueueRow) → seen ≡ rows → after ≡ map (asked m f) seen → All P rows → All P after
asked_too m f P keeps rows seen after is e all =
    subst (All P) (sym (e ∙ ap (map (asked m f)) is)) (All-map P (asked m f) rows (λ k d h. keeps (get_or rows k d) (all k d h)))

-- ---- the most marks, row by row
pub longest_more : (rows : List Row) (r : Row) → longest (rows ++ r ∷ []) ≡ max (length r.marks) (longest rows)
longest_more [] r = refl
longest_more (x ∷ xs) r = let rest = longest_more xs r in ap (λ (n : ℕ). max (length x.marks) n) rest
    ∙ swapped (length x.marks) (length r.marks) (longest xs) where
      swapped : (a b c : ℕ) → max a (max b c) ≡ max b (max a c)
      swapped a b c = omega arith

-- a row with no mark has none too many
pub within_any : (n : ℕ) (r : Row) → IsWithin 0 r → IsWithin n r
within_any n r h = let none = h.length in record { length = omega (arith, none); set = h.set }
