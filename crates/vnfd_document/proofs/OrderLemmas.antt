-- Sorted by name, things stand in the order of their names.
use Rattle.std.proofs.Common.{◌≡◌, List, [], ◌∷◌, map, Bool, true, false, cond, refl, sym, ap, ◌∙◌}
use Rattle.std.specs.Cmp.Lexicographic.{slice_cmp}
use Rattle.std.specs.Ordering.{is_lt, nat_cmp}
use Rattle.std.specs.List.Sorted.{IsSortedBy, IsStableBy}
use Rattle.std.proofs.lemmas.Cmp.{nat_list_cmp_total}
use Rattle.std.proofs.lemmas.List.Sorted.{ranks_by}
use Rattle.vnfd_document.specs.declared.entries.Entry.{Entry}
use Rattle.vnfd_document.specs.Places.{by_name, put_by_name}
use Rattle.vnfd_document.specs.Seen.{seen}
use Rattle.vnfd_document.proofs.SortLemmas.{put, in_order_of, sorted_is}

-- the first stands before the second
abbrev pub before : Entry → Entry → Bool
before x y = is_lt (slice_cmp nat_cmp x.name.now y.name.now)

put-if : (b : Bool) (x y : Entry) (ys : List Entry) → put_by_name (seen x) (map seen ys) ≡ map seen (put before x ys)
    → cond b (seen y ∷ put_by_name (seen x) (map seen ys)) (seen x ∷ seen y ∷ map seen ys)
    ≡ map seen (cond b (y ∷ put before x ys) (x ∷ y ∷ ys))
put-if true x y ys h = ap (λ r. seen y ∷ r) h
put-if false x y ys h = refl

put_by_name-seen : (x : Entry) (ys : List Entry) → put_by_name (seen x) (map seen ys) ≡ map seen (put before x ys)
put_by_name-seen x [] = refl
put_by_name-seen x (y ∷ ys) = put-if (before y x) x y ys (put_by_name-seen x ys)

by_name-seen : (xs : List Entry) → by_name (map seen xs) ≡ map seen (in_order_of before xs)
by_name-seen [] = refl
by_name-seen (x ∷ xs) = ap (put_by_name (seen x)) (by_name-seen xs) ∙ put_by_name-seen x (in_order_of before xs)

-- what a stable sort by name gives
pub sorted_by_name : (xs ys : List Entry) → IsSortedBy before ys → IsStableBy before xs ys → map seen ys ≡ by_name (map seen xs)
sorted_by_name xs ys up stable =
    ap (map seen) (sorted_is before (ranks_by nat_list_cmp_total (λ e. e.name.now)) xs ys up stable) ∙ sym (by_name-seen xs)
