-- Laws of the places seen.
use Rattle.std.proofs.Common.{◌≡◌, ◌≤◌, ◌<◌, ◌++◌, ◌∙◌, ℕ, List, [], ◌∷◌, true, false, refl, ap, sym, subst, length, map}
use Rattle.std.proofs.Common.{take, append_assoc, append-nil, length-append, arith, Option, Some, None}
use Rattle.std.specs.List.{list_any}
use Rattle.lcm_events.specs.declared.places.Place.{Place}
use Rattle.lcm_model.specs.Grants.{places_after, same_place}
use Rattle.grant_desk.proofs.TallyLaws.{by_test}
use Rattle.grant_desk.specs.Seen.{Sees, with_rows}

-- a place that was seen is left out
pub seen_row : (seen : List Place) (r : List ℕ × Place) (rows : List (List ℕ × Place)) → list_any (same_place r.1) seen ≡ true
    → with_rows seen (r ∷ rows) ≡ with_rows seen rows
seen_row seen r rows e = rw e refl

-- a place that wasn't is put last
pub new_row : (seen : List Place) (r : List ℕ × Place) (rows : List (List ℕ × Place)) → list_any (same_place r.1) seen ≡ false
    → with_rows seen (r ∷ rows) ≡ with_rows (seen ++ r.1 ∷ []) rows
new_row seen r rows e = rw e (sym (append_assoc seen (r.1 ∷ []) (places_after (seen ++ r.1 ∷ []) (map (λ r. r.1) rows))))

-- rows after rows
pub with_rows-append : (seen : List Place) (xs ys : List (List ℕ × Place)) → with_rows seen (xs ++ ys) ≡ with_rows (with_rows seen xs) ys
with_rows-append seen [] ys = ap (λ (s : List Place). with_rows s ys) (sym (append-nil seen))
with_rows-append seen (x ∷ xs) ys = by_test (list_any (same_place x.1) seen)
    (λ yes. seen_row seen x (xs ++ ys) yes ∙ with_rows-append seen xs ys
    ∙ ap (λ (s : List Place). with_rows s ys) (sym (seen_row seen x xs yes)))
    (λ no. new_row seen x (xs ++ ys) no ∙ with_rows-append (seen ++ x.1 ∷ []) xs ys
    ∙ ap (λ (s : List Place). with_rows s ys) (sym (new_row seen x xs no)))

-- what was seen stays
pub with_rows_longer : (seen : List Place) (xs : List (List ℕ × Place)) → length seen ≤ length (with_rows seen xs)
with_rows_longer seen xs = omega (arith, length-append seen (places_after seen (map (λ r. r.1) xs)))

-- where the first of two parts is more than the room, both are
pub more_than_room : (seen : List Place) (xs ys : List (List ℕ × Place)) (n : ℕ) → n < length (with_rows seen xs)
    → n < length (with_rows seen (xs ++ ys))
more_than_room seen xs ys n h = omega (arith, h, ap length (with_rows-append seen xs ys), with_rows_longer (with_rows seen xs) ys)

-- what is seen of one part and then of another is seen of both
pub sees_both : (seen : List Place) (xs ys : List (List ℕ × Place)) (n : ℕ) (old new : List Place) (r : Option ℕ)
    → take n old ≡ with_rows seen xs
    → Sees (take n old) ys r new → Sees seen (xs ++ ys) r new
sees_both seen xs ys n old new None e h = omega (
  arith,
  h,
  ap length (with_rows-append seen xs ys),
  ap (λ (s : List Place). length (with_rows s ys)) e,
)
sees_both seen xs ys n old new (Some m) e h = (h.0, h.1 ∙ ap (λ (s : List Place). with_rows s ys) e ∙ sym (with_rows-append seen xs ys))

-- where one part is more than the room, so is all
pub sees_none : (seen : List Place) (xs ys : List (List ℕ × Place)) (room : List Place) (r : Option ℕ) → r ≡ None → Sees seen xs r room
    → Sees seen (xs ++ ys) None room
sees_none seen xs ys room None e h = more_than_room seen xs ys (length room) h
sees_none seen xs ys room (Some n) e h = cc

-- what is in the room, where all was seen
pub sees_some : (seen : List Place) (xs : List (List ℕ × Place)) (room : List Place) (r : Option ℕ) (n : ℕ) → r ≡ Some n
    → Sees seen xs r room → take n room ≡ with_rows seen xs
sees_some seen xs room None n e h = cc
sees_some seen xs room (Some m) n e h = let same : m ≡ n = cc in subst (λ (k : ℕ). take k room ≡ with_rows seen xs) same h.1
