-- A range that a loop goes over, and what is there of each of its numbers.
use Rattle.std.proofs.Common.{◌≡◌, ◌+◌, ◌-◌, ◌<◌, ◌++◌, ◌∙◌, ℕ, suc, List, [], ◌∷◌, None, Option, Some, ap, append_assoc, arith, sym}
use Rattle.std.specs.List.{cons_option, range_with_len}
use Rattle.std.specs.Prelude.{filter_map}
use Rattle.serde_json.specs.Data.{Data}
use Rattle.serde_json.specs.View.{items_of}
use Rattle.json_members.specs.Text.{TextSoFar, with_value}
use Rattle.json_members.proofs.TextLaws.{item_written, with_items}

range_step : (i n : ℕ) → i < n → range_with_len i (n - i) ≡ i ∷ range_with_len (i + 1) (n - (i + 1))
range_step i n h = let e : n - i ≡ suc (n - (i + 1)) = omega (arith, h) in ap (range_with_len i) e

-- what is there of the numbers is what is there of the first, and then of those behind it
first_found : {A : Type 0} → (f : ℕ → Option A) (i n : ℕ) (o : Option A) → i < n → f i ≡ o
    → filter_map f (range_with_len i (n - i)) ≡ cons_option o (filter_map f (range_with_len (i + 1) (n - (i + 1))))
first_found f i n o h is =
    ap (filter_map f) (range_step i n h) ∙ ap (λ x. cons_option x (filter_map f (range_with_len (i + 1) (n - (i + 1))))) is

-- where there is nothing of the number, what was there so far and what is there of the numbers behind it is all
pub none_here : {A : Type 0} → (f : ℕ → Option A) (made whole : List A) (i n : ℕ) → i < n → f i ≡ None
    → made ++ filter_map f (range_with_len i (n - i)) ≡ whole → made ++ filter_map f (range_with_len (i + 1) (n - (i + 1))) ≡ whole
none_here f made whole i n h none e = ap (λ rest. made ++ rest) (sym (first_found f i n None h none)) ∙ e

-- where there is something, it comes next
pub one_here : {A : Type 0} → (f : ℕ → Option A) (made whole : List A) (x : A) (i n : ℕ) → i < n → f i ≡ Some x
    → made ++ filter_map f (range_with_len i (n - i)) ≡ whole → (made ++ x ∷ []) ++ filter_map f (range_with_len (i + 1) (n - (i + 1)))
    ≡ whole
one_here f made whole x i n h some e =
    append_assoc made (x ∷ []) (filter_map f (range_with_len (i + 1) (n - (i + 1))))
    ∙ (ap (λ rest. made ++ rest) (sym (first_found f i n (Some x) h some)) ∙ e)

-- the same of the entries of an array, of which some are written
pub none_written : (f : ℕ → Option Data) (text whole : TextSoFar) (i n : ℕ) → i < n → f i ≡ None
    → with_items (items_of (filter_map f (range_with_len i (n - i)))) text ≡ whole
    → with_items (items_of (filter_map f (range_with_len (i + 1) (n - (i + 1))))) text ≡ whole
none_written f text whole i n h none e = ap (λ ds. with_items (items_of ds) text) (sym (first_found f i n None h none)) ∙ e

pub one_written : (f : ℕ → Option Data) (text whole : TextSoFar) (d : Data) (i n : ℕ) → i < n → f i ≡ Some d
    → with_items (items_of (filter_map f (range_with_len i (n - i)))) text ≡ whole
    → with_items (items_of (filter_map f (range_with_len (i + 1) (n - (i + 1))))) (with_value d text) ≡ whole
one_written f text whole d i n h some e =
    item_written d (items_of (filter_map f (range_with_len (i + 1) (n - (i + 1))))) text
    ∙ (ap (λ ds. with_items (items_of ds) text) (sym (first_found f i n (Some d) h some)) ∙ e)
