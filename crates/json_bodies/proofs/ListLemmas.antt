-- What the values of a list come to.
use Rattle.std.proofs.Common.{◌≡◌, ◌≤◌, ◌∷◌, [], Bool, List, None, Ok, Option, Some, ap, arith, cond, false, length, refl}
use Rattle.std.proofs.Common.{subst, suc, true, ℕ}
use Rattle.std.proofs.lemmas.Bool.{leb-true}
use Rattle.std.specs.List.{filter_map, list_all}
use Rattle.std.specs.Prelude.{◌&&◌, is_some, nat_le, unwrap_or}
use Rattle.serde_json.specs.Data.{Data}
use Rattle.serde_json.specs.Find.{as_array}
use Rattle.serde_json.specs.View.{items_view}
use Rattle.serde_json.specs.declared.value.Value.{Value}
use Rattle.json_bodies.specs.Body.{and_then, by_form, member_of, needed_value, optional, optional_read}
use Rattle.json_bodies.specs.Forms.{at_most, each_in, items_in, list_in, values_in}
use Rattle.std.specs.Prelude.{option_and_then}

items_length : (values : List Value) → length (items_in (items_view values)) ≡ length values
items_length [] = refl
items_length (v ∷ vs) = ap suc (items_length vs)

fits_within : {A : Type 0} (form : Data → Option A) (most : ℕ) (ds : List Data)
    → is_some (option_and_then (each_in form) (at_most most ds))
    ≡ (nat_le (length ds) most && list_all (λ d. is_some (form d)) ds)
fits_within form most ds = by (nat_le (length ds) most) (list_all (λ d. is_some (form d)) ds) refl refl where
  by : (short fit : Bool) → nat_le (length ds) most ≡ short → list_all (λ d. is_some (form d)) ds ≡ fit
      → is_some (option_and_then (each_in form) (at_most most ds))
      ≡ (nat_le (length ds) most && list_all (λ d. is_some (form d)) ds)
  by true true short fit = rw (short, fit) refl
  by true false short fit = rw (short, fit) refl
  by false fit short is = rw short refl

-- a list has the form where it is short enough and each value has it
pub list_fits : {A : Type 0} (form : Data → Option A) (most : ℕ) (d : Data) (values : List Value) → as_array d ≡ Some (items_view values)
    → is_some (list_in most form d)
    ≡ (nat_le (length values) most && list_all (λ e. is_some (form e)) (items_in (items_view values)))
list_fits form most d values is =
    rw is (rw (← (items_length values)) (fits_within form most (items_in (items_view values))))

said_few : {A : Type 0} (form : Data → Option A) (ds : List Data) → length (filter_map form ds) ≤ length ds
said_few form [] = omega arith
said_few form (d ∷ ds) = by (form d) refl (said_few form ds) where
  by : (o : Option _) → form d ≡ o → length (filter_map form ds) ≤ length ds → length (filter_map form (d ∷ ds)) ≤ length (d ∷ ds)
  by None is rest = rw is (omega (arith, rest))
  by (Some a) is rest = rw is (omega (arith, rest))

-- what is read of a list has no more entries than were allowed
list_few : {A : Type 0} (form : Data → Option A) (most : ℕ) (d : Data) (xs : List A) → list_in most form d ≡ Some xs → length xs ≤ most
list_few form most d xs = by (values_in d) where
  each : (ds : List Data) → length ds ≤ most → each_in form ds ≡ Some xs → length xs ≤ most
  each ds few = of (list_all (λ e. is_some (form e)) ds) where
    of : (b : Bool) → cond b (Some (filter_map form ds)) None ≡ Some xs → length xs ≤ most
    of true is =
        let same : filter_map form ds ≡ xs = cc in
        let short = said_few form ds in
        subst (λ (ys : List _). length ys ≤ most) same (omega (arith, few, short))
    of false is = cc

  short : (ds : List Data) → option_and_then (each_in form) (at_most most ds) ≡ Some xs → length xs ≤ most
  short ds = of (nat_le (length ds) most) refl where
    of : (b : Bool) → nat_le (length ds) most ≡ b → option_and_then (each_in form) (cond b (Some ds) None) ≡ Some xs → length xs ≤ most
    of true le is = each ds (leb-true (length ds) most le) is
    of false le is = cc

  by : (o : Option (List Data)) → option_and_then (each_in form) (option_and_then (at_most most) o) ≡ Some xs → length xs ≤ most
  by None is = cc
  by (Some ds) is = short ds is

-- the same of a member that may be absent
pub optional_few : {A : Type 0} (form : Data → Option A) (most : ℕ) (name : List ℕ) (d : Data) (named : Option (List A))
    → optional (list_in most form) name d ≡ Ok named → length (unwrap_or named []) ≤ most
optional_few form most name d named = by (member_of name d) where
  said : (value : Data) (o : Option (List _)) → list_in most form value ≡ o
      → and_then (needed_value name o) (λ a. Ok (Some a)) ≡ Ok named → length (unwrap_or named []) ≤ most
  said value None is e = cc
  said value (Some xs) is e =
      let same : Some xs ≡ named = cc in
      subst (λ (o : Option (List _)). length (unwrap_or o []) ≤ most) same (list_few form most value xs is)

  by : (o : Option Data) → optional_read (by_form (list_in most form)) name o ≡ Ok named → length (unwrap_or named []) ≤ most
  by None e =
      let same : None ≡ named = cc in
      subst (λ (o : Option (List _)). length (unwrap_or o []) ≤ most) same (omega arith)
  by (Some value) e = said value (list_in most form value) refl e
