-- What checks that pass say of what is built then: the laws that VDUs, ports and policies share.
use Rattle.std.proofs.Common.{◌≡◌, ◌+◌, ◌&&◌, ℕ, List, [], ◌∷◌, length, Bool, true, false, cond, Option, Some, None, unwrap_or}
use Rattle.std.proofs.Common.{option_and_then, nat_le, nat_lt, refl, arith, IfSome, Result, Ok, Err, sym, subst}
use Rattle.std.proofs.lemmas.Bool.{and_from, and_parts, le-leb, lt-ltb, leb-true}
use Rattle.std.specs.List.{list_all}
use Rattle.std.specs.Option.{option_or}
use Rattle.serde_json.specs.Data.{Data}
use Rattle.lcm_events.specs.Descriptors.{is_rising}
use Rattle.lcm_model.specs.Descriptors.{is_given}
use Rattle.vnfd_document.specs.declared.fault.VnfdFault.{VnfdFault}
use Rattle.vnfd_document.specs.declared.fault.VnfdFault.TheVariants.{NotJson, Lacks, Wrong, Unknown, TooMany, OutOfStep, Memory}
use Rattle.vnfd_document.specs.Checks.{IsFault, Refuses, fault_of}
use Rattle.vnfd_document.specs.Json.{whole, within}
use Rattle.vnfd_document.specs.Names.{is_given_name, is_name, name_or_empty}
use Rattle.vnfd_document.proofs.NameOrder.{name_or_empty-given}

-- both checks pass
pub none_parts : {F : Type 0} (a b : Option F) → option_or a b ≡ None → (a ≡ None) × (b ≡ None)
none_parts None b h = (refl, h)
none_parts (Some x) b h = let no : ⊥ = cc in absurd no

-- a fault is that fault
pub same_fault : (fault : VnfdFault) → IsFault fault (Some fault)
same_fault NotJson = refl
same_fault (Lacks name) = refl
same_fault (Wrong name) = refl
same_fault (Unknown name) = refl
same_fault (TooMany name) = refl
same_fault (OutOfStep level vdu) = refl
same_fault Memory = tt

-- a check that answers just its fault refuses with it
pub refuses_just : {A : Type 0} (result : Result A VnfdFault) (expected : Option VnfdFault) → fault_of result ≡ expected
    → Refuses result expected
refuses_just (Ok x) expected h = sym h
refuses_just (Err fault) expected h = subst (IsFault fault) h (same_fault fault)

-- a check that passes: its test holds
pub read_if : (b : Bool) (f : VnfdFault) → cond b None (Some f) ≡ None → b ≡ true
read_if true f h = refl
read_if false f h = let no : ⊥ = cc in absurd no

-- or its test doesn't hold
pub not_if : (b : Bool) (f : VnfdFault) → cond b (Some f) None ≡ None → b ≡ false
not_if true f h = let no : ⊥ = cc in absurd no
not_if false f h = refl

-- what is read of a value, where one is read
pub some_then : {A B : Type 0} (f : A → Option B) (P : B → Type 0) (o : Option A) → ((x : A) → IfSome (f x) P)
    → IfSome (option_and_then f o) P
some_then f P None h = tt
some_then f P (Some x) h = h x

-- a number within bounds
pub within_if : (b : Bool) (n : ℕ) (P : ℕ → Type 0) → (b ≡ true → P n) → IfSome (cond b (Some n) None) P
within_if true n P h = h refl
within_if false n P h = tt

-- a whole number is within its limit
pub whole_at_most : (low high : ℕ) (d : Data) → IfSome (whole low high d) (λ n. nat_le n high ≡ true)
whole_at_most low high d = some_then (within low high) _ _ (λ n. within_if _ n _ (λ h. (and_parts (nat_le low n) (nat_le n high) h).1))

-- where each is within a limit, the default 0 is too
pub or_zero : (m : ℕ) (o : Option ℕ) → IfSome o (λ n. nat_le n m ≡ true) → nat_le (unwrap_or o 0) m ≡ true
or_zero m None h = le-leb 0 m (omega arith)
or_zero m (Some n) h = h

-- a given name stays one
pub given_kept : (k : List ℕ) → is_given_name k ≡ true → is_given (name_or_empty k) ≡ true
given_kept k h = rw (name_or_empty-given k h) (some_byte k (and_parts (nat_le 1 (length k)) (is_name k) h).0) where
  some_byte : (k : List ℕ) → nat_le 1 (length k) ≡ true → nat_lt 0 (length k) ≡ true
  some_byte k h = lt-ltb _ _ (omega (arith, leb-true _ _ h))

-- numbers rise where the first stands below the others
pub rising_cons : (n : ℕ) (rest : List ℕ) → list_all (nat_le (n + 1)) rest ≡ true → is_rising nat_lt rest ≡ true
    → is_rising nat_lt (n ∷ rest) ≡ true
rising_cons n [] above up = refl
rising_cons n (y ∷ ys) above up =
    and_from (nat_lt n y) _ (lt-ltb _ _ (omega (arith, leb-true (n + 1) y (and_parts (nat_le (n + 1) y) _ above).0))) up

-- what is above a number is above a lesser one
pub above_less : (n : ℕ) (xs : List ℕ) → list_all (nat_le (n + 1)) xs ≡ true → list_all (nat_le n) xs ≡ true
above_less n [] h = refl
above_less n (x ∷ xs) h =
    let parts = and_parts (nat_le (n + 1) x) _ h in
    and_from (nat_le n x) _ (le-leb _ _ (omega (arith, leb-true (n + 1) x parts.0))) (above_less n xs parts.1)
