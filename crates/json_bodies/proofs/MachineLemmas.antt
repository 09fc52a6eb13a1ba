-- Which number a text has behind the name of a VDU and a hyphen.
use Rattle.std.proofs.Common.{◌∙◌, ◌++◌, ◌+◌, ◌<◌, ◌^◌, ◌≡◌, ◌≤◌, Bool, List, None, Option, Some, ap, append_assoc}
use Rattle.std.proofs.Common.{[], arith, cond, drop, false, subst, suc, zero}
use Rattle.std.proofs.Common.{length, refl, sym, true, ℕ}
use Rattle.std.specs.Prelude.{IfSome, codes, decimal, nat_le}
use Rattle.std.specs.Str.{bytes_eq}
use Rattle.std.specs.Str.Parse.{digits_value}
use Rattle.std.proofs.Math.Seq.{drop-append-add}
use Rattle.std.proofs.lemmas.Bool.{le-leb, leb-true}
use Rattle.std.proofs.lemmas.Fmt.{decimal_is_IsNumeral}
use Rattle.std.proofs.lemmas.Option.{none-some}
use Rattle.std.proofs.lemmas.Slice.Eq.{bytes_eq-Decides}
use Rattle.std.specs.List.{enumerate_from}
use Rattle.std.specs.Prelude.{◌&&◌, ◌∷◌, ◌≢◌, filter_map, option_map, slice_get, take, unwrap_or}
use Rattle.std.specs.Char.{digit_value}
use Rattle.std.specs.Str.Parse.{AllDigits}
use Rattle.lcm_events.specs.declared.asks.Vnfc.{Vnfc}
use Rattle.lcm_events.specs.declared.descriptor.Vdu.{Vdu}
use Rattle.lcm_events.specs.declared.descriptor.Vnfd.{Vnfd}
use Rattle.json_bodies.specs.Machines.{machine_named, machine_of, machine_text, no_machine, serial_if, serial_in}

-- the digits of an identifier say its number
digits_of : (name text : List ℕ) (s : ℕ) → s < 2 ^ 64 → text ≡ machine_text name s → digits_value 10 (drop (length name + 1) text) ≡ s
digits_of name text s small is =
    ap (λ t. digits_value 10 (drop (length name + 1) t)) (is ∙ append_assoc name (codes "-") (decimal s))
    ∙ ap (digits_value 10) (drop-append-add name (codes "-" ++ decimal s) 1)
    ∙ (decimal_is_IsNumeral s small).1

-- the number, where it has four bytes
abbrev pub small_serial : ℕ → Option ℕ
small_serial s = cond (nat_le s 4294967295) (Some s) None

-- the number that was read is that of the identifier
pub serial_read : (name text : List ℕ) (s : ℕ) → s < 2 ^ 64 → text ≡ machine_text name s → small_serial s ≡ serial_in name text
serial_read name text s small is =
    let same : bytes_eq text (machine_text name s) ≡ true = (bytes_eq-Decides text (machine_text name s)).1 is in
    let one : serial_if name text s ≡ small_serial s = rw same refl in
    sym (ap (serial_if name text) (digits_of name text s small is) ∙ one)

-- a text without a number is no identifier
pub serial_lost : (name text : List ℕ) → ((s : ℕ) → s < 2 ^ 64 → text ≡ machine_text name s → None ≡ Some s) → None ≡ serial_in name text
serial_lost name text none = by (digits_value 10 (drop (length name + 1) text)) where
  by : (s : ℕ) → None ≡ serial_if name text s
  by s = of (bytes_eq text (machine_text name s)) (nat_le s 4294967295) refl refl where
    of : (same few : Bool) → bytes_eq text (machine_text name s) ≡ same → nat_le s 4294967295 ≡ few → None ≡ serial_if name text s
    of true true e f =
        let small : s ≤ 4294967295 = leb-true s 4294967295 f in
        absurd (none-some s (none s (omega (arith, small)) ((bytes_eq-Decides text (machine_text name s)).0 e)))
    of true false e f = rw (e, f) refl
    of false few e f = rw e refl

-- a number behind the name and a hyphen makes the text the identifier
pub number_found : (name text digits : List ℕ) (r : Option ℕ) → text ≡ name ++ (codes "-" ++ digits)
    → IfSome r (λ n. (n < 2 ^ 64) × (digits ≡ decimal n))
    → IfSome r (λ n. (n < 2 ^ 64) × (text ≡ machine_text name n))
number_found name text digits None is h = tt
number_found name text digits (Some n) is h = (
  h.0,
  is ∙ ap (λ ds. name ++ (codes "-" ++ ds)) h.1 ∙ sym (append_assoc name (codes "-") (decimal n)),
)

-- no hyphen stands among digits
no_hyphen : (ds : List ℕ) → AllDigits 10 ds → (front behind : List ℕ) → ds ≡ front ++ 45 ∷ behind → ⊥
no_hyphen [] all [] behind is = cc
no_hyphen [] all (f ∷ front) behind is = cc
no_hyphen (c ∷ cs) all [] behind is =
    let same : c ≡ 45 = cc in
    let small : digit_value 45 < 10 = subst (λ (k : ℕ). digit_value k < 10) same all.0 in
    absurd (omega (arith, small))
no_hyphen (c ∷ cs) all (f ∷ front) behind is = let rest : cs ≡ front ++ 45 ∷ behind = cc in no_hyphen cs all.1 front behind rest

-- two names with a hyphen and digits behind them are the same where these texts are
fronts_same : (a b ds es : List ℕ) → AllDigits 10 ds → AllDigits 10 es → a ++ 45 ∷ ds ≡ b ++ 45 ∷ es → a ≡ b
fronts_same [] [] ds es all also is = refl
fronts_same [] (y ∷ b) ds es all also is = let rest : ds ≡ b ++ 45 ∷ es = cc in absurd (no_hyphen ds all b es rest)
fronts_same (x ∷ a) [] ds es all also is = let rest : es ≡ a ++ 45 ∷ ds = cc in absurd (no_hyphen es also a ds rest)
fronts_same (x ∷ a) (y ∷ b) ds es all also is =
    let head : x ≡ y = cc in
    let rest : a ++ 45 ∷ ds ≡ b ++ 45 ∷ es = cc in
    let same : a ≡ b = fronts_same a b ds es all also rest in
    rw (head, same) refl

-- a text that has a serial number behind a name is an identifier of that VDU
serial_means : (name text : List ℕ) (s : ℕ) → serial_in name text ≡ Some s → (s < 2 ^ 64) × (text ≡ machine_text name s)
serial_means name text s = by (digits_value 10 (drop (length name + 1) text)) where
  by : (n : ℕ) → serial_if name text n ≡ Some s → (s < 2 ^ 64) × (text ≡ machine_text name s)
  by n = of (bytes_eq text (machine_text name n)) (nat_le n 4294967295) refl refl where
    of : (same few : Bool) → bytes_eq text (machine_text name n) ≡ same → nat_le n 4294967295 ≡ few
        → cond (same && few) (Some n) None ≡ Some s → (s < 2 ^ 64) × (text ≡ machine_text name s)
    of true true e f is =
        let one : n ≡ s = cc in
        let small : n ≤ 4294967295 = leb-true n 4294967295 f in (
          subst (λ (k : ℕ). k < 2 ^ 64) one (omega (arith, small)),
          (bytes_eq-Decides text (machine_text name n)).0 e ∙ ap (machine_text name) one,
        )
    of true false e f is = cc
    of false few e f is = cc

-- the identifier of a machine of one VDU is none of a VDU of another name
other_serial : (name other : List ℕ) (s : ℕ) → s < 2 ^ 64 → other ≢ name → serial_in other (machine_text name s) ≡ None
other_serial name other s small differs = by (serial_in other (machine_text name s)) refl where
  by : (o : Option ℕ) → serial_in other (machine_text name s) ≡ o → o ≡ None
  by None is = refl
  by (Some t) is =
      let means = serial_means other (machine_text name s) t is in
      let texts : name ++ 45 ∷ decimal s ≡ other ++ 45 ∷ decimal t =
      sym (append_assoc name (codes "-") (decimal s)) ∙ means.1 ∙ append_assoc other (codes "-") (decimal t) in
      absurd (differs (sym (fronts_same name other (decimal s) (decimal t) (decimal_is_IsNumeral s small).0.1
      (decimal_is_IsNumeral t means.0).0.1 texts)))

-- and it is its own
own_serial : (name : List ℕ) (s : ℕ) → s < 4294967296 → serial_in name (machine_text name s) ≡ Some s
own_serial name s small =
    let few : nat_le s 4294967295 ≡ true = le-leb s 4294967295 (omega (arith, small)) in
    sym (serial_read name (machine_text name s) s (omega (arith, small)) refl) ∙ rw few refl

-- the first VDU of which the text is the identifier of a machine is the one that it was made of
first_machine : (vdus : List Vdu) (at v : ℕ) (vdu : Vdu) (s room : ℕ) → slice_get vdus v ≡ Some vdu → v < room → s < 4294967296
    → ((k : ℕ) (other : Vdu) → k < v → slice_get vdus k ≡ Some other → other.name ≢ vdu.name)
    → slice_get (filter_map (machine_of (machine_text vdu.name s)) (enumerate_from at (take room vdus))) 0
    ≡ Some (record { vdu = at + v; serial = s })
first_machine [] at v vdu s room is below small first = cc
first_machine (w ∷ vdus) at v vdu s zero is below small first = absurd (omega (arith, below))
first_machine (w ∷ vdus) at zero vdu s (suc room) is below small first =
    let same : w ≡ vdu = cc in
    let found : machine_of (machine_text vdu.name s) (at, w) ≡ Some (record { vdu = at; serial = s }) =
    subst (λ (u : Vdu). machine_of (machine_text vdu.name s) (at, u) ≡ Some (record { vdu = at; serial = s })) (sym same)
    (ap (option_map (λ n. record { vdu = at; serial = n })) (own_serial vdu.name s small)) in
    let place : at + 0 ≡ at = omega arith in
    rw (found, place) refl
first_machine (w ∷ vdus) at (suc v) vdu s (suc room) is below small first =
    let none : machine_of (machine_text vdu.name s) (at, w) ≡ None =
    ap (option_map (λ n. record { vdu = at; serial = n }))
    (other_serial vdu.name w.name s (omega (arith, small)) (first 0 w (omega arith) refl)) in
    let rest = first_machine vdus (at + 1) v vdu s room is (omega (arith, below)) small
    (λ k other before at_k. first (suc k) other (omega (arith, before)) at_k) in
    let place : at + suc v ≡ (at + 1) + v = omega arith in
    rw (none, place) rest

pub read_back : (d : Vnfd) (x : Vnfc) (vdu : Vdu) → slice_get d.vdus x.vdu ≡ Some vdu → x.vdu < 65535 → x.serial < 4294967296
    → ((k : ℕ) (other : Vdu) → k < x.vdu → slice_get d.vdus k ≡ Some other → other.name ≢ vdu.name)
    → machine_named d (machine_text vdu.name x.serial) ≡ x
read_back d x vdu is below small first =
    ap (λ o. unwrap_or o no_machine) (first_machine d.vdus 0 x.vdu vdu x.serial 65535 is below small first)
    ∙ ap (λ k. record { vdu = k; serial = x.serial }) (omega arith)
