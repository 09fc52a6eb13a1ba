-- What stands in one field: its bytes are below 256, and none of them is a separator or a line feed.
use Rattle.std.proofs.Common.{◌≡◌, ℕ, zero, suc, ◌+◌, ◌*◌, ◌/◌, ◌%◌, ◌^◌, ◌<◌, ◌≤◌, ◌==◌, cond, List, [], ◌∷◌, ◌++◌, Bool, true, false}
use Rattle.std.proofs.Common.{length, refl, sym, ◌∙◌, ap, subst, arith, inl, inr, ◌⊎◌, slice_index, Ok, nat_lt, nat_le}
use Rattle.std.specs.Str.{IsUtf8}
use Rattle.std.specs.Fmt.{decimal}
use Rattle.std.proofs.lemmas.Str.{IsUtf8-from_ascii}
use Rattle.std.proofs.lemmas.Fmt.{IsAscii-decimal, decimal_by_steps}
use Rattle.std.specs.List.{list_all}
use Rattle.std.proofs.lemmas.Bool.{and_parts, ltb-true, leb-true}
use Rattle.std.proofs.lemmas.Bool.Decides.{nat_tests}
use lib.Utf8.{encode, encodes, scalar, scalars, scalar_cases}
use Rattle.hex.specs.Hex.{encode_lower, encode_with, lower_digits, IsBytes, decode_of, decode_sized}
use Rattle.hex.proofs.HexLemmas.{decode_of-encode_lower, decode_sized-encode_lower, length-encode_with}
use Rattle.vnfm_base.specs.Text.{IsName}
use Rattle.vim_wire.specs.Lines.{name_field}
use Rattle.vim_wire.proofs.PartLaws.{Free, Free-append}

-- each byte of these is one
abbrev pub AreBytes : List ℕ → Type 0
AreBytes [] = Unit {0}
AreBytes (byte ∷ bytes) = (byte < 256) × AreBytes bytes

AreBytes-append : (a b : List ℕ) → AreBytes a → AreBytes b → AreBytes (a ++ b)
AreBytes-append [] b f g = g
AreBytes-append (x ∷ a) b f g = (f.0, AreBytes-append a b f.1 g)

pub IsBytes-from : (bytes : List ℕ) → AreBytes bytes → IsBytes bytes
IsBytes-from [] h i = lit i where
  lit : (i : ℕ) → slice_index [] i < 256
  lit zero = omega arith
  lit (suc i) = omega arith
IsBytes-from (byte ∷ bytes) h zero = h.0
IsBytes-from (byte ∷ bytes) h (suc i) = IsBytes-from bytes h.1 i

AreBytes-encode : (c : ℕ) → c < 1114112 → AreBytes (encode c)
unfolding encode
AreBytes-encode c lt = of (nat_lt c 128) refl (nat_lt c 2048) refl (nat_lt c 65536) refl where
  of : (a : Bool) → nat_lt c 128 ≡ a → (b : Bool) → nat_lt c 2048 ≡ b → (d : Bool) → nat_lt c 65536 ≡ d
      → AreBytes (cond a (c ∷ []) (cond b ((192 + c / 64) ∷ (128 + c % 64) ∷ [])
      (cond d ((224 + c / 4096) ∷ (128 + c / 64 % 64) ∷ (128 + c % 64) ∷ [])
      ((240 + c / 262144) ∷ (128 + c / 4096 % 64) ∷ (128 + c / 64 % 64) ∷ (128 + c % 64) ∷ []))))
  of true e b f d g = let h : c < 128 = ltb-true c 128 e in (omega arith, tt)
  of false e true f d g = let h : c < 2048 = ltb-true c 2048 f in (omega arith, (omega arith, tt))
  of false e false f true g = let h : c < 65536 = ltb-true c 65536 g in (omega arith, (omega arith, (omega arith, tt)))
  of false e false f false g = (omega arith, (omega arith, (omega arith, (omega arith, tt))))

AreBytes-encodes : (cs : List ℕ) → scalars cs ≡ true → AreBytes (encodes cs)
AreBytes-encodes [] h = tt
AreBytes-encodes (c ∷ cs) h =
    let parts = and_parts (scalar c) (scalars cs) h in
    AreBytes-append (encode c) (encodes cs) (AreBytes-encode c (small c (scalar_cases c parts.0))) (AreBytes-encodes cs parts.1) where
      small : (c : ℕ) → (c < 55296) ⊎ ((57344 ≤ c) × (c < 1114112)) → c < 1114112
      small c (inl below) = omega arith
      small c (inr above) = above.1

-- the bytes of a name are bytes
pub name_bytes : (name : List ℕ) → IsName name → IsBytes name
name_bytes name h = IsBytes-from name (of name h.utf8) where
  of : (bs : List ℕ) → IsUtf8 bs → AreBytes bs
  of bs u = let P : List ℕ → Type 0 = AreBytes in subst P u.1.1 (AreBytes-encodes u.0 u.1.0)

-- a byte above the separator isn't it
above : (b s : ℕ) → s < b → (b == s) ≡ false
above b s lt = grind (arith, nat_tests)

-- the bytes of a number are digits, each above the separators and the line feed
pub Free-decimal : (s : ℕ) → s < 48 → (n : ℕ) → n < 2 ^ 64 → Free s (decimal n)
Free-decimal s low n fits =
    let P : ℕ → List ℕ → Type 0 = λ n ds. Free s ds in
    decimal_by_steps P (λ n lt. (above (48 + n) s (omega arith), tt))
    (λ n ds lt f. Free-append s ds ((48 + n % 10) ∷ []) f (above (48 + n % 10) s (omega arith), tt)) n fits

-- so are those of a name
digit : (s : ℕ) → 0 < s → s < 48 → (digits : List ℕ) → list_all (λ d. nat_le 48 d) digits ≡ true → (k : ℕ)
    → (slice_index digits k == s) ≡ false
digit s some low [] high zero = below s some where
  below : (s : ℕ) → 0 < s → (0 == s) ≡ false
  below s lt = grind (arith, nat_tests)
digit s some low [] high (suc k) = below s some where
  below : (s : ℕ) → 0 < s → (0 == s) ≡ false
  below s lt = grind (arith, nat_tests)
digit s some low (d ∷ digits) high zero =
    let parts = and_parts (nat_le 48 d) (list_all (λ d. nat_le 48 d) digits) high in
    let at_least : 48 ≤ d = leb-true 48 d parts.0 in above d s (omega arith)
digit s some low (d ∷ digits) high (suc k) =
    let parts = and_parts (nat_le 48 d) (list_all (λ d. nat_le 48 d) digits) high in digit s some low digits parts.1 k

Free-encode : (s : ℕ) → 0 < s → s < 48 → (bytes : List ℕ) → Free s (encode_lower bytes)
unfolding encode_with
Free-encode s some low [] = tt
Free-encode s some low (b ∷ bytes) =
    (digit s some low lower_digits refl (b / 16), (digit s some low lower_digits refl (b % 16), Free-encode s some low bytes))

pub Free-name : (s : ℕ) → 0 < s → s < 48 → (name : List ℕ) → Free s (name_field name)
Free-name s some low name = (above 120 s (omega arith), Free-encode s some low name)

-- a number's digits are text
pub utf8-decimal : (n : ℕ) → n < 2 ^ 64 → IsUtf8 (decimal n)
utf8-decimal n fits = IsUtf8-from_ascii (decimal n) (IsAscii-decimal n fits)

-- a name has one field
pub name_field-injective : (a b : List ℕ) → IsName a → IsName b → name_field a ≡ name_field b → a ≡ b
name_field-injective a b ha hb e =
    let digits : encode_lower a ≡ encode_lower b = (cc) in
    let one = decode_of-encode_lower a (name_bytes a ha) in
    let other = decode_of-encode_lower b (name_bytes b hb) in
    let both : Ok a ≡ Ok b = sym one ∙ ap decode_of digits ∙ other in cc

-- the digits of a name decode to its bytes
pub decodes : (digits : List ℕ) (room : ℕ) (n : List ℕ) → IsName n → length digits ≡ 2 * room → digits ≡ encode_lower n
    → decode_sized digits room ≡ Ok n
decodes digits room n h len e =
    let twice = length-encode_with lower_digits n in
    let both : length digits ≡ length (encode_lower n) = ap length e in
    let fits : length n ≡ room = omega arith in
    ap (λ t. decode_sized t room) e ∙ decode_sized-encode_lower n room fits (name_bytes n h)
