-- The paths at which instances and occurrences are found are lines.
use Rattle.std.proofs.Common.{◌≡◌, ◌<◌, ◌≤◌, ◌&&◌, ℕ, zero, suc, Bool, true, false, List, [], ◌∷◌, ◌++◌, length, codes, All, refl, inl}
use Rattle.std.proofs.Common.{if◌then◌else◌, nat_le, nat_lt, arith}
use Rattle.std.proofs.lemmas.Bool.Decides.{nat_tests}
use Rattle.std.proofs.lemmas.List.{length-append}
use Rattle.std.proofs.lemmas.List.Elements.{All-append, All-from_recursion}
use Rattle.std.proofs.lemmas.List.Sums.{AllPass-from_list_all}
use Rattle.std.proofs.lemmas.Str.{IsUtf8-append, IsUtf8-from_ascii}
use Rattle.std.proofs.lemmas.Str.Ascii.{IsAscii-from_all}
use Rattle.std.specs.List.{list_all}
use Rattle.json_views.specs.Instance.{instance_id}
use Rattle.json_views.specs.Occurrence.{occurrence_id}
use Rattle.json_views.specs.Subscription.{subscription_id}
use Rattle.uuid.proofs.TextLemmas.{hyphenated_ascii, nibble_small}
use Rattle.uuid.specs.Text.{by_index, digit_place, hex_digit, hyphenated_text, is_hyphen_place, lower, nibble}
use Rattle.vnfm_base.proofs.IdentLemmas.{length_hyphenated}
use Rattle.vnfm_base.specs.Ident.{ident, ident_text}
use Rattle.vnfm_base.specs.Text.{IsLine, IsPlain, IsShortText}
use Rattle.vnfm_base.specs.declared.identifier.Kind.TheVariants.{Instance, Occurrence, Subscription}

-- what holds at each place holds of the list of these places
all_by_index : (P : ℕ → Type 0) (f : ℕ → ℕ) → ((k : ℕ) → P (f k)) → (n : ℕ) → All P (by_index n f)
unfolding by_index
all_by_index P f each zero = All-from_recursion P [] tt
all_by_index P f each (suc n) = All-append P (by_index n f) (f n ∷ []) (all_by_index P f each n)
    (All-from_recursion P (f n ∷ []) (each n, tt))

-- a digit is plain, and so is what stands at a place of an identifier's text
plain_digit : (d : ℕ) → d < 16 → IsPlain (hex_digit lower d)
plain_digit d small = (grind (arith, nat_tests), grind (arith, nat_tests))

plain_at : (hyphen : Bool) (d : ℕ) → d < 16 → IsPlain (if hyphen then 45 else hex_digit lower d)
plain_at true d small = (omega arith, omega arith)
plain_at false d small = plain_digit d small

-- the text of an identifier is a short one
short_id : (id : List ℕ) → IsShortText 36 (hyphenated_text lower id)
short_id id = record {
  short = rw (length_hyphenated id) (omega arith);
  utf8 = IsUtf8-from_ascii (hyphenated_text lower id) (hyphenated_ascii lower id (inl refl));
  plain = all_by_index IsPlain _ (λ k. plain_at (is_hyphen_place k) (nibble id (digit_place k)) (nibble_small id (digit_place k))) 36;
}

-- visible ASCII
abbrev is_visible : ℕ → Bool
is_visible byte = nat_le 32 byte && nat_lt byte 127

plain-visible : (byte : ℕ) → is_visible byte ≡ true → IsPlain byte
plain-visible byte h = (grind (arith, nat_tests), grind (arith, nat_tests))

ascii-visible : (byte : ℕ) → is_visible byte ≡ true → byte < 128
ascii-visible byte h = grind (arith, nat_tests)

-- a short list of visible ASCII is a short text
short_root : (path : List ℕ) → length path ≤ 64 → list_all is_visible path ≡ true → IsShortText 64 path
short_root path short visible =
    let each = AllPass-from_list_all is_visible path visible in
    record {
      short = short;
      utf8 = IsUtf8-from_ascii path (IsAscii-from_all path (λ k d lt. ascii-visible _ (each k d lt)));
      plain = λ k d lt. plain-visible _ (each k d lt);
    }

-- with an identifier behind it, if it is put there, it is a line
line_with : (there : Bool) (path id : List ℕ) → IsShortText 64 path → IsShortText 36 id → IsLine (if there then path ++ id else path)
line_with true path id before behind = record {
  short = rw (length-append path id) (omega arith);
  utf8 = IsUtf8-append path id before.utf8 behind.utf8;
  plain = All-append IsPlain path id before.plain behind.plain;
}
line_with false path id before behind = record {
  short = omega arith;
  utf8 = before.utf8;
  plain = before.plain;
}

-- so is the path of an instance, and that of an occurrence
pub instance_line : (there : Bool) (m n : ℕ) → IsLine (if there then codes "/vnflcm/v1/vnf_instances/" ++ instance_id m n
    else codes "/vnflcm/v1/vnf_instances/")
unfolding instance_id ident_text
instance_line there m n = line_with there _ _ (short_root (codes "/vnflcm/v1/vnf_instances/") (omega arith) refl)
    (short_id (ident m Instance n))

pub occurrence_line : (there : Bool) (m n : ℕ) → IsLine (if there then codes "/vnflcm/v1/vnf_lcm_op_occs/" ++ occurrence_id m n
    else codes "/vnflcm/v1/vnf_lcm_op_occs/")
unfolding occurrence_id ident_text
occurrence_line there m n = line_with there _ _ (short_root (codes "/vnflcm/v1/vnf_lcm_op_occs/") (omega arith) refl)
    (short_id (ident m Occurrence n))

-- and that of a subscription
pub subscription_line : (there : Bool) (m n : ℕ) → IsLine (if there then codes "/vnflcm/v1/subscriptions/" ++ subscription_id m n
    else codes "/vnflcm/v1/subscriptions/")
unfolding subscription_id ident_text
subscription_line there m n = line_with there _ _ (short_root (codes "/vnflcm/v1/subscriptions/") (omega arith) refl)
    (short_id (ident m Subscription n))
