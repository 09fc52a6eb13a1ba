-- How long a line can be.
use Rattle.std.proofs.Common.{◌≡◌, ℕ, suc, ◌+◌, ◌*◌, ◌^◌, ◌<◌, ◌≤◌, List, [], ◌∷◌, length, map, arith}
use Rattle.std.specs.Prelude.{All, Result, Ok, Err, OnOk, codes, decimal}
use Rattle.std.specs.List.{flat_map}
use Rattle.std.proofs.lemmas.Fmt.{length-decimal-le}
use Rattle.std.proofs.lemmas.List.{length-append}
use Rattle.hex.specs.Hex.{lower_digits}
use Rattle.hex.proofs.HexLemmas.{length-encode_with}
use Rattle.lcm_events.specs.declared.acts.Act.{Act}
use Rattle.lcm_events.specs.declared.attempts.Tag.{Tag}
use Rattle.lcm_events.specs.declared.attempts.Way.{Way}
use Rattle.lcm_events.specs.declared.attempts.Way.TheVariants.{Forward, Undo}
use Rattle.lcm_events.specs.declared.changes.DefKind.{DefKind}
use Rattle.lcm_events.specs.declared.changes.DefKind.TheVariants.{Link, Storage, Compute, Port}
use Rattle.lcm_events.specs.declared.changes.Verb.{Verb}
use Rattle.lcm_events.specs.declared.changes.Verb.TheVariants.{Create, Remove, Start, Stop}
use Rattle.vnfm_base.specs.Text.{IsName}
use Rattle.vim_wire.specs.declared.lines.VimCall.TheVariants.{Begin, Look, Abort}
use Rattle.vim_wire.specs.Parts.{joined}
use Rattle.vim_wire.specs.Lines.{IsTagged, IsAct, call_line, tag_field, way_word, verb_word, kind_word, name_field, line}

pub on_ok : {A E : Type 0} (r : Result A E) (P : Type 0) → P → OnOk r P
on_ok (Ok x) P p = p
on_ok (Err e) P p = tt

-- a number has at most 20 digits
number : (n : ℕ) → n < 2 ^ 64 → length (decimal n) ≤ 20
number n lt = length-decimal-le 20 n (omega arith) (omega arith) lt

-- a name's field has at most 511 bytes
name : (text : List ℕ) → IsName text → length (name_field text) ≤ 511
name text h = let e = length-encode_with lower_digits text in let s = h.short in omega (arith, e, s)

way : (w : Way) → length (way_word w) ≤ 1
way Forward = omega arith
way Undo = omega arith

verb : (v : Verb) → length (verb_word v) ≤ 6
verb Create = omega arith
verb Remove = omega arith
verb Start = omega arith
verb Stop = omega arith

kind : (k : DefKind) → length (kind_word k) ≤ 7
kind Link = omega arith
kind Storage = omega arith
kind Compute = omega arith
kind Port = omega arith

five : (a b d e f : List ℕ) → length (joined 46 (a ∷ b ∷ d ∷ e ∷ f ∷ [])) ≡ length a + length b + length d + length e + length f + 4
five a b d e f = simp length-append (omega arith)

tag_length : (manager : ℕ) (tag : Tag) → IsTagged manager tag → length (tag_field manager tag) ≤ 85
tag_length manager tag h =
    let m = h.manager_fits in let o = h.occ in let b = h.change in let d = h.attempt in
    let l1 = number manager (omega arith) in
    let l2 = number tag.occ o in
    let l3 = number tag.change (omega arith) in
    let l4 = number tag.attempt (omega arith) in
    let l5 = way tag.way in
    let all = five (decimal manager) (decimal tag.occ) (decimal tag.change) (decimal tag.attempt) (way_word tag.way) in
    omega (arith, all, l1, l2, l3, l4, l5)

two : (a b : List ℕ) → length (line (a ∷ b ∷ [])) ≡ length a + length b + 2
two a b = simp length-append (omega arith)

pub look_fits : (manager : ℕ) (tag : Tag) → IsTagged manager tag → length (call_line (Look manager tag)) ≤ 131072
look_fits manager tag h =
    let t = tag_length manager tag h in let e = two (codes "LOOK") (tag_field manager tag) in omega (arith, e, t)

pub abort_fits : (manager : ℕ) (tag : Tag) → IsTagged manager tag → length (call_line (Abort manager tag)) ≤ 131072
abort_fits manager tag h =
    let t = tag_length manager tag h in let e = two (codes "ABORT") (tag_field manager tag) in omega (arith, e, t)

-- the fields of some names, each behind a space
names : (texts : List (List ℕ)) → All IsName texts → length (flat_map (λ f. 32 ∷ f) (map name_field texts)) ≤ 512 * length texts
names [] h = omega arith
names (text ∷ texts) h =
    let first = name text (h 0 [] (omega arith)) in
    let rest = names texts (λ k d lt. h (suc k) d (omega arith)) in
    let whole = length-append (32 ∷ name_field text) (flat_map (λ f. 32 ∷ f) (map name_field texts)) in
    omega (arith, first, rest, whole)

eleven : (w t a b d e f g h i j : List ℕ) (rest : List (List ℕ)) → length (line (w ∷ t ∷ a ∷ b ∷ d ∷ e ∷ f ∷ g ∷ h ∷ i ∷ j ∷ rest))
    ≡ length w + length t + length a + length b + length d + length e + length f + length g + length h + length i + length j + 11
    + length (flat_map (λ p. 32 ∷ p) rest)
eleven w t a b d e f g h i j rest = simp length-append (omega arith)

pub begin_fits : (manager : ℕ) (tag : Tag) (act : Act) → IsTagged manager tag → IsAct act → length act.on ≤ 128
    → length (call_line (Begin manager tag act)) ≤ 131072
begin_fits manager tag act h k most =
    let t = tag_length manager tag h in
    let serial = k.serial in let cpus = k.cpus in
    let l1 = verb act.verb in
    let l2 = kind act.kind in
    let l3 = name act.template k.template in
    let l4 = name act.vdu k.vdu in
    let l5 = number act.serial (omega arith) in
    let l6 = name act.vim k.vim in
    let l7 = name act.zone k.zone in
    let l8 = number act.size k.size in
    let l9 = number act.cpus (omega arith) in
    let on = names act.on k.on in
    let all = eleven (codes "BEGIN") (tag_field manager tag) (verb_word act.verb) (kind_word act.kind) (name_field act.template)
    (name_field act.vdu)
    (decimal act.serial) (name_field act.vim) (name_field act.zone) (decimal act.size) (decimal act.cpus) (map name_field act.on) in
    omega (arith, all, t, l1, l2, l3, l4, l5, l6, l7, l8, l9, on)
