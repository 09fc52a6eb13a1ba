-- The fields of a line hold no space and no line feed, so that a line says one thing.
use Rattle.std.proofs.Common.{◌≡◌, ℕ, ◌^◌, ◌<◌, ◌≤◌, ◌==◌, List, [], ◌∷◌, ◌++◌, true, false, length, map, refl, sym, ◌∙◌, ap, subst, arith}
use Rattle.std.proofs.Common.{Option, Some, None, is_some, nat_le}
use Rattle.std.specs.Prelude.{MatchOption, codes, decimal}
use Rattle.std.proofs.lemmas.Fmt.{length-decimal-le}
use Rattle.hex.specs.Hex.{lower_digits}
use Rattle.hex.proofs.HexLemmas.{length-encode_with}
use Rattle.std.specs.Borrow.{Bor}
use Rattle.std.specs.List.{AllByRecursion}
use Rattle.lcm_events.specs.declared.acts.Act.{Act}
use Rattle.lcm_events.specs.declared.attempts.Tag.{Tag}
use Rattle.lcm_events.specs.declared.attempts.Way.{Way}
use Rattle.lcm_events.specs.declared.attempts.Way.TheVariants.{Forward, Undo}
use Rattle.lcm_events.specs.declared.changes.DefKind.{DefKind}
use Rattle.lcm_events.specs.declared.changes.DefKind.TheVariants.{Link, Storage, Compute, Port}
use Rattle.lcm_events.specs.declared.changes.Verb.{Verb}
use Rattle.lcm_events.specs.declared.changes.Verb.TheVariants.{Create, Remove, Start, Stop}
use Rattle.vnfm_base.specs.Text.{IsName}
use Rattle.vim_wire.specs.Parts.{joined, parts_of}
use Rattle.std.specs.Prelude.{IfOk, Result, Ok, Err}
use Rattle.std.specs.List.{list_all}
use Rattle.std.proofs.lemmas.Bool.{and_parts, leb-true}
use Rattle.std.proofs.lemmas.Bool.Decides.{nat_tests}
use Rattle.std.proofs.lemmas.List.{append_cancel_right, length-append}
use Rattle.vim_wire.specs.declared.fault.VimFault.{VimFault}
use Rattle.vim_wire.specs.declared.lines.VimCall.{VimCall}
use Rattle.vim_wire.specs.declared.lines.VimCall.TheVariants.{Begin, Look, Abort}
use Rattle.vim_wire.specs.declared.lines.VimReply.{VimReply}
use Rattle.vim_wire.specs.declared.lines.VimReply.TheVariants.{Begun, Refused, Absent, Running, Done, Broken, Aborted, Asked}
use Rattle.vim_wire.specs.Lines.{IsTyped, IsCall, IsReply, call_fields, call_line, reply_fields, reply_line, line, IsTagged, IsAct}
use Rattle.vim_wire.specs.Lines.{act_fields, tag_field, way_word, verb_word, kind_word, name_field}
use Rattle.vim_wire.proofs.PartLaws.{Free, Free-append, parts_of-joined, joined-parts_of}
use Rattle.vim_wire.proofs.FieldLaws.{Free-decimal, Free-name}

-- where no part is left, none is given
pub nothing_left : (r : Option (Bor (List ℕ))) (old new : List (List ℕ))
    → MatchOption r ((old ≡ []) × (new ≡ [])) (λ part. old ≡ part.now ∷ new)
    → is_some r ≡ true → old ≡ [] → ⊥
nothing_left None old new h some e = cc
nothing_left (Some part) old new h some e = cc

-- where none is given, none was left
pub all_taken : (r : Option (Bor (List ℕ))) (old new : List (List ℕ))
    → MatchOption r ((old ≡ []) × (new ≡ [])) (λ part. old ≡ part.now ∷ new)
    → is_some r ≡ false → old ≡ []
all_taken None old new h none = h.0
all_taken (Some part) old new h none = absurd cc

-- the parts of an attempt
pub tag_parts : (manager : ℕ) (tag : Tag) (field : List ℕ) → IsTagged manager tag → field ≡ tag_field manager tag
    → parts_of 46 field ≡ decimal manager ∷ decimal tag.occ ∷ decimal tag.change ∷ decimal tag.attempt ∷ way_word tag.way ∷ []
tag_parts manager tag field h e =
    let stop : 46 < 48 = omega arith in
    let m = h.manager_fits in let a = h.occ in let b = h.change in let d = h.attempt in
    ap (parts_of 46) e
    ∙ parts_of-joined 46 (decimal manager) (decimal tag.occ ∷ decimal tag.change ∷ decimal tag.attempt ∷ way_word tag.way ∷ [])
    (Free-decimal 46 stop manager (omega arith)) (
      Free-decimal 46 stop tag.occ a,
      (
        Free-decimal 46 stop tag.change (omega arith),
        (Free-decimal 46 stop tag.attempt (omega arith), (Free-way 46 tag.way, tt)),
      ),
    ) where
      Free-way : (s : ℕ) (way : Way) → Free 46 (way_word way)
      Free-way s Forward = (refl, tt)
      Free-way s Undo = (refl, tt)

-- a list is not another of these two
pub tails : {A : Type 0} (xs : List A) (a b : A) (one other : List A) → xs ≡ a ∷ one → xs ≡ b ∷ other → one ≡ other
tails xs a b one other e f = cc

pub some_or_none : {A : Type 0} (r : Option A) (x : A) → r ≡ None → r ≡ Some x → ⊥
some_or_none r x e f = cc

-- letters stand above the separators and the line feed
above : (b s : ℕ) → s < b → (b == s) ≡ false
above b s lt = grind (arith, nat_tests)

Free-word : (s : ℕ) → s < 65 → (word : List ℕ) → list_all (λ b. nat_le 65 b) word ≡ true → Free s word
Free-word s lt [] h = tt
Free-word s lt (b ∷ word) h =
    let parts = and_parts (nat_le 65 b) (list_all (λ b. nat_le 65 b) word) h in
    let high : 65 ≤ b = leb-true 65 b parts.0 in
    (above b s (omega arith), Free-word s lt word parts.1)

Free-verb : (s : ℕ) → s < 65 → (verb : Verb) → Free s (verb_word verb)
Free-verb s lt Create = Free-word s lt (codes "CREATE") refl
Free-verb s lt Remove = Free-word s lt (codes "REMOVE") refl
Free-verb s lt Start = Free-word s lt (codes "START") refl
Free-verb s lt Stop = Free-word s lt (codes "STOP") refl

Free-kind : (s : ℕ) → s < 65 → (kind : DefKind) → Free s (kind_word kind)
Free-kind s lt Link = Free-word s lt (codes "LINK") refl
Free-kind s lt Storage = Free-word s lt (codes "STORAGE") refl
Free-kind s lt Compute = Free-word s lt (codes "COMPUTE") refl
Free-kind s lt Port = Free-word s lt (codes "PORT") refl

Free-tag : (s : ℕ) → s < 46 → (manager : ℕ) (tag : Tag) → IsTagged manager tag → Free s (tag_field manager tag)
Free-tag s lt manager tag h =
    let low : s < 48 = omega arith in
    let stop : (46 == s) ≡ false = above 46 s lt in
    let m = h.manager_fits in let a = h.occ in let b = h.change in let d = h.attempt in
    Free-append s (decimal manager) _ (Free-decimal s low manager (omega arith)) (
      stop,
      Free-append s (decimal tag.occ) _ (Free-decimal s low tag.occ a) (
        stop,
        Free-append s (decimal tag.change) _ (Free-decimal s low tag.change (omega arith)) (
          stop,
          Free-append s (decimal tag.attempt) _ (Free-decimal s low tag.attempt (omega arith))
              (stop, Free-append s (way_word tag.way) [] (of tag.way) tt),
        ),
      ),
    ) where
      of : (way : Way) → Free s (way_word way)
      of Forward = Free-word s (omega arith) (codes "F") refl
      of Undo = Free-word s (omega arith) (codes "U") refl

Free-names : (s : ℕ) → 0 < s → s < 48 → (names : List (List ℕ)) → AllByRecursion (Free s) (map name_field names)
Free-names s some lt [] = tt
Free-names s some lt (name ∷ names) = (Free-name s some lt name, Free-names s some lt names)

Free-act : (s : ℕ) → 0 < s → s < 46 → (act : Act) → IsAct act → AllByRecursion (Free s) (act_fields act)
Free-act s some lt act h =
    let low : s < 48 = omega arith in
    let a = h.serial in let b = h.size in let d = h.cpus in (
      Free-verb s (omega arith) act.verb,
      (
        Free-kind s (omega arith) act.kind,
        (
          Free-name s some low act.template,
          (
            Free-name s some low act.vdu,
            (
              Free-decimal s low act.serial (omega arith),
              (
                Free-name s some low act.vim,
                (
                  Free-name s some low act.zone,
                  (Free-decimal s low act.size b, (Free-decimal s low act.cpus (omega arith), Free-names s some low act.on)),
                ),
              ),
            ),
          ),
        ),
      ),
    )

-- no field of a call holds a space or a line feed
pub Free-call : (s : ℕ) → 0 < s → s < 46 → (call : VimCall) → IsTyped call → AllByRecursion (Free s) (call_fields call)
Free-call s some lt (Begin manager tag act) h = (
  Free-word s (omega arith) (codes "BEGIN") refl,
  (Free-tag s lt manager tag h.0, Free-act s some lt act h.1),
)
Free-call s some lt (Look manager tag) h = (Free-word s (omega arith) (codes "LOOK") refl, (Free-tag s lt manager tag h, tt))
Free-call s some lt (Abort manager tag) h = (Free-word s (omega arith) (codes "ABORT") refl, (Free-tag s lt manager tag h, tt))

-- nor does one of a reply
pub Free-reply : (s : ℕ) → 0 < s → s < 46 → (reply : VimReply) → IsReply reply → AllByRecursion (Free s) (reply_fields reply)
Free-reply s some lt Begun h = (Free-word s (omega arith) (codes "BEGUN") refl, tt)
Free-reply s some lt (Refused code) h = (
  Free-word s (omega arith) (codes "REFUSED") refl,
  (Free-decimal s (omega arith) code (omega arith), tt),
)
Free-reply s some lt Absent h = (Free-word s (omega arith) (codes "ABSENT") refl, tt)
Free-reply s some lt Running h = (Free-word s (omega arith) (codes "RUNNING") refl, tt)
Free-reply s some lt (Done name) h = (Free-word s (omega arith) (codes "DONE") refl, (Free-name s some (omega arith) name, tt))
Free-reply s some lt (Broken code) h = (
  Free-word s (omega arith) (codes "BROKEN") refl,
  (Free-decimal s (omega arith) code (omega arith), tt),
)
Free-reply s some lt Aborted h = (Free-word s (omega arith) (codes "ABORTED") refl, tt)
Free-reply s some lt Asked h = (Free-word s (omega arith) (codes "ASKED") refl, tt)

-- the fields of a line are the parts of what stands before its line feed
pub parts_of-fields : (fields : List (List ℕ)) (front : List ℕ) → AllByRecursion (Free 32) fields → (fields ≡ [] → ⊥)
    → front ++ 10 ∷ [] ≡ line fields → parts_of 32 front ≡ fields
parts_of-fields [] front free some e = absurd (some refl)
parts_of-fields (word ∷ fields) front free some e =
    ap (parts_of 32) (append_cancel_right front (joined 32 (word ∷ fields)) (10 ∷ []) e) ∙ parts_of-joined 32 word fields free.0 free.1

-- and these joined are the line
pub line-parts_of : (fields : List (List ℕ)) (front bytes : List ℕ) → parts_of 32 front ≡ fields → bytes ≡ front ++ 10 ∷ []
    → bytes ≡ line fields
line-parts_of fields front bytes e f =
    f ∙ ap (λ t. t ++ 10 ∷ []) (sym (joined-parts_of 32 front) ∙ ap (joined 32) e)

some_call : (call : VimCall) → call_fields call ≡ [] → ⊥
some_call (Begin manager tag act) e = cc
some_call (Look manager tag) e = cc
some_call (Abort manager tag) e = cc

some_reply : (reply : VimReply) → reply_fields reply ≡ [] → ⊥
some_reply Begun e = cc
some_reply (Refused code) e = cc
some_reply Absent e = cc
some_reply Running e = cc
some_reply (Done name) e = cc
some_reply (Broken code) e = cc
some_reply Aborted e = cc
some_reply Asked e = cc

pub call_parts : (call : VimCall) (front bytes : List ℕ) → IsTyped call → bytes ≡ front ++ 10 ∷ [] → bytes ≡ call_line call
    → parts_of 32 front ≡ call_fields call
call_parts call front bytes h e f =
    parts_of-fields (call_fields call) front (Free-call 32 (omega arith) (omega arith) call h) (some_call call) (sym e ∙ f)

pub reply_parts : (reply : VimReply) (front bytes : List ℕ) → IsReply reply → bytes ≡ front ++ 10 ∷ [] → bytes ≡ reply_line reply
    → parts_of 32 front ≡ reply_fields reply
reply_parts reply front bytes h e f =
    parts_of-fields (reply_fields reply) front (Free-reply 32 (omega arith) (omega arith) reply h) (some_reply reply) (sym e ∙ f)

short_line : (a b : List ℕ) → length a ≤ 10 → length b ≤ 511 → length (line (a ∷ b ∷ [])) ≤ 131072
short_line a b la lb = simp length-append (omega arith)

shortest_line : (a : List ℕ) → length a ≤ 10 → length (line (a ∷ [])) ≤ 131072
shortest_line a la = simp length-append (omega arith)

short_number : (code : ℕ) → code < 2 ^ 32 → length (decimal code) ≤ 511
short_number code lt = let s = length-decimal-le 20 code (omega arith) (omega arith) (omega arith) in omega (arith, s)

short_name : (name : List ℕ) → IsName name → length (name_field name) ≤ 511
short_name name h = let e = length-encode_with lower_digits name in let s = h.short in omega (arith, e, s)

-- no reply's line is too long
pub reply_fits : (reply : VimReply) → IsReply reply → length (reply_line reply) ≤ 131072
reply_fits Begun h = shortest_line (codes "BEGUN") (omega arith)
reply_fits (Refused code) h = short_line (codes "REFUSED") (decimal code) (omega arith) (short_number code h)
reply_fits Absent h = shortest_line (codes "ABSENT") (omega arith)
reply_fits Running h = shortest_line (codes "RUNNING") (omega arith)
reply_fits (Done name) h = short_line (codes "DONE") (name_field name) (omega arith) (short_name name h)
reply_fits (Broken code) h = short_line (codes "BROKEN") (decimal code) (omega arith) (short_number code h)
reply_fits Aborted h = shortest_line (codes "ABORTED") (omega arith)
reply_fits Asked h = shortest_line (codes "ASKED") (omega arith)

-- fields that begin with this word are those of a resource that is done
pub done_of : (reply : VimReply) (word : List ℕ) (fields : List (List ℕ)) → IsReply reply → word ≡ codes "DONE"
    → word ∷ fields ≡ reply_fields reply
    → (name : List ℕ) × ((fields ≡ name_field name ∷ []) × IsName name)
done_of Begun word fields h w e = absurd cc
done_of (Refused code) word fields h w e = absurd cc
done_of Absent word fields h w e = absurd cc
done_of Running word fields h w e = absurd cc
done_of (Done name) word fields h w e = (name, (cc, h))
done_of (Broken code) word fields h w e = absurd cc
done_of Aborted word fields h w e = absurd cc
done_of Asked word fields h w e = absurd cc

-- a call that was read has this line
pub call_found : (r : Result VimCall VimFault) (bytes front : List ℕ) (parts : List (List ℕ)) → parts ≡ parts_of 32 front
    → length bytes ≤ 131072
    → bytes ≡ front ++ 10 ∷ [] → IfOk r (λ call. IsTyped call × (parts ≡ call_fields call))
    → IfOk r (λ call. IsCall call × (bytes ≡ call_line call))
call_found (Err fault) bytes front parts p len e h = tt
call_found (Ok call) bytes front parts p len e h =
    let is : bytes ≡ call_line call = line-parts_of (call_fields call) front bytes (sym p ∙ h.1) e in
    let P : List ℕ → Type 0 = λ t. length t ≤ 131072 in
    ((h.0, subst P is len), is)
