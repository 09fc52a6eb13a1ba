-- Lines that begin alike are one line.
use Rattle.std.proofs.Common.{◌≡◌, ℕ, suc, ◌<◌, ◌==◌, List, [], ◌∷◌, ◌++◌, true, false, map, refl, sym, ◌∙◌, ap, subst, arith, append_assoc}
use Rattle.std.specs.Prelude.{All, codes, decimal}
use Rattle.std.specs.List.{flat_map, AllByRecursion}
use Rattle.std.proofs.lemmas.Fmt.{decimal_injective}
use Rattle.std.proofs.lemmas.Slice.Eq.{bytes_eq-Decides}
use Rattle.std.specs.Str.{bytes_eq}
use Rattle.lcm_events.specs.declared.acts.Act.{Act}
use Rattle.lcm_events.specs.declared.attempts.Tag.{Tag}
use Rattle.lcm_events.specs.declared.attempts.Way.{Way}
use Rattle.lcm_events.specs.declared.attempts.Way.TheVariants.{Forward, Undo}
use Rattle.lcm_events.specs.declared.changes.DefKind.{DefKind}
use Rattle.lcm_events.specs.declared.changes.DefKind.TheVariants.{Link, Storage, Compute, Port}
use Rattle.lcm_events.specs.declared.changes.Verb.{Verb}
use Rattle.lcm_events.specs.declared.changes.Verb.TheVariants.{Create, Remove, Start, Stop}
use Rattle.vnfm_base.specs.Text.{IsName}
use Rattle.vim_wire.specs.declared.lines.VimCall.{VimCall}
use Rattle.vim_wire.specs.declared.lines.VimCall.TheVariants.{Begin, Look, Abort}
use Rattle.vim_wire.specs.declared.lines.VimReply.{VimReply}
use Rattle.vim_wire.specs.declared.lines.VimReply.TheVariants.{Begun, Refused, Absent, Running, Done, Broken, Aborted, Asked}
use Rattle.vim_wire.specs.Parts.{joined, parts_of}
use Rattle.vim_wire.specs.Lines.{IsTyped, IsReply, IsTagged, IsAct, act_fields, call_fields, reply_fields, tag_field, way_word, verb_word}
use Rattle.vim_wire.specs.Lines.{kind_word, name_field}
use Rattle.vim_wire.specs.Prefix.{Either, called, replied, spelling, HasLine, NoLineBeginsAnother}
use Rattle.vim_wire.proofs.PartLaws.{Free, Free-append, parts_of-joined}
use Rattle.vim_wire.proofs.FieldLaws.{name_field-injective}
use Rattle.vim_wire.proofs.LineLaws.{tag_parts, Free-call, Free-reply}

-- the first line feed ends both lines
cut : (a b rest behind : List ℕ) → Free 10 a → Free 10 b → a ++ 10 ∷ rest ≡ b ++ 10 ∷ behind → (a ≡ b) × (rest ≡ behind)
cut [] [] rest behind f g e = (refl, cc)
cut [] (y ∷ b) rest behind f g e =
    let is : y ≡ 10 = (cc) in let no : (10 == 10) ≡ false = subst (λ (n : ℕ). (n == 10) ≡ false) is g.0 in absurd (differ no) where
      differ : (10 == 10) ≡ false → ⊥
      differ h = cc
cut (x ∷ a) [] rest behind f g e =
    let is : x ≡ 10 = (cc) in let no : (10 == 10) ≡ false = subst (λ (n : ℕ). (n == 10) ≡ false) is f.0 in absurd (differ no) where
      differ : (10 == 10) ≡ false → ⊥
      differ h = cc
cut (x ∷ a) (y ∷ b) rest behind f g e =
    let head : x ≡ y = (cc) in
    let tail : a ++ 10 ∷ rest ≡ b ++ 10 ∷ behind = (cc) in
    let both = cut a b rest behind f.1 g.1 tail in
    let front = both.0 in ((cc), both.1)

Free-joined : (fields : List (List ℕ)) → AllByRecursion (Free 10) fields → Free 10 (joined 32 fields)
Free-joined [] free = tt
Free-joined (field ∷ fields) free = Free-append 10 field (flat_map (λ p. 32 ∷ p) fields) free.0 (behind fields free.1) where
  behind : (fields : List (List ℕ)) → AllByRecursion (Free 10) fields → Free 10 (flat_map (λ p. 32 ∷ p) fields)
  behind [] free = tt
  behind (field ∷ fields) free = (refl, Free-append 10 field (flat_map (λ p. 32 ∷ p) fields) free.0 (behind fields free.1))

-- fields joined alike are alike
same_fields : (a b : List ℕ) (one other : List (List ℕ)) → AllByRecursion (Free 32) (a ∷ one) → AllByRecursion (Free 32) (b ∷ other)
    → joined 32 (a ∷ one) ≡ joined 32 (b ∷ other) → a ∷ one ≡ b ∷ other
same_fields a b one other f g e = sym (parts_of-joined 32 a one f.0 f.1) ∙ ap (parts_of 32) e ∙ parts_of-joined 32 b other g.0 g.1

-- words that a test tells apart aren't the same
apart : (a b : List ℕ) → bytes_eq a b ≡ false → a ≡ b → ⊥
apart a b other e = let same : bytes_eq a b ≡ true = (bytes_eq-Decides a b).1 e in differ (sym other ∙ same) where
  differ : false ≡ true → ⊥
  differ h = cc

-- the first of some fields
word_of : List (List ℕ) → List ℕ
word_of [] = []
word_of (word ∷ rest) = word

other_fields : (a b : List (List ℕ)) → bytes_eq (word_of a) (word_of b) ≡ false → a ≡ b → ⊥
other_fields a b other e = apart (word_of a) (word_of b) other (ap word_of e)

same_way : (a b : Way) → way_word a ≡ way_word b → a ≡ b
same_way Forward Forward e = refl
same_way Undo Undo e = refl
same_way a b e = absurd (apart (way_word a) (way_word b) refl e)

same_verb : (a b : Verb) → verb_word a ≡ verb_word b → a ≡ b
same_verb Create Create e = refl
same_verb Remove Remove e = refl
same_verb Start Start e = refl
same_verb Stop Stop e = refl
same_verb a b e = absurd (apart (verb_word a) (verb_word b) refl e)

same_kind : (a b : DefKind) → kind_word a ≡ kind_word b → a ≡ b
same_kind Link Link e = refl
same_kind Storage Storage e = refl
same_kind Compute Compute e = refl
same_kind Port Port e = refl
same_kind a b e = absurd (apart (kind_word a) (kind_word b) refl e)

same_names : (a b : List (List ℕ)) → All IsName a → All IsName b → map name_field a ≡ map name_field b → a ≡ b
same_names [] [] f g e = refl
same_names [] (y ∷ b) f g e = absurd cc
same_names (x ∷ a) [] f g e = absurd cc
same_names (x ∷ a) (y ∷ b) f g e =
    let first : name_field x ≡ name_field y = (cc) in
    let rest : map name_field a ≡ map name_field b = (cc) in
    let heads = name_field-injective x y (f 0 [] (omega arith)) (g 0 [] (omega arith)) first in
    let tails = same_names a b (λ k d lt. f (suc k) d (omega arith)) (λ k d lt. g (suc k) d (omega arith)) rest in
    cc

-- equal members make one attempt
tag_of : (a b : Tag) → a.occ ≡ b.occ → a.change ≡ b.change → a.attempt ≡ b.attempt → a.way ≡ b.way → a ≡ b
tag_of a b e f g h =
    let made : ℕ → ℕ → ℕ → Way → Tag = λ occ change attempt way. record { occ = occ; change = change; attempt = attempt; way = way } in
    ap (λ n. made n a.change a.attempt a.way) e ∙ ap (λ n. made b.occ n a.attempt a.way) f
    ∙ ap (λ n. made b.occ b.change n a.way) g ∙ ap (λ w. made b.occ b.change b.attempt w) h

same_tag : (m n : ℕ) (a b : Tag) → IsTagged m a → IsTagged n b → tag_field m a ≡ tag_field n b → (m ≡ n) × (a ≡ b)
same_tag m n a b h k e =
    let parts = sym (tag_parts m a (tag_field m a) h refl) ∙ ap (parts_of 46) e ∙ tag_parts n b (tag_field n b) k refl in
    let hm = h.manager_fits in let hc = h.change in let ha = h.attempt in
    let km = k.manager_fits in let kc = k.change in let ka = k.attempt in
    let m1 : decimal m ≡ decimal n = cc parts in
    let o1 : decimal a.occ ≡ decimal b.occ = cc parts in
    let c1 : decimal a.change ≡ decimal b.change = cc parts in
    let t1 : decimal a.attempt ≡ decimal b.attempt = cc parts in
    let w1 : way_word a.way ≡ way_word b.way = cc parts in (
      decimal_injective m n (omega arith) (omega arith) m1,
      tag_of a b (decimal_injective a.occ b.occ h.occ k.occ o1) (decimal_injective a.change b.change (omega arith) (omega arith) c1)
          (decimal_injective a.attempt b.attempt (omega arith) (omega arith) t1) (same_way a.way b.way w1),
    )

-- equal members make one act
act_of : (a b : Act) → a.verb ≡ b.verb → a.kind ≡ b.kind → a.template ≡ b.template → a.vdu ≡ b.vdu → a.serial ≡ b.serial → a.vim ≡ b.vim
    → a.zone ≡ b.zone → a.size ≡ b.size → a.cpus ≡ b.cpus → a.on ≡ b.on → a ≡ b
act_of a b e1 e2 e3 e4 e5 e6 e7 e8 e9 e10 =
    let made : Verb → DefKind → List ℕ → List ℕ → ℕ → List ℕ → List ℕ → ℕ → ℕ → List (List ℕ) → Act =
    λ verb kind template vdu serial vim zone size cpus on. record {
      verb = verb;
      kind = kind;
      template = template;
      vdu = vdu;
      serial = serial;
      vim = vim;
      zone = zone;
      size = size;
      cpus = cpus;
      on = on;
    } in
    ap (λ x. made x a.kind a.template a.vdu a.serial a.vim a.zone a.size a.cpus a.on) e1
    ∙ ap (λ x. made b.verb x a.template a.vdu a.serial a.vim a.zone a.size a.cpus a.on) e2
    ∙ ap (λ x. made b.verb b.kind x a.vdu a.serial a.vim a.zone a.size a.cpus a.on) e3
    ∙ ap (λ x. made b.verb b.kind b.template x a.serial a.vim a.zone a.size a.cpus a.on) e4
    ∙ ap (λ x. made b.verb b.kind b.template b.vdu x a.vim a.zone a.size a.cpus a.on) e5
    ∙ ap (λ x. made b.verb b.kind b.template b.vdu b.serial x a.zone a.size a.cpus a.on) e6
    ∙ ap (λ x. made b.verb b.kind b.template b.vdu b.serial b.vim x a.size a.cpus a.on) e7
    ∙ ap (λ x. made b.verb b.kind b.template b.vdu b.serial b.vim b.zone x a.cpus a.on) e8
    ∙ ap (λ x. made b.verb b.kind b.template b.vdu b.serial b.vim b.zone b.size x a.on) e9
    ∙ ap (λ x. made b.verb b.kind b.template b.vdu b.serial b.vim b.zone b.size b.cpus x) e10

same_act : (a b : Act) → IsAct a → IsAct b → act_fields a ≡ act_fields b → a ≡ b
same_act a b h k e =
    let hs = h.serial in let hc = h.cpus in let ks = k.serial in let kc = k.cpus in
    let e1 : verb_word a.verb ≡ verb_word b.verb = (cc) in
    let e2 : kind_word a.kind ≡ kind_word b.kind = (cc) in
    let e3 : name_field a.template ≡ name_field b.template = (cc) in
    let e4 : name_field a.vdu ≡ name_field b.vdu = (cc) in
    let e5 : decimal a.serial ≡ decimal b.serial = (cc) in
    let e6 : name_field a.vim ≡ name_field b.vim = (cc) in
    let e7 : name_field a.zone ≡ name_field b.zone = (cc) in
    let e8 : decimal a.size ≡ decimal b.size = (cc) in
    let e9 : decimal a.cpus ≡ decimal b.cpus = (cc) in
    let e10 : map name_field a.on ≡ map name_field b.on = (cc) in
    act_of a b (same_verb a.verb b.verb e1) (same_kind a.kind b.kind e2)
    (name_field-injective a.template b.template h.template k.template e3)
    (name_field-injective a.vdu b.vdu h.vdu k.vdu e4) (decimal_injective a.serial b.serial (omega arith) (omega arith) e5)
    (name_field-injective a.vim b.vim h.vim k.vim e6) (name_field-injective a.zone b.zone h.zone k.zone e7)
    (decimal_injective a.size b.size h.size k.size e8) (decimal_injective a.cpus b.cpus (omega arith) (omega arith) e9)
    (same_names a.on b.on h.on k.on e10)

same_call : (a b : VimCall) → IsTyped a → IsTyped b → call_fields a ≡ call_fields b → a ≡ b
unfolding word_of
same_call (Begin m t a) (Begin n u b) h k e =
    let tags : tag_field m t ≡ tag_field n u = (cc) in
    let acts : act_fields a ≡ act_fields b = (cc) in
    let tag = same_tag m n t u h.0 k.0 tags in
    let e1 = tag.0 in let e2 = tag.1 in let e3 = same_act a b h.1 k.1 acts in cc
same_call (Look m t) (Look n u) h k e =
    let tags : tag_field m t ≡ tag_field n u = (cc) in
    let tag = same_tag m n t u h k tags in let e1 = tag.0 in let e2 = tag.1 in cc
same_call (Abort m t) (Abort n u) h k e =
    let tags : tag_field m t ≡ tag_field n u = (cc) in
    let tag = same_tag m n t u h k tags in let e1 = tag.0 in let e2 = tag.1 in cc
same_call a b h k e = absurd (other_fields (call_fields a) (call_fields b) refl e)

same_reply : (a b : VimReply) → IsReply a → IsReply b → reply_fields a ≡ reply_fields b → a ≡ b
unfolding word_of
same_reply Begun Begun h k e = refl
same_reply (Refused m) (Refused n) h k e =
    let codes : decimal m ≡ decimal n = (cc) in let same = decimal_injective m n (omega arith) (omega arith) codes in cc
same_reply Absent Absent h k e = refl
same_reply Running Running h k e = refl
same_reply (Done m) (Done n) h k e =
    let names : name_field m ≡ name_field n = (cc) in let same = name_field-injective m n h k names in cc
same_reply (Broken m) (Broken n) h k e =
    let codes : decimal m ≡ decimal n = (cc) in let same = decimal_injective m n (omega arith) (omega arith) codes in cc
same_reply Aborted Aborted h k e = refl
same_reply Asked Asked h k e = refl
same_reply a b h k e = absurd (other_fields (reply_fields a) (reply_fields b) refl e)

no_reply : (a : VimCall) (b : VimReply) → call_fields a ≡ reply_fields b → ⊥
unfolding word_of
no_reply (Begin m t a) b e = begins (tag_field m t ∷ act_fields a) b e where
  begins : (rest : List (List ℕ)) (b : VimReply) → codes "BEGIN" ∷ rest ≡ reply_fields b → ⊥
  begins rest Begun e = other_fields (codes "BEGIN" ∷ rest) (reply_fields Begun) refl e
  begins rest (Refused n) e = other_fields (codes "BEGIN" ∷ rest) (reply_fields (Refused n)) refl e
  begins rest Absent e = other_fields (codes "BEGIN" ∷ rest) (reply_fields Absent) refl e
  begins rest Running e = other_fields (codes "BEGIN" ∷ rest) (reply_fields Running) refl e
  begins rest (Done n) e = other_fields (codes "BEGIN" ∷ rest) (reply_fields (Done n)) refl e
  begins rest (Broken n) e = other_fields (codes "BEGIN" ∷ rest) (reply_fields (Broken n)) refl e
  begins rest Aborted e = other_fields (codes "BEGIN" ∷ rest) (reply_fields Aborted) refl e
  begins rest Asked e = other_fields (codes "BEGIN" ∷ rest) (reply_fields Asked) refl e
no_reply (Look m t) b e = looks (tag_field m t ∷ []) b e where
  looks : (rest : List (List ℕ)) (b : VimReply) → codes "LOOK" ∷ rest ≡ reply_fields b → ⊥
  looks rest Begun e = other_fields (codes "LOOK" ∷ rest) (reply_fields Begun) refl e
  looks rest (Refused n) e = other_fields (codes "LOOK" ∷ rest) (reply_fields (Refused n)) refl e
  looks rest Absent e = other_fields (codes "LOOK" ∷ rest) (reply_fields Absent) refl e
  looks rest Running e = other_fields (codes "LOOK" ∷ rest) (reply_fields Running) refl e
  looks rest (Done n) e = other_fields (codes "LOOK" ∷ rest) (reply_fields (Done n)) refl e
  looks rest (Broken n) e = other_fields (codes "LOOK" ∷ rest) (reply_fields (Broken n)) refl e
  looks rest Aborted e = other_fields (codes "LOOK" ∷ rest) (reply_fields Aborted) refl e
  looks rest Asked e = other_fields (codes "LOOK" ∷ rest) (reply_fields Asked) refl e
no_reply (Abort m t) b e = aborts (tag_field m t ∷ []) b e where
  aborts : (rest : List (List ℕ)) (b : VimReply) → codes "ABORT" ∷ rest ≡ reply_fields b → ⊥
  aborts rest Begun e = other_fields (codes "ABORT" ∷ rest) (reply_fields Begun) refl e
  aborts rest (Refused n) e = other_fields (codes "ABORT" ∷ rest) (reply_fields (Refused n)) refl e
  aborts rest Absent e = other_fields (codes "ABORT" ∷ rest) (reply_fields Absent) refl e
  aborts rest Running e = other_fields (codes "ABORT" ∷ rest) (reply_fields Running) refl e
  aborts rest (Done n) e = other_fields (codes "ABORT" ∷ rest) (reply_fields (Done n)) refl e
  aborts rest (Broken n) e = other_fields (codes "ABORT" ∷ rest) (reply_fields (Broken n)) refl e
  aborts rest Aborted e = other_fields (codes "ABORT" ∷ rest) (reply_fields Aborted) refl e
  aborts rest Asked e = other_fields (codes "ABORT" ∷ rest) (reply_fields Asked) refl e

-- the fields of a line, and that none of them holds a separator
fields_of : Either → List (List ℕ)
fields_of (called call) = call_fields call
fields_of (replied reply) = reply_fields reply

free : (s : ℕ) → 0 < s → s < 46 → (a : Either) → HasLine a → AllByRecursion (Free s) (fields_of a)
unfolding fields_of
free s some lt (called call) h = Free-call s some lt call h.0
free s some lt (replied reply) h = Free-reply s some lt reply h

spelled : (a : Either) → spelling a ≡ joined 32 (fields_of a) ++ 10 ∷ []
unfolding fields_of
spelled (called call) = refl
spelled (replied reply) = refl

same_line : (a b : Either) → HasLine a → HasLine b → fields_of a ≡ fields_of b → a ≡ b
unfolding fields_of
same_line (called a) (called b) h k e = ap called (same_call a b h.0 k.0 e)
same_line (replied a) (replied b) h k e = ap replied (same_reply a b h k e)
same_line (called a) (replied b) h k e = absurd (no_reply a b e)
same_line (replied a) (called b) h k e = absurd (no_reply b a (sym e))

fields_some : (a : Either) → (word : List ℕ) × (rest : List (List ℕ)) × (fields_of a ≡ word ∷ rest)
unfolding fields_of
fields_some (called (Begin m t a)) = (codes "BEGIN", tag_field m t ∷ act_fields a, refl)
fields_some (called (Look m t)) = (codes "LOOK", tag_field m t ∷ [], refl)
fields_some (called (Abort m t)) = (codes "ABORT", tag_field m t ∷ [], refl)
fields_some (replied Begun) = (codes "BEGUN", [], refl)
fields_some (replied (Refused n)) = (codes "REFUSED", decimal n ∷ [], refl)
fields_some (replied Absent) = (codes "ABSENT", [], refl)
fields_some (replied Running) = (codes "RUNNING", [], refl)
fields_some (replied (Done n)) = (codes "DONE", name_field n ∷ [], refl)
fields_some (replied (Broken n)) = (codes "BROKEN", decimal n ∷ [], refl)
fields_some (replied Aborted) = (codes "ABORTED", [], refl)
fields_some (replied Asked) = (codes "ASKED", [], refl)

pub first_line : NoLineBeginsAnother
first_line a b rest behind h k e =
    let fa = fields_some a in let fb = fields_some b in
    let split : joined 32 (fields_of a) ++ 10 ∷ rest ≡ joined 32 (fields_of b) ++ 10 ∷ behind =
    sym (append_assoc (joined 32 (fields_of a)) (10 ∷ []) rest) ∙ ap (λ t. t ++ rest) (sym (spelled a)) ∙ e
    ∙ ap (λ t. t ++ behind) (spelled b) ∙ append_assoc (joined 32 (fields_of b)) (10 ∷ []) behind in
    let parts = cut (joined 32 (fields_of a)) (joined 32 (fields_of b)) rest behind
    (Free-joined (fields_of a) (free 10 (omega arith) (omega arith) a h))
    (Free-joined (fields_of b) (free 10 (omega arith) (omega arith) b k)) split in
    let Q : List (List ℕ) → Type 0 = AllByRecursion (Free 32) in
    let one = subst Q fa.2 (free 32 (omega arith) (omega arith) a h) in
    let other = subst Q fb.2 (free 32 (omega arith) (omega arith) b k) in
    let same = fa.2 ∙ same_fields fa.0 fb.0 fa.1 fb.1 one other (ap (joined 32) (sym fa.2) ∙ parts.0 ∙ ap (joined 32) fb.2) ∙ sym fb.2 in
    (same_line a b h k same, parts.1)
