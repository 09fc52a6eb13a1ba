-- Each test of equality is true exactly of equal values.
use Rattle.std.proofs.Common.{◌≡◌, ℕ, Bool, true, false, ◌==◌, ◌&&◌, refl}
use Rattle.std.proofs.lemmas.Bool.{eqb-true, eq-eqb}
use Rattle.std.specs.Cmp.Derive.{both_true}
use Rattle.lcm_events.specs.declared.attempts.Way.{Way}
use Rattle.lcm_events.specs.declared.attempts.Way.TheVariants.{Forward, Undo}
use Rattle.lcm_events.specs.declared.attempts.Tag.{Tag}
use Rattle.lcm_events.specs.declared.changes.DefKind.{DefKind}
use Rattle.lcm_events.specs.declared.changes.DefKind.TheVariants.{Link, Storage, Compute, Port}
use Rattle.lcm_events.specs.declared.changes.Def.{Def}
use Rattle.lcm_events.specs.declared.changes.Verb.{Verb}
use Rattle.lcm_events.specs.declared.changes.Verb.TheVariants.{Create, Remove, Start, Stop}
use Rattle.lcm_events.specs.declared.changes.Change.{Change}
use Rattle.lcm_events.specs.declared.states.OpState.{OpState}
use Rattle.lcm_events.specs.declared.states.OpState.TheVariants.{Starting, Processing, Completed, FailedTemp, Failed, RollingBack}
use Rattle.lcm_events.specs.declared.states.OpState.TheVariants.{RolledBack}
use Rattle.lcm_events.specs.declared.states.Role.{Role}
use Rattle.lcm_events.specs.declared.states.Role.TheVariants.{Orchestrator, Element}
use Rattle.lcm_events.specs.Same.{same_way, same_tag, same_kind, same_def, same_verb, same_change, same_state, same_role, way_number}
use Rattle.lcm_events.specs.Same.{kind_number, verb_number, state_number, role_number}

pub and-true_front : (a b : Bool) → (a && b) ≡ true → a ≡ true
and-true_front true b h = refl
and-true_front false b h = h

pub and-true_back : (a b : Bool) → (a && b) ≡ true → b ≡ true
and-true_back true b h = h
and-true_back false b h = cc

pub same_way-true : (a b : Way) → same_way a b ≡ true → a ≡ b
same_way-true Forward Forward h = refl
same_way-true Undo Undo h = refl
same_way-true _ _ h = cc

pub same_kind-true : (a b : DefKind) → same_kind a b ≡ true → a ≡ b
same_kind-true Link Link h = refl
same_kind-true Storage Storage h = refl
same_kind-true Compute Compute h = refl
same_kind-true Port Port h = refl
same_kind-true _ _ h = cc

pub same_verb-true : (a b : Verb) → same_verb a b ≡ true → a ≡ b
same_verb-true Create Create h = refl
same_verb-true Remove Remove h = refl
same_verb-true Start Start h = refl
same_verb-true Stop Stop h = refl
same_verb-true _ _ h = cc

pub same_state-true : (a b : OpState) → same_state a b ≡ true → a ≡ b
same_state-true Starting Starting h = refl
same_state-true Processing Processing h = refl
same_state-true Completed Completed h = refl
same_state-true FailedTemp FailedTemp h = refl
same_state-true Failed Failed h = refl
same_state-true RollingBack RollingBack h = refl
same_state-true RolledBack RolledBack h = refl
same_state-true _ _ h = cc

pub same_role-true : (a b : Role) → same_role a b ≡ true → a ≡ b
same_role-true Orchestrator Orchestrator h = refl
same_role-true Element Element h = refl
same_role-true _ _ h = cc

pub eq-refl : (n : ℕ) → (n == n) ≡ true
eq-refl n = eq-eqb n n refl

pub same_way-refl : (a : Way) → same_way a a ≡ true
same_way-refl a = eq-refl (way_number a)

pub same_kind-refl : (a : DefKind) → same_kind a a ≡ true
same_kind-refl a = eq-refl (kind_number a)

pub same_verb-refl : (a : Verb) → same_verb a a ≡ true
same_verb-refl a = eq-refl (verb_number a)

pub same_state-refl : (a : OpState) → same_state a a ≡ true
same_state-refl a = eq-refl (state_number a)

pub same_role-refl : (a : Role) → same_role a a ≡ true
same_role-refl a = eq-refl (role_number a)

tag_of : ℕ → ℕ → ℕ → Way → Tag
tag_of o c n w = record { occ = o; change = c; attempt = n; way = w }

def_of : DefKind → ℕ → ℕ → ℕ → Def
def_of k n v s = record { kind = k; item = n; vdu = v; serial = s }

change_of : ℕ → Verb → Def → Change
change_of p v d = record { phase = p; verb = v; def = d }

tag_of-join : (o p c d m n : ℕ) (v w : Way) → o ≡ p → c ≡ d → m ≡ n → v ≡ w → tag_of o c m v ≡ tag_of p d n w
tag_of-join o p c d m n v w eo ec em ev = cc

def_of-join : (k l : DefKind) (m n u v s t : ℕ) → k ≡ l → m ≡ n → u ≡ v → s ≡ t → def_of k m u s ≡ def_of l n v t
def_of-join k l m n u v s t ek em eu es = cc

change_of-join : (p q : ℕ) (v w : Verb) (d e : Def) → p ≡ q → v ≡ w → d ≡ e → change_of p v d ≡ change_of q w e
change_of-join p q v w d e ep ev ed = cc

-- tags with equal fields are equal
pub tag_ext : {a b : Tag} → a.occ ≡ b.occ → a.change ≡ b.change → a.attempt ≡ b.attempt → a.way ≡ b.way → a ≡ b
unfolding tag_of
tag_ext {a} {b} eo ec em ew = tag_of-join a.occ b.occ a.change b.change a.attempt b.attempt a.way b.way eo ec em ew

-- definitions with equal fields are equal
pub def_ext : {a b : Def} → a.kind ≡ b.kind → a.item ≡ b.item → a.vdu ≡ b.vdu → a.serial ≡ b.serial → a ≡ b
unfolding def_of
def_ext {a} {b} ek em eu es = def_of-join a.kind b.kind a.item b.item a.vdu b.vdu a.serial b.serial ek em eu es

-- changes with equal fields are equal
pub change_ext : {a b : Change} → a.phase ≡ b.phase → a.verb ≡ b.verb → a.def ≡ b.def → a ≡ b
unfolding change_of
change_ext {a} {b} ep ev ed = change_of-join a.phase b.phase a.verb b.verb a.def b.def ep ev ed

pub same_tag-true : (a b : Tag) → same_tag a b ≡ true → a ≡ b
same_tag-true a b h =
    let way : a.way ≡ b.way = same_way-true _ _ (and-true_back _ _ h) in
    let attempt : a.attempt ≡ b.attempt = eqb-true _ _ (and-true_back _ _ (and-true_front _ _ h)) in
    let change : a.change ≡ b.change = eqb-true _ _ (and-true_back _ _ (and-true_front _ _ (and-true_front _ _ h))) in
    let occ : a.occ ≡ b.occ = eqb-true _ _ (and-true_front _ _ (and-true_front _ _ (and-true_front _ _ h))) in
    tag_ext occ change attempt way

pub same_tag-refl : (a : Tag) → same_tag a a ≡ true
same_tag-refl a = both_true (both_true (both_true (eq-refl a.occ) (eq-refl a.change)) (eq-refl a.attempt)) (same_way-refl a.way)

pub same_def-true : (a b : Def) → same_def a b ≡ true → a ≡ b
same_def-true a b h =
    let serial : a.serial ≡ b.serial = eqb-true _ _ (and-true_back _ _ h) in
    let vdu : a.vdu ≡ b.vdu = eqb-true _ _ (and-true_back _ _ (and-true_front _ _ h)) in
    let item : a.item ≡ b.item = eqb-true _ _ (and-true_back _ _ (and-true_front _ _ (and-true_front _ _ h))) in
    let kind : a.kind ≡ b.kind = same_kind-true _ _ (and-true_front _ _ (and-true_front _ _ (and-true_front _ _ h))) in
    def_ext kind item vdu serial

pub same_def-refl : (a : Def) → same_def a a ≡ true
same_def-refl a = both_true (both_true (both_true (same_kind-refl a.kind) (eq-refl a.item)) (eq-refl a.vdu)) (eq-refl a.serial)

pub same_change-true : (a b : Change) → same_change a b ≡ true → a ≡ b
same_change-true a b h =
    let def : a.def ≡ b.def = same_def-true _ _ (and-true_back _ _ h) in
    let verb : a.verb ≡ b.verb = same_verb-true _ _ (and-true_back _ _ (and-true_front _ _ h)) in
    let phase : a.phase ≡ b.phase = eqb-true _ _ (and-true_front _ _ (and-true_front _ _ h)) in
    change_ext phase verb def

pub same_change-refl : (a : Change) → same_change a a ≡ true
same_change-refl a = both_true (both_true (eq-refl a.phase) (same_verb-refl a.verb)) (same_def-refl a.def)
