-- The members that are written one after another are those of the request.
use Rattle.std.proofs.Common.{◌≡◌, [], ◌∷◌, ◌∙◌, Err, List, Ok, OnOk, Result, ap, codes, false, refl, rules, ℕ}
use Rattle.serde_json.specs.Data.{Data, boolean, string}
use Rattle.serde_json.specs.View.{view}
use Rattle.serde_json.specs.declared.value.Value.{Bool, the_lemmas}
use Rattle.json_members.specs.Text.{TextSoFar, closed, opened, with_member, with_name, with_value}
use Rattle.json_members.proofs.TextLaws.{object_in_turn}
use Rattle.lcm_model.specs.Operations.{kind_of}
use Rattle.grant_desk.specs.Requests.{entries, instance_id, links, occurrence_id, operation_word}
use Rattle.grant_desk.specs.declared.parts.Part.TheVariants as part
use Rattle.grant_desk.proofs.requests.write_request.Goals as goal

-- a member stands behind what was written before it, with the value that it has
member_is : (name : List ℕ) (d e : Data) (old before new : TextSoFar) → new ≡ with_member name d old → d ≡ e
    → old ≡ before → new ≡ with_member name e before
member_is name d e old before new written is was = rw (written, is, was) refl

-- and so does one whose name is written first, and then its value
entries_are : (name : List ℕ) (d : Data) (old named before new : TextSoFar) → new ≡ with_value d named
    → named ≡ with_name name old → old ≡ before → new ≡ with_member name d before
entries_are name d old named before new written begun was = rw (written, begun, was) refl

-- what follows from what holds where a call succeeded holds there
on_ok : {T E : Type 0} (result : Result T E) (P Q : Type 0) → (P → Q) → OnOk result P → OnOk result Q
on_ok (Ok x) P Q f holds = f holds
on_ok (Err why) P Q f holds = tt

-- the value of the one member that is neither a text nor a list
view-false : view (Bool false) ≡ boolean false
view-false = search (rules, the_lemmas)

pub returns : goal.returns
returns c =
    let d = c.args.vnfd.now in
    let h = c.args.holding.now in
    let who = c.args.who.now in
    let xs = c.args.changes.now in
    let instance = instance_id who.manager who.instance in
    let occ = occurrence_id who.manager who.occ in
    let w0 = opened 123 c.args.text.now in
    let w1 = with_member (codes "_links") (links instance occ) w0 in
    let w2 = with_member (codes "addResources") (entries d h part.Add xs) w1 in
    let w3 = with_member (codes "flavourId") (string d.flavour_id) w2 in
    let w4 = with_member (codes "isAutomaticInvocation") (boolean false) w3 in
    let w5 = with_member (codes "operation") (string (operation_word (kind_of c.args.ask.now))) w4 in
    let w6 = with_member (codes "removeResources") (entries d h part.Remove xs) w5 in
    let w7 = with_member (codes "updateResources") (entries d h part.Update xs) w6 in
    let w8 = with_member (codes "vnfInstanceId") (string instance) w7 in
    let w9 = with_member (codes "vnfLcmOpOccId") (string occ) w8 in
    let at = c.in_ok-links.ensures
    ∙ (ap (λ i. links i c.as_str-2.result.now) (c.as_str.ensures.value ∙ c.in_ok-instance.ensures)
    ∙ ap (links instance) (c.as_str-2.ensures.value ∙ c.in_ok-occ.ensures)) in
    let e1 : c.member.new.self ≡ w1 =
    member_is (codes "_links") _ _ _ w0 _ c.in_ok-member.ensures at c.in_ok-begin_object.ensures in
    let e2 : c.write_entries.new.text ≡ w2 =
    entries_are (codes "addResources") _ _ _ w1 _ c.in_ok-write_entries.ensures c.in_ok-name.ensures e1 in
    let e3 : c.text_member.new.self ≡ w3 =
    member_is (codes "flavourId") _ _ _ w2 _ c.in_ok-text_member.ensures (ap string c.as_str-3.ensures.value) e2 in
    let e4 : c.member-2.new.self ≡ w4 =
    member_is (codes "isAutomaticInvocation") (view (Bool false)) _ _ w3 _ c.in_ok-member-2.ensures view-false e3 in
    let e5 : c.text_member-2.new.self ≡ w5 =
    member_is (codes "operation") _ _ _ w4 _ c.in_ok-text_member-2.ensures
    (ap string (c.operation_word.ensures ∙ ap operation_word c.op_kind.ensures)) e4 in
    let e6 : c.write_entries-2.new.text ≡ w6 =
    entries_are (codes "removeResources") _ _ _ w5 _ c.in_ok-write_entries-2.ensures c.in_ok-name-2.ensures e5 in
    let e7 : c.write_entries-3.new.text ≡ w7 =
    entries_are (codes "updateResources") _ _ _ w6 _ c.in_ok-write_entries-3.ensures c.in_ok-name-3.ensures e6 in
    let e8 : c.text_member-3.new.self ≡ w8 =
    member_is (codes "vnfInstanceId") _ _ _ w7 _ c.in_ok-text_member-3.ensures
    (ap string (c.as_str-4.ensures.value ∙ c.in_ok-instance.ensures)) e7 in
    let e9 : c.text_member-4.new.self ≡ w9 =
    member_is (codes "vnfLcmOpOccId") _ _ _ w8 _ c.in_ok-text_member-4.ensures
    (ap string (c.as_str-5.ensures.value ∙ c.in_ok-occ.ensures)) e8 in
    let e10 : c.text_member-5.new.self ≡ with_member (codes "vnfdId") (string d.descriptor_id) w9 =
    member_is (codes "vnfdId") _ _ _ w9 _ c.in_ok-text_member-5.ensures (ap string c.as_str-6.ensures.value) e9 in
    let members =
    (codes "_links", links instance occ)
    ∷ (codes "addResources", entries d h part.Add xs)
    ∷ (codes "flavourId", string d.flavour_id)
    ∷ (codes "isAutomaticInvocation", boolean false)
    ∷ (codes "operation", string (operation_word (kind_of c.args.ask.now)))
    ∷ (codes "removeResources", entries d h part.Remove xs)
    ∷ (codes "updateResources", entries d h part.Update xs)
    ∷ (codes "vnfInstanceId", string instance)
    ∷ (codes "vnfLcmOpOccId", string occ)
    ∷ (codes "vnfdId", string d.descriptor_id)
    ∷ [] in
    on_ok c.end_object.result _ _
    (λ ended. ended ∙ (ap (closed 125) e10 ∙ object_in_turn members c.args.text.now)) c.end_object.ensures
