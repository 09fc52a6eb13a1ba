-- The templates and the policies come in order from a document that is in order.
use Rattle.std.proofs.Common.{◌∙◌, ap, map, option_map, Some, sym, subst, List}
use Rattle.serde_json.specs.View.{view}
use Rattle.vnfd_document.specs.Order.{AllInOrder}
use Rattle.vnfd_document.specs.Seen.{seen}
use Rattle.vnfd_document.specs.declared.entries.Entry.{Entry}
use Rattle.vnfd_document.proofs.NameOrder.{in_order-policies}
use Rattle.vnfd_reader.specs.Ordered.{ComeInOrder}
use Rattle.vnfd_reader.proofs.ValidLaws.{come_in_order}
use Rattle.vnfd_reader.proofs.parts.descriptor.Goals as goal

pub descriptor_of-requires-clause-nodes : goal.descriptor_of-requires-clause-nodes
descriptor_of-requires-clause-nodes c =
    let found = ap (option_map (λ t. map seen t.items)) (sym c.in-Some.is) ∙ c.in_ok-templates.ensures in
    let templates = ap (λ (xs : List Entry). Some (map seen xs)) c.as_slice.ensures.value ∙ found in
    subst ComeInOrder (sym c.in_ok-nodes.ensures) (come_in_order (view c.args.document.now)
    (map seen c.as_slice.result.now) c.requires templates)

pub descriptor_of-requires-clause-policies : goal.descriptor_of-requires-clause-policies
descriptor_of-requires-clause-policies c =
    let listed = ap (λ (xs : List Entry). map seen xs) c.in_ok-policies.ensures.all ∙ c.in_ok-listed.ensures in
    subst AllInOrder (sym listed) (in_order-policies (view c.args.document.now) c.requires)
