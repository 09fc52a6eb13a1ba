-- What is read of a text is in order, and so what is read is valid.
use Rattle.serde_json.specs.View.{view}
use Rattle.vnfd_document.proofs.NameOrder.{in_order-document}
use Rattle.vnfd_reader.proofs.ValidLaws.{given_valid}
use Rattle.vnfd_reader.proofs.read.Goals as goal

pub descriptor-requires : goal.descriptor-requires
descriptor-requires c = in_order-document c.args.bytes.now (view c.in_ok-document.document) c.in_ok-document.ensures.found

pub returns-clause-valid : goal.returns-clause-valid
returns-clause-valid c =
    given_valid c.descriptor.result (view c.in_ok-document.document)
    (in_order-document c.args.bytes.now (view c.in_ok-document.document) c.in_ok-document.ensures.found) c.descriptor.ensures
