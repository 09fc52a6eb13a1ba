-- As many rows as are asked for, and each that is asked for once.
use Rattle.std.proofs.Common.{◌∙◌, length, sym}
use Rattle.grant_desk.proofs.TallyLaws.{as_many, ids_asked, named_ids, not_as_many}
use Rattle.grant_desk.proofs.covering.names_each_once.Goals as goal

pub returns-then-rows-asked_in-clause-named : goal.returns-then-rows-asked_in-clause-named
returns-then-rows-asked_in-clause-named c =
    as_many (length c.args.rows.now) c.asked_in.result _ _ _ c.if-rows-asked_in.true
    (c.asked_in.ensures ∙ sym (ids_asked c.args.part c.args.changes.now))
    (c.are_named_once.ensures.named ∙ sym (named_ids c.args.part c.args.rows.now c.args.changes.now))

pub returns-else-rows-asked_in-clause-named : goal.returns-else-rows-asked_in-clause-named
returns-else-rows-asked_in-clause-named c =
    not_as_many (length c.args.rows.now) c.asked_in.result _ _ (c.asked_in.ensures ∙ sym (ids_asked c.args.part c.args.changes.now))
    c.if-rows-asked_in.false
