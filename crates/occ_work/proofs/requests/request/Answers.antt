-- The request is over what the rows say.
use Rattle.occ_work.proofs.RequestLemmas.{instance_number, its_instance_lives, occurrence_number, request_made}
use Rattle.occ_work.proofs.requests.request.Goals as goal

pub instance_of-instance-requires : goal.instance_of-instance-requires
instance_of-instance-requires g c =
    let it = c.requires.active in
    record { usable = c.requires.usable; active = (it.0, _, it.1, it.2, c.row_of-row.ensures.row it.0 it.1 it.2) }

pub vnfd_of-vnfd-requires : goal.vnfd_of-vnfd-requires
vnfd_of-vnfd-requires g c =
    let it = c.requires.active in
    record { lives = (it.0, _, it.1, c.instance_of-instance.ensures it.0 it.1 _ it.2 (c.row_of-row.ensures.row it.0 it.1 it.2)) }

pub grant_body-requires-clause-instance : goal.grant_body-requires-clause-instance
grant_body-requires-clause-instance g c =
    let it = c.requires.active in
    let legal = it.1.kept.legal in
    let found = c.row_of-row.ensures.row it.0 it.1 it.2 in
    instance_number _ it.0 _ legal (c.row_of-row.ensures.few it.0 it.1) (its_instance_lives _ it.0 _ _ legal it.2 found)

pub grant_body-requires-clause-occ : goal.grant_body-requires-clause-occ
grant_body-requires-clause-occ g c =
    let it = c.requires.active in
    occurrence_number _ it.0 _ it.1.kept.legal (c.row_of-row.ensures.few it.0 it.1) it.2

pub returns : goal.returns
returns g c = λ H keeps is.
    let legal = keeps.kept.legal in
    let found = c.row_of-row.ensures.row H keeps is in
    let live = c.instance_of-instance.ensures H keeps _ is found in
    let named = c.vnfd_of-vnfd.ensures H keeps in
    request_made _ _ H _ _ _ _ _ _ _ c.rows_have_holdings.ensures legal found live named c.number.ensures c.in_ok-ask.ensures
    c.as_slice.ensures c.grant_body.ensures.text
