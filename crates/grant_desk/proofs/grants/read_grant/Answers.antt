-- What the bytes are read as.
use Rattle.std.proofs.Common.{◌≡◌, Option, IfOk, subst, sym}
use Rattle.std.proofs.lemmas.Bool.{iff_false}
use Rattle.serde_json.specs.View.{view}
use Rattle.grant_desk.specs.declared.rows.GrantRows.{GrantRows}
use Rattle.grant_desk.proofs.GrantLemmas.{grant-read, grant-unread}
use Rattle.grant_desk.proofs.grants.read_grant.Goals as goal

pub returns-in-Ok : goal.returns-in-Ok
returns-in-Ok c =
    subst (λ (g : Option GrantRows). IfOk c.grant_in.result (λ rows. rows ≡ g))
    (sym (grant-read c.args.bytes.now (view c.in-Ok.value) c.in-Ok.ensures.ok.0 c.in-Ok.ensures.ok.1)) c.grant_in.ensures

pub returns-else-is_memory : goal.returns-else-is_memory
returns-else-is_memory c = sym (grant-unread c.args.bytes.now (c.in-Err.ensures.err (iff_false c.is_memory.ensures c.if-is_memory.false)))
