-- What the bytes are read as.
use Rattle.std.proofs.Common.{◌≡◌, IfOk, List, Option, option_map, subst, sym, ℕ}
use Rattle.std.proofs.lemmas.Bool.{iff_false}
use Rattle.serde_json.specs.View.{view}
use Rattle.grant_desk.proofs.GrantAllLaws.{text-read, text-unread}
use Rattle.grant_desk.proofs.grant_all.grant_text.Goals as goal

pub returns-in-Ok : goal.returns-in-Ok
returns-in-Ok c =
    subst (λ (g : Option (List ℕ)). IfOk c.text_for.result (λ text. option_map (λ t. t.items) text ≡ g))
    (sym (text-read c.args.before c.args.bytes.now (view c.in-Ok.value) c.in-Ok.ensures.ok.0 c.in-Ok.ensures.ok.1)) c.text_for.ensures

pub returns-else-is_memory : goal.returns-else-is_memory
returns-else-is_memory c = sym (text-unread c.args.before c.args.bytes.now
    (c.in-Err.ensures.err (iff_false c.is_memory.ensures c.if-is_memory.false)))
