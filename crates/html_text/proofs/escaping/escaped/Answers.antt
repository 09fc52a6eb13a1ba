-- What stands for a UTF-8 text is UTF-8.
use Rattle.std.proofs.Common.{◌≡◌, IsUtf8, rules, subst, sym}
use Rattle.html_text.specs.Escaped.{escaped}
use Rattle.html_text.proofs.EscapedLemmas.{escaped_utf8}
use Rattle.html_text.proofs.escaping.escaped.Goals as goal

pub from_utf8_unchecked-requires : goal.from_utf8_unchecked-requires
from_utf8_unchecked-requires c =
    let e : c.push_entities.new.page.items ≡ escaped c.args.text.now = search rules in
    subst IsUtf8 (sym e) (escaped_utf8 c.args.text.now c.utf8.text)
