-- std's text is UTF-8.
use Rattle.std.proofs.Common.{◌≡◌, IsUtf8, rules, string_bytes, subst, sym}
use Rattle.std.proofs.lemmas.Str.{IsUtf8-string_bytes}
use Rattle.html_text.proofs.html.Html.into_bytes.Goals as goal

pub returns-clause-utf8 : goal.returns-clause-utf8
returns-clause-utf8 c =
    let e : c.of_vec.result ≡ string_bytes c.self.inside.text = search rules in
    subst IsUtf8 (sym e) (IsUtf8-string_bytes c.self.inside.text)
