-- The innermost element is the one that began last.
use Rattle.std.proofs.Common.{◌≡◌, string_bytes, subst}
use Rattle.std.proofs.lemmas.Result.{on_ok_weaker}
use Rattle.html_text.specs.Html.{HtmlSoFar, ended}
use Rattle.html_text.proofs.NestingLemmas.{end_written}
use Rattle.html_text.proofs.html.Html.end.Goals as goal

pub returns-in-Some : goal.returns-in-Some
returns-in-Some c =
    let P : HtmlSoFar → Type 0 = λ w. record { text = string_bytes c.push_end.new.text; open_tags = c.pop.new.self.items } ≡ ended w in
    on_ok_weaker c.push_end.result
    (λ e. subst P c.self.view_is
    (end_written (string_bytes c.self.inside.text) (string_bytes c.push_end.new.text) c.self.inside.open_tags.items
    c.pop.new.self.items c.in-Some.tag c.in-Some.ensures.items e))
    c.push_end.ensures
