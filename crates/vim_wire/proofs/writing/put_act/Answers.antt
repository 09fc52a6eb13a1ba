-- Each member is put behind those before it.
use Rattle.std.proofs.Common.{◌≡◌, ◌∙◌, ap, subst, ℕ, List, ◌∷◌, ◌++◌}
use Rattle.std.specs.Prelude.{OnOk, decimal}
use Rattle.vim_wire.specs.Lines.{name_field, verb_word, kind_word}
use Rattle.vim_wire.proofs.NameLaws.{on_ok_further, put_behind}
use Rattle.vim_wire.proofs.writing.put_act.Goals as goal

pub returns-clause-spelled : goal.returns-clause-spelled
returns-clause-spelled c =
    let act = c.args.act.now in
    let on = c.put_names.result in
    let line = c.put_names.new.line.items in
    let P : List (List ℕ) → Type 0 = λ names. OnOk on (line ≡ c.put_number-3.new.line.items ++ put_behind names) in
    let names = subst P c.as_slice.ensures c.put_names.ensures.spelled in
    let verb = c.in_ok-put.ensures ∙ ap (λ (t : List ℕ). c.args.line.now.items ++ 32 ∷ t) c.verb_text.ensures in
    let kind = c.in_ok-put-2.ensures ∙ ap (λ (t : List ℕ). c.put.new.line.items ++ 32 ∷ t) c.kind_text.ensures in
    let s9 = put_behind act.on in
    let s8 = (32 ∷ decimal act.cpus) ++ s9 in
    let s7 = (32 ∷ decimal act.size) ++ s8 in
    let s6 = (32 ∷ name_field act.zone) ++ s7 in
    let s5 = (32 ∷ name_field act.vim) ++ s6 in
    let s4 = (32 ∷ decimal act.serial) ++ s5 in
    let s3 = (32 ∷ name_field act.vdu) ++ s4 in
    let s2 = (32 ∷ name_field act.template) ++ s3 in
    let s1 = (32 ∷ kind_word act.kind) ++ s2 in
    on_ok_further on c.args.line.now.items c.put.new.line.items line (32 ∷ verb_word act.verb) s1 verb
    (on_ok_further on c.put.new.line.items c.put-2.new.line.items line (32 ∷ kind_word act.kind) s2 kind
    (on_ok_further on c.put-2.new.line.items c.put_name.new.line.items line
    (32 ∷ name_field act.template) s3 c.in_ok-put_name.ensures.spelled
    (on_ok_further on c.put_name.new.line.items c.put_name-2.new.line.items line
    (32 ∷ name_field act.vdu) s4 c.in_ok-put_name-2.ensures.spelled
    (on_ok_further on c.put_name-2.new.line.items c.put_number.new.line.items line (32 ∷ decimal act.serial) s5 c.in_ok-put_number.ensures
    (on_ok_further on c.put_number.new.line.items c.put_name-3.new.line.items line
    (32 ∷ name_field act.vim) s6 c.in_ok-put_name-3.ensures.spelled
    (on_ok_further on c.put_name-3.new.line.items c.put_name-4.new.line.items line
    (32 ∷ name_field act.zone) s7 c.in_ok-put_name-4.ensures.spelled
    (on_ok_further on c.put_name-4.new.line.items c.put_number-2.new.line.items line (32 ∷ decimal act.size) s8 c.in_ok-put_number-2.ensures
    (on_ok_further on c.put_number-2.new.line.items c.put_number-3.new.line.items line
    (32 ∷ decimal act.cpus) s9 c.in_ok-put_number-3.ensures
    names))))))))
