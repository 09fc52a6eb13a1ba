-- What was read stands in front of what is left, and a field that is no name stands in no list of names.
use Rattle.std.proofs.Common.{◌∙◌, ap, sym, ◌++◌, map}
use Rattle.vim_wire.specs.Lines.{name_field}
use Rattle.vim_wire.proofs.LineLaws.{some_or_none}
use Rattle.vim_wire.proofs.NameLaws.{one_more, is_named}
use Rattle.vim_wire.proofs.reading.names_of.Goals as goal

pub loop-field-preserved : goal.loop-field-preserved
loop-field-preserved c =
    let found = c.in-Some-name.ensures.found in
    one_more c.loop-field.names c.put.new.names c.in-Some-name.name c.in-Some.field.now c.args.fields.now c.loop-field.fields
    c.next.new.self
    c.loop-field.invariant.names c.loop-field.invariant.front (c.in-Some.ensures {u = tt})
    (c.in_ok-put-in-Some-name.ensures.ok) found.0 found.1

pub returns-in-None-clause-none : goal.returns-in-None-clause-none
returns-in-None-clause-none c = λ same names each e.
    let is = is_named names (map name_field c.loop-field.names) c.in-Some.field.now c.next.new.self each
    (sym e ∙ c.loop-field.invariant.front ∙ ap (λ t. map name_field c.loop-field.names ++ t) (c.in-Some.ensures {u = tt})) in
    some_or_none c.name.result is.0 (c.in-None.is) (c.name.ensures.again is.0 is.1.0 is.1.1)
