-- The nine members of an act stand in front of its names.
use Rattle.std.proofs.Common.{map}
use Rattle.vim_wire.specs.Lines.{name_field}
use Rattle.vim_wire.proofs.LineLaws.{some_or_none}
use Rattle.vim_wire.proofs.reading.act_of.Goals as goal

pub returns-in_default-clause-none : goal.returns-in_default-clause-none
returns-in_default-clause-none c = λ same act h e.
    let got = c.read.ensures.again (
      act.verb,
      (
        act.kind,
        (
          act.template,
          (act.vdu, (act.serial, (act.vim, (act.zone, (act.size, act.cpus))))),
        ),
      ),
    )
    (map name_field act.on) (tt, (tt, (h.template, (h.vdu, (h.serial, (h.vim, (h.zone, (h.size, h.cpus)))))))) e in
    some_or_none c.read.result _ c.in_default.is got.0
