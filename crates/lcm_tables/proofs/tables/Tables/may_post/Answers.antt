use Rattle.lcm_tables.proofs.tables.Tables.may_post.Goals as goal

pub returns : goal.returns
returns c = record { judged = λ outcome m H legal tables. c.may_post.ensures.judged outcome _ m H legal tables.notices }
