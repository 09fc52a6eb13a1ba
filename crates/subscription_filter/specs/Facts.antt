-- What a notice tells, as the program holds it (own rule).
use Rattle.lcm_model.specs.Notices as model
use Rattle.subscription_filter.specs.declared.facts.NoticeFacts.{NoticeFacts}

-- the facts that a notice's values make (own rule)
abbrev pub facts_in : NoticeFacts → model.NoticeFacts
facts_in n = record { which = n.which; vnfd = n.vnfd; instance = n.instance; name = n.name; op = n.op; state = n.state }
