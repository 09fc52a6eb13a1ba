-- What always holds of a notice that filters are asked about (own rule).
use Rattle.std.specs.Prelude.{◌≡◌}
use Rattle.lcm_model.specs.Notices.{instance_text}
use Rattle.subscription_filter.specs.declared.facts.AskedNotice.TheInside.{Inside}

-- the text beside the facts is that of the identifier of their instance
abbrev pub IsText : Inside → Type 0
IsText a = a.instance ≡ instance_text a.facts.manager a.facts.instance
