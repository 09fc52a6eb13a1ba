-- What was asked for, as a row keeps it: with each name in as many bytes as it has (own format).
use Rattle.lcm_events.specs.declared.asks.Aim.{Aim}
use Rattle.lcm_events.specs.declared.asks.Ask.{Ask}
use Rattle.lcm_events.specs.declared.asks.Aim.TheVariants as aims
use Rattle.lcm_events.specs.declared.asks.Ask.TheVariants as asks
use Rattle.occ_table.specs.declared.asks.PackedAim.{PackedAim}
use Rattle.occ_table.specs.declared.asks.PackedAim.TheVariants.{Aspects, Level}
use Rattle.occ_table.specs.declared.asks.PackedParts.{PackedParts}
use Rattle.occ_table.specs.declared.asks.PackedParts.TheVariants.{Heal, Instantiate, Operate, Scale, ScaleToLevel}
use Rattle.occ_table.specs.declared.asks.PackedParts.TheVariants.{Terminate}

-- what is kept of what SCALE_TO_LEVEL aims at tells this (SOL 003 5.5.2.6, ScaleVnfToLevelRequest)
abbrev pub aimed_at : PackedAim → Aim
aimed_at (Level name) = aims.Level name
aimed_at (Aspects named) = aims.Aspects named

-- what is kept of an ask tells this (SOL 003 5.5.2.4 to 5.5.2.10, InstantiateVnfRequest to OperateVnfRequest)
abbrev pub asked_for : PackedParts → Ask
asked_for (Instantiate flavour level) = asks.Instantiate flavour level
asked_for (Scale way aspect steps) = asks.Scale way aspect steps
asked_for (ScaleToLevel aim) = asks.ScaleToLevel (aimed_at aim)
asked_for (Heal cause named) = asks.Heal cause named
asked_for (Operate started stop) = asks.Operate started stop
asked_for (Terminate mode timeout) = asks.Terminate mode timeout
