-- What an aspect with its steps is seen as.
use Rattle.vnfd_document.specs.Json.{Named}
use Rattle.vnfd_document.specs.Seen.{seen}
use Rattle.vnfd_policies.specs.declared.aspect_steps.Steps.{Steps}

-- the aspect
abbrev pub aspect_seen : Steps → Named
aspect_seen s = seen s.aspect
