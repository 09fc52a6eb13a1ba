-- The three parts of a grant request and a grant: what is added, what is removed, what is updated (SOL 003 9.5.2.2,
-- GrantRequest; 9.5.2.3, Grant).
use Rattle.std.specs.Prelude.{Bool}
use Rattle.lcm_events.specs.Same.{same_verb}
use Rattle.lcm_events.specs.declared.changes.Verb.{Verb}
use Rattle.lcm_events.specs.declared.changes.Verb.TheVariants.{Create, Remove}
use Rattle.lcm_model.specs.Grants.{is_update}
use Rattle.grant_desk.specs.declared.parts.Part.{Part}
use Rattle.grant_desk.specs.declared.parts.Part.TheVariants as part

-- a change with this verb is asked for in this part (SOL 003 9.5.2.2)
abbrev pub asks : Part → Verb → Bool
asks part.Add verb = same_verb Create verb
asks part.Remove verb = same_verb Remove verb
asks part.Update verb = is_update verb
