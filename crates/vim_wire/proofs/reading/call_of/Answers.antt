-- An attempt stands behind the word of each call.
use Rattle.std.proofs.Common.{◌≡◌, ◌∙◌, ℕ, List, [], ◌∷◌, codes, refl}
use Rattle.lcm_events.specs.declared.attempts.Tag.{Tag}
use Rattle.vim_wire.specs.declared.lines.VimCall.{VimCall}
use Rattle.vim_wire.specs.declared.lines.VimCall.TheVariants.{Begin, Look, Abort}
use Rattle.vim_wire.specs.Lines.{tag_field, act_fields, call_fields, IsTyped, IsTagged}
use Rattle.vim_wire.proofs.LineLaws.{tails, some_or_none}
use Rattle.vim_wire.proofs.reading.call_of.Goals as goal

-- the attempt of any call
tag_of : (call : VimCall) → IsTyped call → (manager : ℕ) × (tag : Tag) × (word : List ℕ) × (rest : List (List ℕ))
    × IsTagged manager tag × (call_fields call ≡ word ∷ tag_field manager tag ∷ rest)
tag_of (Begin manager tag act) h = (manager, tag, codes "BEGIN", act_fields act, h.0, refl)
tag_of (Look manager tag) h = (manager, tag, codes "LOOK", [], h, refl)
tag_of (Abort manager tag) h = (manager, tag, codes "ABORT", [], h, refl)

pub returns-in_default-tag_of-clause-none : goal.returns-in_default-tag_of-clause-none
returns-in_default-tag_of-clause-none c = λ same call h e.
    let of = tag_of call h in
    let rest = tails c.args.fields.now _ _ _ _ (c.in-Some.ensures {u = tt}) (e ∙ of.5) in
    some_or_none c.tag_of.result (of.0, of.1) c.in_default-tag_of.is (c.tag_of.ensures.again of.0 of.1 of.3 of.4 rest).0
