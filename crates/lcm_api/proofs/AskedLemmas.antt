-- The event of an ask that nothing refuses may be recorded, and what an ask comes to.
use Rattle.std.proofs.Common.{◌≡◌, ◌≤◌, ◌+◌, ◌∙◌, ℕ, Bool, List, [], ◌∷◌, length, Option, Some, None, ap, refl, sym, subst, arith, inl, inr}
use Rattle.std.proofs.Common.{◌++◌, flat_map, length-append}
use Rattle.std.specs.List.{AllByRecursion}
use Rattle.event_codec.specs.Numbers as number
use Rattle.event_codec.specs.Spell as spell
use Rattle.event_codec.specs.Spell.{spelling}
use Rattle.event_codec.specs.Typed.{TypedAsk, TypedChange}
use Rattle.event_codec.specs.Valid.{IsAsk, IsChange}
use Rattle.executor.specs.Managed.{Managed}
use Rattle.executor.specs.Operating.{IsJudged}
use Rattle.lcm_events.specs.declared.asks.Aim.TheVariants.{Aspects, Level}
use Rattle.lcm_events.specs.declared.asks.AspectLevel.{AspectLevel}
use Rattle.journal_records.specs.declared.limits.TheConstants.{MAX_RECORD}
use Rattle.lcm_events.specs.declared.asks.Ask.{Ask}
use Rattle.lcm_events.specs.declared.asks.Ask.TheVariants.{Heal, Instantiate, Operate, Scale, ScaleToLevel, Terminate}
use Rattle.lcm_events.specs.declared.changes.Change.{Change}
use Rattle.lcm_events.specs.declared.changes.DefKind.{DefKind}
use Rattle.lcm_events.specs.declared.changes.DefKind.TheVariants.{Compute, Link, Port, Storage}
use Rattle.lcm_events.specs.declared.changes.Verb.{Verb}
use Rattle.lcm_events.specs.declared.changes.Verb.TheVariants.{Create, Remove, Start, Stop}
use Rattle.lcm_events.specs.declared.descriptor.Vnfd.{Vnfd}
use Rattle.lcm_events.specs.declared.events.Event.{Event}
use Rattle.lcm_events.specs.declared.events.EventKind.TheVariants.{Asked}
use Rattle.lcm_events.specs.declared.events.Operation.{Operation}
use Rattle.lcm_events.specs.declared.states.Role.{Role}
use Rattle.lcm_laws.specs.Planning.{PlansAreExact, PlansAreSmall}
use Rattle.change_planner.specs.Records.{AskedEventsFitRecords, NamesFew}
use Rattle.lcm_model.specs.Allowed.{IsAllowed, IsLegal, IsPlanOf, MayAsk}
use Rattle.lcm_model.specs.Lives.{descriptor}
use Rattle.lcm_model.specs.Operations.{occurrences_made}
use Rattle.lcm_model.specs.Plans.{Case, phase, plan}
use Rattle.lcm_model.specs.Refusals.{case_in, situation}
use Rattle.lcm_model.specs.Work.{window}
use Rattle.lcm_model.specs.Words.{IsIn}
use Rattle.lcm_model.specs.declared.refusals.Refusal.{Refusal}
use Rattle.lcm_api.specs.Asks.{accepted, ask_described, ask_judged, asking, operation_asked}
use Rattle.lcm_api.specs.Recording.{IsPlanned}
use Rattle.lcm_api.specs.Refusals.{refused_for}
use Rattle.lcm_api.specs.Planning.{told}
use Rattle.lcm_api.specs.declared.record.Planned.TheVariants.{Records, Told}
use Rattle.lcm_replies.specs.declared.reply.Reply.{Reply}

low_phase : (verb : Verb) (kind : DefKind) → phase verb kind ≤ 8
low_phase Create Link = omega arith
low_phase Create Storage = omega arith
low_phase Create Compute = omega arith
low_phase Create Port = omega arith
low_phase Remove Link = omega arith
low_phase Remove Storage = omega arith
low_phase Remove Compute = omega arith
low_phase Remove Port = omega arith
low_phase Start kind = omega arith
low_phase Stop kind = omega arith

-- the changes of a plan keep the format's rules, where their numbers are within their types
changes_keep : PlansAreExact → (p : Case) (xs : List Change) → ((x : Change) → IsIn x xs → IsIn x (plan p)) → AllByRecursion TypedChange xs
    → AllByRecursion IsChange xs
changes_keep exact p [] among typed = tt
changes_keep exact p (x ∷ xs) among typed =
    let is = ((exact p x).0 (among x (inl refl))).0 in
    let low : x.phase ≤ 8 = subst (λ (n : ℕ). n ≤ 8) (sym is) (low_phase x.verb x.def.kind) in
    ((low, typed.0.1, typed.0.2, typed.0.3), changes_keep exact p xs (λ y g. among y (inr g)) typed.1)

-- each level of an aspect has its bytes
many_levels : (xs : List AspectLevel) → length xs ≤ length (flat_map spell.aspect_level xs)
many_levels [] = omega arith
many_levels (x ∷ xs) =
    let rest = many_levels xs in
    omega (arith, rest, length-append (spell.aspect_level x) (flat_map spell.aspect_level xs), length-append x.aspect (spell.u32 x.level))

-- an ask that fits a record and names few machines keeps the format's rules, where its texts and its numbers are within their types
kept_ask : (ask : Ask) → TypedAsk ask → NamesFew ask → length (spell.ask ask) ≤ MAX_RECORD → IsAsk ask
kept_ask (Instantiate flavour level) typed few fits = typed
kept_ask (Scale way aspect steps) typed few fits = typed
kept_ask (ScaleToLevel (Level name)) typed few fits = typed
kept_ask (ScaleToLevel (Aspects named)) typed few fits =
    let levels = many_levels named in
    (omega (arith, fits, levels, length-append (spell.u16 (length named)) (flat_map spell.aspect_level named)), typed)
kept_ask (Heal cause named) typed few fits = (typed.0, (omega (arith, few), typed.1))
kept_ask (Operate started stop) typed few fits = typed
kept_ask (Terminate mode timeout) typed few fits = typed

-- the event of an ask has the ask's bytes
ask_within : (now : ℕ) (a : Operation) → length (spell.ask a.ask) ≤ length (spelling (asking now a))
unfolding spelling
ask_within now a =
    let changes = spell.many spell.change a.changes in
    let asked = spell.ask a.ask ++ changes in
    let by = spell.u8 (number.role a.role) ++ asked in
    omega (
      arith,
      length-append (spell.u64 now) (spell.operation a),
      length-append (spell.u64 a.occ) (spell.u64 a.instance ++ by),
      length-append (spell.u64 a.instance) by,
      length-append (spell.ask a.ask) changes,
    )

-- an ask that keeps the format's rules has its texts and its numbers within their types
typed_ask : (ask : Ask) → IsAsk ask → TypedAsk ask
typed_ask (Instantiate flavour level) is = is
typed_ask (Scale way aspect steps) is = is
typed_ask (ScaleToLevel (Level name)) is = is
typed_ask (ScaleToLevel (Aspects named)) is = is.1
typed_ask (Heal cause named) is = (is.0, is.1.1)
typed_ask (Operate started stop) is = is
typed_ask (Terminate mode timeout) is = is

-- the operation that is asked for may be
may_ask : (H : List Event) (i : ℕ) (role : Role) (ask : Ask) (d : Vnfd) → IsJudged H i ask d None
    → MayAsk H (operation_asked H i role ask d)
may_ask H i role ask d judged = record {
  number = refl;
  live = judged.live;
  planned = subst (λ (o : Option Vnfd). IsPlanOf H (operation_asked H i role ask d) o) (sym judged.described) (judged.judged, refl);
}

-- an ask that nothing refuses may be recorded, and its event fits a record
pub asks : AskedEventsFitRecords → PlansAreExact → PlansAreSmall
    → (m : Managed) (H : List Event) (now i : ℕ) (role : Role) (ask : Ask) (d : Vnfd) (last : Bool) (reply : Reply) (event : Event)
    → IsLegal m.ledger.manager H → IsJudged H i ask d None → NamesFew ask
    → event ≡ asking now (operation_asked H i role ask d)
    → reply ≡ accepted m.ledger.manager (occurrences_made H + 1) last
    → IsPlanned (ask_described m.ledger.manager H now role i (λ e. ask) last (descriptor H i)) m H (Records event reply)
asks fit exact small m H now i role ask d last reply event legal judged few event_is reply_is =
    let a : Operation = operation_asked H i role ask d in
    let may : MayAsk H a = may_ask H i role ask d judged in
    let allowed : IsAllowed m.ledger.manager H (Asked a) = may in
    let fits : TypedAsk ask → length (spelling (asking now a)) ≤ MAX_RECORD =
    λ typed. fit window m.ledger.manager H now a legal allowed typed few in
    let kept : TypedAsk ask → IsAsk ask = λ typed. (let fitting = fits typed in let within = ask_within now a in
    kept_ask ask typed few (omega (arith, fitting, within))) in
    let short : length a.changes ≤ 5000 = small window m.ledger.manager (asking now a ∷ H) (allowed, legal) a (inl refl) in
    rw (event_is, reply_is) (
      ap (ask_described m.ledger.manager H now role i (λ e. ask) last) judged.described
          ∙ ap (ask_judged m.ledger.manager H now a last) judged.judged,
      record {
        may = record {
          rules = λ typed. (
            typed.0,
            (
              typed.1.0,
              typed.1.1,
              kept typed.1.2,
              (omega (arith, short), changes_keep exact (case_in d (situation d H i) ask) a.changes (λ x g. g) typed.1.3),
            ),
          );
          allowed = allowed;
          unsettled = refl;
        };
        fits = λ is. fits (typed_ask ask is.1.2);
      },
    )

-- an ask that is refused adds nothing
pub refuses : (m : Managed) (H : List Event) (now i : ℕ) (role : Role) (ask : Ask) (d : Vnfd) (last : Bool) (why : Refusal) (reply : Reply)
    → IsJudged H i ask d (Some why) → refused_for why last ≡ told reply
    → IsPlanned (ask_described m.ledger.manager H now role i (λ e. ask) last (descriptor H i)) m H (Told reply)
refuses m H now i role ask d last why reply judged is =
    ap (ask_described m.ledger.manager H now role i (λ e. ask) last) judged.described
    ∙ (ap (ask_judged m.ledger.manager H now (operation_asked H i role ask d) last) judged.judged ∙ is)
