-- The parts of events are read as they are spelled.
use Rattle.std.proofs.Common.{◌≡◌, ℕ, ◌<◌, ◌≤◌, ◌==◌, List, [], ◌∷◌, ◌++◌, Option, Some, None, Bool, true, false, ◌&&◌, length, nat_le}
use Rattle.std.proofs.Common.{nat_lt, if◌then◌else◌, refl, sym, ap, subst, arith}
use Rattle.std.specs.List.{AllByRecursion, list_all}
use Rattle.std.proofs.lemmas.Bool.{leb-true, le-leb, eqb-true}
use Rattle.vnfm_base.specs.Text.{IsName, IsLine}
use Rattle.lcm_events.specs.declared.asks.Aim.{Aim}
use Rattle.lcm_events.specs.declared.asks.Aim.TheVariants as aims
use Rattle.lcm_events.specs.declared.asks.Ask.{Ask}
use Rattle.lcm_events.specs.declared.asks.Ask.TheVariants as asks
use Rattle.lcm_events.specs.declared.attempts.Outcome.{Outcome}
use Rattle.lcm_events.specs.declared.attempts.Outcome.TheVariants as outcomes
use Rattle.lcm_events.specs.declared.descriptor.Aspect.{Aspect}
use Rattle.lcm_events.specs.declared.descriptor.Level.{Level}
use Rattle.lcm_events.specs.declared.descriptor.Row.{Row}
use Rattle.lcm_events.specs.declared.descriptor.Vdu.{Vdu}
use Rattle.lcm_events.specs.declared.descriptor.Vnfd.{Vnfd}
use Rattle.lcm_events.specs.declared.events.GrantTry.{GrantTry}
use Rattle.lcm_events.specs.declared.events.GrantTry.TheVariants as grants
use Rattle.lcm_events.specs.declared.places.Place.{Place}
use Rattle.event_codec.specs.Combinators.{pair, only, sum, u8_at}
use Rattle.event_codec.specs.Readers.{u16_at, u32_at, many_at, few_at, name_at, line_at, tag_at, change_at, vnfc_at, aspect_level_at}
use Rattle.event_codec.specs.Readers.{aim_cases, aim_at, ask_cases, ask_at, operation_at, grant_try_cases, grant_try_at, place_at}
use Rattle.event_codec.specs.Readers.{placed_at, outcome_cases, outcome_at, filter_at, vdu_at, storage_at, link_of, link_at, port_at}
use Rattle.event_codec.specs.Readers.{row_at, rows_at, aspect_at, level_at, scaling_at, vnfd_at}
use Rattle.event_codec.specs.Spell as spell
use Rattle.event_codec.specs.Valid.{IsU8, IsU16, IsU32, IsU64, IsAny, AreMany, IsTag, IsChange, IsVnfc, IsAspectLevel, IsAim, IsAsk}
use Rattle.event_codec.specs.Valid.{IsOperation, IsGrantTry, IsPlace, ArePlaced, IsOutcome, IsFilter, IsStorage, IsVdu, IsLink, IsPort}
use Rattle.event_codec.specs.Valid.{IsRow, IsAspect, IsLevel, IsVnfd, in_order, names_entries}
use Rattle.lcm_events.specs.Descriptors.{is_rising, is_valid_steps}
use Rattle.event_codec.proofs.CombinatorLaws.{Reads, reads_pair_by, reads_only, reads_fits, reads_sum, reads_entries, case_word, pair_of}
use Rattle.event_codec.proofs.CombinatorLaws.{shape_of, case_by, again_of, reads_u8}
use Rattle.event_codec.proofs.NumberLaws.{reads_u16, reads_u32, reads_u64}
use Rattle.event_codec.proofs.TextLaws.{both, from_both, reads_name, reads_line, reads_optional, reads_many, reads_few}
use Rattle.event_codec.proofs.WordLaws.{reads_role, reads_terminate_mode, reads_stop_type, reads_started, reads_op_state, reads_way}
use Rattle.event_codec.proofs.WordLaws.{reads_verb, reads_def_kind, reads_scale_way, reads_notice_kind, reads_operation_type}

reads_attempt : Reads spell.u32 (λ n. (1 ≤ n) × IsU32 n) (only (λ n. nat_le 1 n) u32_at)
reads_attempt =
    reads_fits spell.u32 (λ n. IsU32 n × (nat_le 1 n ≡ true)) (λ n. (1 ≤ n) × IsU32 n) (only (λ n. nat_le 1 n) u32_at)
    (λ n h. (leb-true 1 n h.1, h.0)) (λ n h. (h.1, le-leb 1 n h.0)) (reads_only (λ n. nat_le 1 n) spell.u32 IsU32 u32_at reads_u32)

pub reads_tag : Reads spell.tag IsTag tag_at
unfolding tag_at
reads_tag =
    shape_of (pair_of reads_u64 (pair_of reads_u16 (pair_of reads_attempt reads_way)))
    (λ p. record { occ = p.0; change = p.1.0; attempt = p.1.1.0; way = p.1.1.1 })
    (λ t. (t.occ, (t.change, (t.attempt, t.way)))) spell.tag IsTag (λ x h. refl) (λ p h. refl)
    (λ p h. (h.0, h.1.0, h.1.1.0)) (λ t h. (h.0, (h.1, (h.2, tt))))

reads_phase : Reads (λ n. n ∷ []) (λ n. n ≤ 8) (only (λ n. nat_le n 8) u8_at)
reads_phase =
    reads_fits (λ n. n ∷ []) (λ n. IsU8 n × (nat_le n 8 ≡ true)) (λ n. n ≤ 8) (only (λ n. nat_le n 8) u8_at)
    (λ n h. leb-true n 8 h.1) (λ n h. (omega arith, le-leb n 8 h)) (reads_only (λ n. nat_le n 8) (λ n. n ∷ []) IsU8 u8_at reads_u8)

pub reads_change : Reads spell.change IsChange change_at
unfolding change_at
reads_change =
    shape_of (pair_of reads_phase (pair_of reads_verb (pair_of reads_def_kind (pair_of reads_u16 (pair_of reads_u16 reads_u32)))))
    (λ p. record { phase = p.0; verb = p.1.0; def = record { kind = p.1.1.0; item = p.1.1.1.0; vdu = p.1.1.1.1.0; serial = p.1.1.1.1.1 } })
    (λ c. (c.phase, (c.verb, (c.def.kind, (c.def.item, (c.def.vdu, c.def.serial)))))) spell.change IsChange (λ x h. refl) (λ p h. refl)
    (λ p h. (h.0, h.1.1.1.0, h.1.1.1.1.0, h.1.1.1.1.1)) (λ c h. (h.0, (tt, (tt, (h.1, (h.2, h.3))))))

pub reads_vnfc : Reads spell.vnfc IsVnfc vnfc_at
unfolding vnfc_at
reads_vnfc =
    shape_of (pair_of reads_u16 reads_u32) (λ p. record { vdu = p.0; serial = p.1 }) (λ v. (v.vdu, v.serial)) spell.vnfc IsVnfc
    (λ x h. refl) (λ p h. refl) (λ p h. h) (λ v h. h)

pub reads_aspect_level : Reads spell.aspect_level IsAspectLevel aspect_level_at
unfolding aspect_level_at
reads_aspect_level =
    shape_of (pair_of reads_name reads_u32) (λ p. record { aspect = p.0; level = p.1 })
    (λ a. (a.aspect, a.level)) spell.aspect_level IsAspectLevel
    (λ x h. refl) (λ p h. refl) (λ p h. h) (λ v h. h)

pub reads_aim : Reads spell.aim IsAim aim_at
unfolding aim_at
reads_aim =
    reads_sum spell.aim IsAim aim_cases (
      case_by reads_name 0 aims.Level spell.aim IsAim (λ x h. refl) (λ x h. h),
      (
        case_by (reads_many spell.aspect_level IsAspectLevel aspect_level_at reads_aspect_level) 1 aims.Aspects spell.aim IsAim
            (λ x h. refl) (λ x h. h),
        tt,
      ),
    )
    again where
      again : (x : Aim) (rest : List ℕ) → IsAim x → sum aim_cases (spell.aim x ++ rest) ≡ Some (x, rest)
      again (aims.Level level) rest h = again_of reads_name aims.Level level rest h
      again (aims.Aspects aspects) rest h = again_of (reads_many spell.aspect_level IsAspectLevel aspect_level_at reads_aspect_level)
          aims.Aspects aspects rest h

pub reads_ask : Reads spell.ask IsAsk ask_at
unfolding ask_at
reads_ask =
    let instantiate = pair_of reads_name (reads_optional spell.name IsName name_at reads_name) in
    let scale_one = pair_of reads_scale_way (pair_of reads_name reads_u32) in
    let heal = pair_of (reads_optional spell.line IsLine line_at reads_line) (reads_many spell.vnfc IsVnfc vnfc_at reads_vnfc) in
    let operate = pair_of reads_started reads_stop_type in
    let terminate = pair_of reads_terminate_mode (reads_optional spell.u32 IsU32 u32_at reads_u32) in
    reads_sum spell.ask IsAsk ask_cases (
      case_by instantiate 1 (λ p. asks.Instantiate p.0 p.1) spell.ask IsAsk (λ x h. refl) (λ x h. h),
      (
        case_by scale_one 2 (λ p. asks.Scale p.0 p.1.0 p.1.1) spell.ask IsAsk (λ x h. refl) (λ x h. h.1),
        (
          case_by reads_aim 3 asks.ScaleToLevel spell.ask IsAsk (λ x h. refl) (λ x h. h),
          (
            case_by heal 4 (λ p. asks.Heal p.0 p.1) spell.ask IsAsk (λ x h. refl) (λ x h. h),
            (
              case_by operate 5 (λ p. asks.Operate p.0 p.1) spell.ask IsAsk (λ x h. refl) (λ x h. tt),
              (case_by terminate 6 (λ p. asks.Terminate p.0 p.1) spell.ask IsAsk (λ x h. refl) (λ x h. h.1), tt),
            ),
          ),
        ),
      ),
    )
    again where
      again : (x : Ask) (rest : List ℕ) → IsAsk x → sum ask_cases (spell.ask x ++ rest) ≡ Some (x, rest)
      again (asks.Instantiate flavour level) rest h =
          again_of (pair_of reads_name (reads_optional spell.name IsName name_at reads_name)) (λ p. asks.Instantiate p.0 p.1)
          (flavour, level) rest h
      again (asks.Scale way aspect steps) rest h =
          again_of (pair_of reads_scale_way (pair_of reads_name reads_u32)) (λ p. asks.Scale p.0 p.1.0 p.1.1) (way, (aspect, steps)) rest
          (tt, h)
      again (asks.ScaleToLevel to) rest h = again_of reads_aim asks.ScaleToLevel to rest h
      again (asks.Heal cause named) rest h =
          again_of (pair_of (reads_optional spell.line IsLine line_at reads_line) (reads_many spell.vnfc IsVnfc vnfc_at reads_vnfc))
          (λ p. asks.Heal p.0 p.1) (cause, named) rest h
      again (asks.Operate started stop) rest h = again_of (pair_of reads_started reads_stop_type) (λ p. asks.Operate p.0 p.1)
          (started, stop) rest (tt, tt)
      again (asks.Terminate mode timeout) rest h =
          again_of (pair_of reads_terminate_mode (reads_optional spell.u32 IsU32 u32_at reads_u32)) (λ p. asks.Terminate p.0 p.1)
          (mode, timeout) rest (tt, h)

pub reads_operation : Reads spell.operation IsOperation operation_at
unfolding operation_at
reads_operation =
    shape_of (pair_of reads_u64 (pair_of reads_u64 (pair_of reads_role
    (pair_of reads_ask (reads_many spell.change IsChange change_at reads_change)))))
    (λ p. record { occ = p.0; instance = p.1.0; role = p.1.1.0; ask = p.1.1.1.0; changes = p.1.1.1.1 })
    (λ o. (o.occ, (o.instance, (o.role, (o.ask, o.changes))))) spell.operation IsOperation (λ x h. refl) (λ p h. refl)
    (λ p h. (h.0, h.1.0, h.1.1.1.0, h.1.1.1.1)) (λ o h. (h.0, (h.1, (tt, (h.2, h.3)))))

pub reads_grant_try : Reads spell.grant_try IsGrantTry grant_try_at
unfolding grant_try_at
reads_grant_try =
    reads_sum spell.grant_try IsGrantTry grant_try_cases (
      case_by reads_line 0 grants.Later spell.grant_try IsGrantTry (λ x h. refl) (λ x h. h),
      (
        case_word 1 grants.Trouble spell.grant_try IsGrantTry refl tt,
        (case_word 2 grants.NotCovering spell.grant_try IsGrantTry refl tt, tt),
      ),
    )
    again where
      again : (x : GrantTry) (rest : List ℕ) → IsGrantTry x → sum grant_try_cases (spell.grant_try x ++ rest) ≡ Some (x, rest)
      again (grants.Later location) rest h = again_of reads_line grants.Later location rest h
      again grants.Trouble rest h = refl
      again grants.NotCovering rest h = refl

pub reads_place : Reads spell.place IsPlace place_at
unfolding place_at
reads_place =
    shape_of (pair_of reads_name reads_name) (λ p. record { vim = p.0; zone = p.1 }) (λ p. (p.vim, p.zone)) spell.place IsPlace
    (λ x h. refl) (λ p h. refl) (λ p h. h) (λ p h. h)

pub reads_placed : Reads (λ (p : List Place × List ℕ). spell.few spell.place p.0 ++ spell.many spell.u8 p.1)
    (λ (p : List Place × List ℕ). ArePlaced p.0 p.1) placed_at
unfolding placed_at
reads_placed =
    reads_fits (λ (p : List Place × List ℕ). spell.few spell.place p.0 ++ spell.many spell.u8 p.1)
    (λ (p : List Place × List ℕ). (((length p.0 ≤ 32) × AllByRecursion IsPlace p.0) × AreMany IsU8 p.1)
    × (list_all (λ s. nat_lt s (length p.0)) p.1 ≡ true))
    (λ (p : List Place × List ℕ). ArePlaced p.0 p.1) placed_at
    (λ p h. (h.0.0.0, h.0.0.1, h.0.1, h.1)) (λ p h. (((h.0, h.1), h.2), h.3))
    (reads_only (λ (p : List Place × List ℕ). list_all (λ s. nat_lt s (length p.0)) p.1)
    (λ (p : List Place × List ℕ). spell.few spell.place p.0 ++ spell.many spell.u8 p.1)
    (λ (p : List Place × List ℕ). ((length p.0 ≤ 32) × AllByRecursion IsPlace p.0) × AreMany IsU8 p.1)
    (pair (few_at place_at) (many_at u8_at))
    (pair_of (reads_few spell.place IsPlace place_at reads_place) (reads_many spell.u8 IsU8 u8_at reads_u8)))

pub reads_outcome : Reads spell.outcome IsOutcome outcome_at
unfolding outcome_at
reads_outcome =
    reads_sum spell.outcome IsOutcome outcome_cases (
      case_by reads_name 0 outcomes.Done spell.outcome IsOutcome (λ x h. refl) (λ x h. h),
      (
        case_by reads_u32 1 outcomes.Broken spell.outcome IsOutcome (λ x h. refl) (λ x h. h),
        (case_word 2 outcomes.Aborted spell.outcome IsOutcome refl tt, (case_word 3 outcomes.NotBegun spell.outcome IsOutcome refl tt, tt)),
      ),
    )
    again where
      again : (x : Outcome) (rest : List ℕ) → IsOutcome x → sum outcome_cases (spell.outcome x ++ rest) ≡ Some (x, rest)
      again (outcomes.Done resource) rest h = again_of reads_name outcomes.Done resource rest h
      again (outcomes.Broken code) rest h = again_of reads_u32 outcomes.Broken code rest h
      again outcomes.Aborted rest h = refl
      again outcomes.NotBegun rest h = refl

pub reads_filter : Reads spell.filter IsFilter filter_at
unfolding filter_at
reads_filter =
    let names = reads_many spell.name IsName name_at reads_name in
    shape_of (pair_of names (pair_of names (pair_of names
    (pair_of (reads_many _ IsAny _ reads_notice_kind) (pair_of (reads_many _ IsAny _ reads_operation_type)
    (reads_many _ IsAny _ reads_op_state))))))
    (λ p. record { vnfds = p.0; instances = p.1.0; names = p.1.1.0; notices = p.1.1.1.0; operations = p.1.1.1.1.0; states = p.1.1.1.1.1 })
    (λ f. (f.vnfds, (f.instances, (f.names, (f.notices, (f.operations, f.states)))))) spell.filter IsFilter (λ x h. refl) (λ p h. refl)
    (λ p h. (h.0, h.1.0, h.1.1.0, h.1.1.1.0, h.1.1.1.1.0, h.1.1.1.1.1)) (λ f h. (h.0, (h.1, (h.2, (h.3, (h.4, h.5))))))

pub reads_storage : Reads spell.storage IsStorage storage_at
unfolding storage_at
reads_storage =
    shape_of (pair_of reads_name reads_u64) (λ p. record { name = p.0; size = p.1 }) (λ s. (s.name, s.size)) spell.storage IsStorage
    (λ x h. refl) (λ p h. refl) (λ p h. h) (λ s h. h)

pub reads_vdu : Reads spell.vdu IsVdu vdu_at
unfolding vdu_at
reads_vdu =
    let fields = pair_of reads_name (pair_of reads_u64 (pair_of reads_u32
    (pair_of reads_u32 (pair_of reads_u32 (reads_many spell.u16 IsU16 u16_at reads_u16))))) in
    let Plain : Vdu → Type 0 = λ v. IsName v.name × IsU64 v.memory × IsU32 v.cpus × IsU32 v.maximum × IsU32 v.initial
    × AreMany IsU16 v.storages in
    reads_fits spell.vdu (λ v. Plain v × (is_rising nat_lt v.storages ≡ true)) IsVdu _
    (λ v h. (h.0.0, h.0.1, h.0.2, h.0.3, h.0.4, h.0.5, h.1)) (λ v h. ((h.0, h.1, h.2, h.3, h.4, h.5), h.6))
    (reads_only (λ v. is_rising nat_lt v.storages) spell.vdu Plain _
    (shape_of fields
    (λ p. record { name = p.0; memory = p.1.0; cpus = p.1.1.0; maximum = p.1.1.1.0; initial = p.1.1.1.1.0; storages = p.1.1.1.1.1 })
    (λ v. (v.name, (v.memory, (v.cpus, (v.maximum, (v.initial, v.storages)))))) spell.vdu Plain (λ x h. refl) (λ p h. refl)
    (λ p h. (h.0, h.1.0, h.1.1.0, h.1.1.1.0, h.1.1.1.1.0, h.1.1.1.1.1)) (λ v h. (h.0, (h.1, (h.2, (h.3, (h.4, h.5))))))))

pub reads_link : Reads spell.link IsLink link_at
unfolding link_at
reads_link =
    shape_of reads_u16 link_of number_of spell.link IsLink round same down up where
      number_of : Option ℕ → ℕ
      number_of None = 65535
      number_of (Some n) = n

      picked : (b : Bool) (n : ℕ) → (n == 65535) ≡ b → n < 65535 → (if b then None else Some n) ≡ Some n
      picked true n e h = absurd (let k : n ≡ 65535 = eqb-true n 65535 e in omega arith)
      picked false n e h = refl

      round : (x : Option ℕ) → IsLink x → link_of (number_of x) ≡ x
      round None h = refl
      round (Some n) h = picked (n == 65535) n refl h

      spelled : (b : Bool) (n : ℕ) → (n == 65535) ≡ b → spell.link (if b then None else Some n) ≡ spell.u16 n
      spelled true n e = ap spell.u16 (sym (eqb-true n 65535 e))
      spelled false n e = refl

      same : (n : ℕ) → IsU16 n → spell.link (link_of n) ≡ spell.u16 n
      same n h = spelled (n == 65535) n refl

      below : (b : Bool) (n : ℕ) → (n == 65535) ≡ b → IsU16 n → IsLink (if b then None else Some n)
      below true n e h = tt
      below false n e h = let k : (n ≡ 65535) → ⊥ = (λ (q : n ≡ 65535).
          (let r : (65535 == 65535) ≡ false = (let P : ℕ → Type 0 = λ m. (m == 65535) ≡ false in subst P q e) in absurd cc)) in
          omega (arith, k)

      down : (n : ℕ) → IsU16 n → IsLink (link_of n)
      down n h = below (n == 65535) n refl h

      up : (x : Option ℕ) → IsLink x → IsU16 (number_of x)
      up None h = omega arith
      up (Some n) h = omega arith

pub reads_port : Reads spell.port IsPort port_at
unfolding port_at
reads_port =
    shape_of (pair_of reads_name (pair_of reads_u16 reads_link)) (λ p. record { name = p.0; vdu = p.1.0; link = p.1.1 })
    (λ p. (p.name, (p.vdu, p.link)))
    spell.port IsPort (λ x h. refl) (λ p h. refl) (λ p h. (h.0, h.1.0, h.1.1)) (λ p h. (h.0, (h.1, h.2)))

pub reads_row : (steps : ℕ) → Reads spell.row (IsRow steps) (row_at steps)
unfolding row_at
reads_row steps =
    shape_of (pair_of reads_u16 (reads_entries spell.u32 IsU32 u32_at reads_u32 steps)) (λ p. record { vdu = p.0; deltas = p.1 })
    (λ r. (r.vdu, r.deltas))
    spell.row (IsRow steps) (λ x h. refl) (λ p h. refl) (λ p h. h) (λ r h. h)

pub reads_rows : Reads (λ (p : ℕ × List Row). spell.u16 p.0 ++ spell.many spell.row p.1)
    (λ (p : ℕ × List Row). IsU16 p.0 × AreMany (IsRow p.0) p.1) rows_at
unfolding rows_at
reads_rows =
    reads_pair_by spell.u16 IsU16 u16_at (spell.many spell.row) (λ steps. AreMany (IsRow steps)) (λ steps. many_at (row_at steps)) reads_u16
    (λ steps. reads_many spell.row (IsRow steps) (row_at steps) (reads_row steps))

pub reads_aspect : Reads spell.aspect IsAspect aspect_at
unfolding aspect_at
reads_aspect =
    let Plain : Aspect → Type 0 = λ a. IsName a.name × IsU32 a.maximum × IsU16 a.steps × AreMany (IsRow a.steps) a.rows in
    reads_fits spell.aspect (λ a. Plain a × ((is_valid_steps a.maximum a.steps && is_rising (λ r s. nat_lt r.vdu s.vdu) a.rows) ≡ true))
    IsAspect _
    (λ a h. let t = both (is_valid_steps a.maximum a.steps) (is_rising (λ r s. nat_lt r.vdu s.vdu) a.rows) h.1 in
    (h.0.0, h.0.1, h.0.2, h.0.3, t.0, t.1))
    (λ a h. ((h.0, h.1, h.2, h.3), from_both (is_valid_steps a.maximum a.steps) (is_rising (λ r s. nat_lt r.vdu s.vdu) a.rows) h.4 h.5))
    (reads_only (λ a. is_valid_steps a.maximum a.steps && is_rising (λ r s. nat_lt r.vdu s.vdu) a.rows) spell.aspect Plain _
    (shape_of (pair_of reads_name (pair_of reads_u32 reads_rows))
    (λ p. record { name = p.0; maximum = p.1.0; steps = p.1.1.0; rows = p.1.1.1 })
    (λ a. (a.name, (a.maximum, (a.steps, a.rows)))) spell.aspect Plain
    (λ x h. refl) (λ p h. refl) (λ p h. (h.0, h.1.0, h.1.1.0, h.1.1.1)) (λ a h. (h.0, (h.1, (h.2, h.3))))))

pub reads_level : (aspects : ℕ) → Reads spell.level (IsLevel aspects) (level_at aspects)
unfolding level_at
reads_level aspects =
    shape_of (pair_of reads_name (reads_entries spell.u32 IsU32 u32_at reads_u32 aspects)) (λ p. record { name = p.0; numbers = p.1 })
    (λ l. (l.name, l.numbers))
    spell.level (IsLevel aspects) (λ x h. refl) (λ p h. refl) (λ p h. h) (λ l h. h)

pub reads_scaling : Reads (λ (p : List Aspect × (List Level × ℕ)). spell.many spell.aspect p.0
    ++ (spell.many spell.level p.1.0 ++ spell.u16 p.1.1))
    (λ (p : List Aspect × (List Level × ℕ)). AreMany IsAspect p.0 × (AreMany (IsLevel (length p.0)) p.1.0 × IsU16 p.1.1)) scaling_at
unfolding scaling_at
reads_scaling =
    reads_pair_by (spell.many spell.aspect) (AreMany IsAspect) (many_at aspect_at)
    (λ (q : List Level × ℕ). spell.many spell.level q.0 ++ spell.u16 q.1)
    (λ (aspects : List Aspect) (q : List Level × ℕ). AreMany (IsLevel (length aspects)) q.0 × IsU16 q.1)
    (λ (aspects : List Aspect). pair (many_at (level_at (length aspects))) u16_at)
    (reads_many spell.aspect IsAspect aspect_at reads_aspect)
    (λ (aspects : List Aspect). pair_of (reads_many spell.level (IsLevel (length aspects)) (level_at (length aspects))
    (reads_level (length aspects))) reads_u16)

pub reads_vnfd : Reads spell.vnfd IsVnfd vnfd_at
unfolding vnfd_at
reads_vnfd =
    let Plain : Vnfd → Type 0 = λ v. IsName v.descriptor_id × IsName v.provider × IsName v.product_name × IsName v.software_version
    × IsName v.descriptor_version × IsName v.flavour_id × AreMany IsVdu v.vdus × AreMany IsStorage v.storages
    × AreMany IsName v.links × AreMany IsPort v.ports × AreMany IsAspect v.aspects
    × AreMany (IsLevel (length v.aspects)) v.levels × IsU16 v.default_level in
    let fields = pair_of reads_name (pair_of reads_name (pair_of reads_name (pair_of reads_name (pair_of reads_name (pair_of reads_name
    (pair_of (reads_many spell.vdu IsVdu vdu_at reads_vdu) (pair_of (reads_many spell.storage IsStorage storage_at reads_storage)
    (pair_of (reads_many spell.name IsName name_at reads_name) (pair_of
    (reads_many spell.port IsPort port_at reads_port) reads_scaling))))))))) in
    reads_fits spell.vnfd (λ v. Plain v × ((in_order v && names_entries v) ≡ true)) IsVnfd _
    (λ v h. let t = both (in_order v) (names_entries v) h.1 in
    (h.0.0, h.0.1, h.0.2, h.0.3, h.0.4, h.0.5, h.0.6, h.0.7, h.0.8, h.0.9, h.0.10, h.0.11, h.0.12, t.0, t.1))
    (λ v h. ((h.0, h.1, h.2, h.3, h.4, h.5, h.6, h.7, h.8, h.9, h.10, h.11, h.12), from_both (in_order v) (names_entries v) h.13 h.14))
    (reads_only (λ v. in_order v && names_entries v) spell.vnfd Plain _
    (shape_of fields
    (λ p. record {
      descriptor_id = p.0;
      provider = p.1.0;
      product_name = p.1.1.0;
      software_version = p.1.1.1.0;
      descriptor_version = p.1.1.1.1.0;
      flavour_id = p.1.1.1.1.1.0;
      vdus = p.1.1.1.1.1.1.0;
      storages = p.1.1.1.1.1.1.1.0;
      links = p.1.1.1.1.1.1.1.1.0;
      ports = p.1.1.1.1.1.1.1.1.1.0;
      aspects = p.1.1.1.1.1.1.1.1.1.1.0;
      levels = p.1.1.1.1.1.1.1.1.1.1.1.0;
      default_level = p.1.1.1.1.1.1.1.1.1.1.1.1;
    })
    (λ v. (
      v.descriptor_id,
      (
        v.provider,
        (
          v.product_name,
          (
            v.software_version,
            (
              v.descriptor_version,
              (
                v.flavour_id,
                (
                  v.vdus,
                  (
                    v.storages,
                    (v.links, (v.ports, (v.aspects, (v.levels, v.default_level)))),
                  ),
                ),
              ),
            ),
          ),
        ),
      ),
    )) spell.vnfd Plain (λ x h. refl) (λ p h. refl)
    (λ p h. (
      h.0,
      h.1.0,
      h.1.1.0,
      h.1.1.1.0,
      h.1.1.1.1.0,
      h.1.1.1.1.1.0,
      h.1.1.1.1.1.1.0,
      h.1.1.1.1.1.1.1.0,
      h.1.1.1.1.1.1.1.1.0,
      h.1.1.1.1.1.1.1.1.1.0,
      h.1.1.1.1.1.1.1.1.1.1.0,
      h.1.1.1.1.1.1.1.1.1.1.1.0,
      h.1.1.1.1.1.1.1.1.1.1.1.1,
    ))
    (λ v h. (h.0, (h.1, (h.2, (h.3, (h.4, (h.5, (h.6, (h.7, (h.8, (h.9, (h.10, (h.11, h.12)))))))))))))))
