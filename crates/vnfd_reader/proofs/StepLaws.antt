-- What is compared with numbers that were counted once, and targets that were looked up once, is refused as what is counted and
-- looked up for each.
use Rattle.std.proofs.Common.{◌≡◌, ◌+◌, ◌-◌, ◌≤◌, ℕ, List, [], ◌∷◌, map, Bool, true, false, cond, Option, Some, None, option_map, unwrap_or}
use Rattle.std.proofs.Common.{refl, ap, sym, ◌∙◌, subst, arith, suc, find, IfSome, Result}
use Rattle.std.specs.List.{enumerate_from}
use Rattle.std.specs.Option.{option_map_or, option_or}
use Rattle.std.specs.Prelude.{slice_get, codes}
use Rattle.std.specs.Str.{bytes_eq}
use Rattle.serde_json.specs.Data.{Data}
use Rattle.lcm_events.specs.Same.{same_name}
use Rattle.lcm_events.specs.declared.descriptor.Level.{Level}
use Rattle.lcm_events.specs.declared.descriptor.Vnfd.{Vnfd}
use Rattle.lcm_model.specs.Levels.{count, level_of}
use Rattle.vnfd_document.specs.declared.fault.VnfdFault.{VnfdFault}
use Rattle.vnfd_document.specs.declared.fault.VnfdFault.TheVariants.{OutOfStep}
use Rattle.vnfd_document.specs.Checks.{Refuses, fault_of, first_failing}
use Rattle.vnfd_document.proofs.CheckLaws.{refuses_just}
use Rattle.vnfd_document.specs.Json.{Named, members_of}
use Rattle.vnfd_document.specs.Names.{is_name, name_or_empty}
use Rattle.vnfd_document.specs.Places.{property, targets}
use Rattle.vnfd_nodes.specs.Built.{place_of}
use Rattle.vnfd_reader.specs.Counted.{aim_at, aim_refusal, aims_refusal, at_level_refusal, at_levels_refusal, counted, counts_at, counts_of}
use Rattle.vnfd_reader.specs.Counted.{place_refusal}
use Rattle.vnfd_reader.specs.Steps.{is_stated, level_refusal, levels_refusal, numbers_of, policy_refusal, stated, step_refusal}
use Rattle.vnfd_reader.specs.Steps.{target_refusal, targets_refusal}

-- ---- the number at a place

next : (k p : ℕ) → k + 1 ≤ p → suc (p - (k + 1)) ≡ p - k
next k p h = omega (arith, h)

further : (f : ℕ → ℕ) (k : ℕ) (rest : List ℕ) (o : Option ℕ) → IfSome o (λ p. (k + 1 ≤ p) × (slice_get rest (p - (k + 1)) ≡ Some (f p)))
    → IfSome o (λ p. (k ≤ p) × (slice_get (f k ∷ rest) (p - k) ≡ Some (f p)))
further f k rest None h = tt
further f k rest (Some p) h = (omega (arith, h.0), subst (λ (i : ℕ). slice_get (f k ∷ rest) i ≡ Some (f p)) (next k p h.0) h.1)

placed_if : (f : ℕ → ℕ) (k : ℕ) (rest : List ℕ) (b : Bool) (o : Option ℕ)
    → IfSome o (λ p. (k + 1 ≤ p) × (slice_get rest (p - (k + 1)) ≡ Some (f p)))
    → IfSome (cond b (Some k) o) (λ p. (k ≤ p) × (slice_get (f k ∷ rest) (p - k) ≡ Some (f p)))
placed_if f k rest true o h =
    let none : 0 ≡ k - k = omega arith in
    (omega arith, subst (λ (i : ℕ). slice_get (f k ∷ rest) i ≡ Some (f k)) none refl)
placed_if f k rest false o h = further f k rest o h

-- the place of a thing has what was found for its number
placed : (f : ℕ → ℕ) (k : ℕ) (xs : List Named) (t : List ℕ)
    → IfSome (place_of k xs t) (λ p. (k ≤ p) × (slice_get (map (λ x. f x.0) (enumerate_from k xs)) (p - k) ≡ Some (f p)))
placed f k [] t = tt
placed f k (x ∷ xs) t = placed_if f k (map (λ y. f y.0) (enumerate_from (k + 1) xs)) (bytes_eq t x.0) (place_of (k + 1) xs t)
    (placed f (k + 1) xs t)

-- ---- a target at a level

same_place : (v : Vnfd) (level : Named) (counts numbers t : List ℕ) (o : Option ℕ)
    → IfSome o (λ p. (0 ≤ p) × (slice_get counts (p - 0) ≡ Some (count v p numbers)))
    → place_refusal counts (stated level.1) level.0 t o ≡ step_refusal v level numbers t o
same_place v level counts numbers t None h = refl
same_place v level counts numbers t (Some p) h =
    let whole : p - 0 ≡ p = omega arith in
    let found : slice_get counts p ≡ Some (count v p numbers) = subst
    (λ (i : ℕ). slice_get counts i ≡ Some (count v p numbers)) whole h.1 in
    ap (λ (o : Option ℕ). cond (is_stated (unwrap_or o 0) (stated level.1)) None
    (Some (OutOfStep (name_or_empty level.0) (name_or_empty t)))) found

same_targets : (v : Vnfd) (vdus : List Named) (level : Named) (numbers : List ℕ) (names : List (List ℕ))
    → first_failing (aim_refusal (counts_at v vdus numbers) (stated level.1) level.0) (map (aim_at vdus) names)
    ≡ first_failing (target_refusal v vdus level numbers) names
same_targets v vdus level numbers [] = refl
same_targets v vdus level numbers (t ∷ names) =
    ap (λ (a : Option VnfdFault). option_or a (first_failing (aim_refusal (counts_at v vdus numbers) (stated level.1) level.0)
    (map (aim_at vdus) names)))
    (same_place v level (counts_at v vdus numbers) numbers t (place_of 0 vdus t) (placed (λ p. count v p numbers) 0 vdus t))
    ∙ ap (option_or (target_refusal v vdus level numbers t)) (same_targets v vdus level numbers names)

same_aims : (v : Vnfd) (vdus : List Named) (level : Named) (numbers : List ℕ) (names : Option (List (List ℕ)))
    → aims_refusal (counts_at v vdus numbers) (stated level.1) level.0 (option_map (map (aim_at vdus)) names)
    ≡ targets_refusal v vdus level numbers names
unfolding targets_refusal
same_aims v vdus level numbers None = refl
same_aims v vdus level numbers (Some names) = same_targets v vdus level numbers names

-- ---- a level

found_if : (v : Vnfd) (vdus : List Named) (b : Bool) (l : Level) (o : Option Level) (p : Option (List ℕ × List ℕ))
    → option_map (λ (x : List ℕ × List ℕ). x.1) p ≡ option_map (counts_at v vdus) (option_map (λ (x : Level). x.numbers) o)
    → option_map (λ (x : List ℕ × List ℕ). x.1) (cond b (Some (l.name, counts_at v vdus l.numbers)) p)
    ≡ option_map (counts_at v vdus) (option_map (λ (x : Level). x.numbers) (cond b (Some l) o))
found_if v vdus true l o p h = refl
found_if v vdus false l o p h = h

found_counts : (v : Vnfd) (vdus : List Named) (name : List ℕ) (levels : List Level)
    → option_map (λ (x : List ℕ × List ℕ). x.1) (find (λ (x : List ℕ × List ℕ). same_name x.0 name)
    (map (λ l. (l.name, counts_at v vdus l.numbers)) levels))
    ≡ option_map (counts_at v vdus) (option_map (λ l. l.numbers) (find (λ l. same_name l.name name) levels))
found_counts v vdus name [] = refl
found_counts v vdus name (l ∷ levels) =
    found_if v vdus (same_name l.name name) l (find (λ (x : Level). same_name x.name name) levels)
    (find (λ (x : List ℕ × List ℕ). same_name x.0 name) (map (λ x. (x.name, counts_at v vdus x.numbers)) levels))
    (found_counts v vdus name levels)

counts_if : (v : Vnfd) (vdus : List Named) (b : Bool) (p q : Option (List ℕ)) → p ≡ option_map (counts_at v vdus) q
    → cond b p None ≡ option_map (counts_at v vdus) (cond b q None)
counts_if v vdus true p q h = h
counts_if v vdus false p q h = refl

same_counts : (v : Vnfd) (vdus : List Named) (name : List ℕ) → counts_of (counted v vdus) name
    ≡ option_map (counts_at v vdus) (numbers_of v name)
same_counts v vdus name = counts_if v vdus (is_name name) _ (level_of v name) (found_counts v vdus name v.levels)

same_level_at : (v : Vnfd) (vdus : List Named) (names : Option (List (List ℕ))) (level : Named) (o : Option (List ℕ))
    → at_level_refusal (option_map (map (aim_at vdus)) names) level (option_map (counts_at v vdus) o) ≡ level_refusal v vdus names level o
same_level_at v vdus names level None = refl
same_level_at v vdus names level (Some numbers) = same_aims v vdus level numbers names

same_level : (v : Vnfd) (vdus : List Named) (names : Option (List (List ℕ))) (level : Named)
    → at_level_refusal (option_map (map (aim_at vdus)) names) level (counts_of (counted v vdus) level.0)
    ≡ level_refusal v vdus names level (numbers_of v level.0)
same_level v vdus names level =
    ap (at_level_refusal (option_map (map (aim_at vdus)) names) level) (same_counts v vdus level.0)
    ∙ same_level_at v vdus names level (numbers_of v level.0)

-- ---- a policy

same_levels_from : (v : Vnfd) (vdus : List Named) (names : Option (List (List ℕ))) (levels : List Named)
    → at_levels_refusal (counted v vdus) (option_map (map (aim_at vdus)) names) levels
    ≡ first_failing (λ level. level_refusal v vdus names level (numbers_of v level.0)) levels
same_levels_from v vdus names [] = refl
same_levels_from v vdus names (level ∷ levels) =
    ap (λ (a : Option VnfdFault). option_or a (at_levels_refusal (counted v vdus) (option_map (map (aim_at vdus)) names) levels))
    (same_level v vdus names level)
    ∙ ap (option_or (level_refusal v vdus names level (numbers_of v level.0))) (same_levels_from v vdus names levels)

-- what a policy states is refused alike
pub same_policy : (v : Vnfd) (vdus : List Named) (d : Data)
    → at_levels_refusal (counted v vdus) (option_map (map (aim_at vdus)) (targets d))
    (option_map_or members_of (property (codes "levels") d) []) ≡ policy_refusal v vdus d
unfolding levels_refusal
same_policy v vdus d = same_levels_from v vdus (targets d) (option_map_or members_of (property (codes "levels") d) [])

-- what a policy states is refused by what was found once
pub refuses_policy : (result : Result (Unit {0}) VnfdFault) (v : Vnfd) (vdus : List Named) (d : Data)
    (table : List (List ℕ × List ℕ)) (aims : Option (List (List ℕ × Option ℕ))) (levels : List Named)
    → fault_of result ≡ at_levels_refusal table aims levels → table ≡ counted v vdus → aims ≡ option_map (map (aim_at vdus)) (targets d)
    → levels ≡ option_map_or members_of (property (codes "levels") d) [] → Refuses result (policy_refusal v vdus d)
refuses_policy result v vdus d table aims levels h table_is aims_are levels_are =
    refuses_just result (policy_refusal v vdus d)
    (h
    ∙ ap (λ (t : List (List ℕ × List ℕ)). at_levels_refusal t aims levels) table_is
    ∙ ap (λ (a : Option (List (List ℕ × Option ℕ))). at_levels_refusal (counted v vdus) a levels) aims_are
    ∙ ap (at_levels_refusal (counted v vdus) (option_map (map (aim_at vdus)) (targets d))) levels_are
    ∙ same_policy v vdus d)
