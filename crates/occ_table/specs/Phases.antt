-- How many changes of each phase wait and how many are made, so that no question goes through a plan (phases are an own
-- rule).
use Rattle.std.specs.List.{enumerate_from, list_all, range_with_len}
use Rattle.std.specs.Prelude.{Bool, List, None, Option, Some, false, filter, length, map, min, nat_lt, not, option_map}
use Rattle.std.specs.Prelude.{slice_get, slice_index_or, slice_set, true, zip, ℕ, ◌&&◌, ◌||◌, ◌+◌, ◌-◌, ◌==◌}
use Rattle.lcm_events.specs.declared.attempts.Outcome.{Outcome}
use Rattle.lcm_events.specs.declared.attempts.Outcome.TheVariants.{Done}
use Rattle.lcm_events.specs.declared.attempts.Tag.{Tag}
use Rattle.lcm_events.specs.declared.attempts.Way.{Way}
use Rattle.lcm_events.specs.declared.attempts.Way.TheVariants.{Forward, Undo}
use Rattle.lcm_events.specs.declared.changes.Change.{Change}
use Rattle.lcm_model.specs.Work.{net_after}

-- how many of these changes, each with its net, are of this phase and have this net (own rule)
abbrev pub tally : ℕ → List (Change × ℕ) → ℕ → ℕ
tally n zs p = length (filter (λ z. (z.0.phase == p) && (z.1 == n)) zs)

-- how many of the changes with these nets have this net, for each phase from 0 to 8 (own rule)
abbrev pub tallies : ℕ → List Change → List ℕ → List ℕ
tallies n xs ns = map (tally n (zip xs ns)) (range_with_len 0 9)

-- how many of the changes are of each phase from 0 to 8, counted up to 65,535 (own rule)
abbrev pub in_phases : List Change → List ℕ
in_phases xs = map (λ p. min (length (filter (λ x. x.phase == p) xs)) 65535) (range_with_len 0 9)

-- the counts with one more in a phase, up to 65,535
abbrev pub raised : ℕ → List ℕ → List ℕ
raised p ns = slice_set ns p (min (slice_index_or ns p 0 + 1) 65535)

-- the counts with one less in a phase
abbrev pub lowered : ℕ → List ℕ → List ℕ
lowered p ns = slice_set ns p (slice_index_or ns p 0 - 1)

-- the counts with one more or one less in a phase, where there is one
abbrev pub shifted : Bool → Option ℕ → List ℕ → List ℕ
shifted up None ns = ns
shifted true (Some p) ns = raised p ns
shifted false (Some p) ns = lowered p ns

-- the phase of the change of this number
abbrev pub phase_at : ℕ → List Change → Option ℕ
phase_at c xs = option_map (λ x. x.phase) (slice_get xs c)

-- the counts of changes with this net after an attempt has ended so
abbrev pub tally_after : ℕ → Tag → Outcome → List Change → List ℕ → List ℕ
tally_after n t (Done name) xs ns = shifted (net_after t.way == n) (phase_at t.change xs) ns
tally_after n t _ xs ns = ns

-- a phase goes before another: a lower one is made first, a higher one undone first (own rule)
abbrev pub goes_first : Way → ℕ → ℕ → Bool
goes_first Forward q p = nat_lt p q
goes_first Undo q p = nat_lt q p

-- no change is counted in a phase that goes before this one
abbrev pub is_clear : Way → ℕ → List ℕ → Bool
is_clear way q ns = list_all (λ x. not (goes_first way q x.0) || (x.1 == 0)) (enumerate_from 0 ns)

-- no change is counted
abbrev pub none_counted : List ℕ → Bool
none_counted ns = list_all (λ n. n == 0) ns
