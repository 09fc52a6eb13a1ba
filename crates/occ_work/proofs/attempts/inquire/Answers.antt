-- The job is looked at, where that is asked for once all open attempts' jobs were aborted.
use Rattle.std.proofs.Common.{◌∙◌, List, [], ap, map, reverse, sym, true≢false}
use Rattle.occ_table.specs.declared.pending.Pending.{Pending}
use Rattle.site_traits.specs.Counts.{SiteCounts}
use Rattle.occ_work.proofs.InquireLemmas.{aborts_then_look, look_disk, looks_alone, looks_behind, row_opens}
use Rattle.occ_work.proofs.attempts.inquire.Goals as goal
use Rattle.occ_work.proofs.attempts.inquire.Goals.{then-aborts, else-aborts}

pub returns-clause-asks : goal.returns-clause-asks
returns-clause-asks g c = λ H keeps is. elim c.if-aborts.branch [
  | then-aborts w ↦
      let each = w.abort_each.ensures.aborts in (
        each.0,
        λ same. each.1
            ∙ (ap (λ (ps : List Pending). map (λ p. p.tag) (reverse ps)) w.as_slice.ensures
            ∙ row_opens H _ _ (w.row_of.ensures.row H keeps is)),
        rw w.if-aborts.true (looks_behind _ each.0 _ c.look.result _ _ _ _ _ _ each.2 (rw w.site-is at c.look.ensures.told)
            (rw w.site-is at c.look.ensures.cause)),
      )
  | else-aborts w ↦ (
    [],
    λ same. absurd (true≢false (sym same ∙ w.if-aborts.false)),
    rw w.if-aborts.false (looks_alone _ [] _ c.look.result _ _ _ _ (rw w.site-is at c.look.ensures.told)
        (rw w.site-is at c.look.ensures.cause)),
  )
]

pub returns-clause-disk : goal.returns-clause-disk
returns-clause-disk g c = elim c.if-aborts.branch [
  | then-aborts w ↦
      aborts_then_look _ w.abort_each.ensures.aborts.0 c.look.result _ _ _ _ _ w.abort_each.ensures.aborts.2
      (rw w.site-is at c.look.ensures.cause)
  | else-aborts w ↦
      ap (λ (k : SiteCounts). k.disk) (rw w.site-is at c.look.ensures.cause) ∙ look_disk c.look.result _
]
