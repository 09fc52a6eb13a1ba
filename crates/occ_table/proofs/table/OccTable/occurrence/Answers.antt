use Rattle.std.proofs.Common.{◌∙◌, sym, ap, ◌≡◌, ℕ}
use Rattle.std.specs.Prelude.{option_map}
use Rattle.occ_table.specs.Rows.{row, occurrence}
use Rattle.occ_table.proofs.RowsSteps.{looked, none-zero, one_up}
use Rattle.occ_table.proofs.table.OccTable.occurrence.Goals as goal

pub returns-then-n-eq0 : goal.returns-then-n-eq0
returns-then-n-eq0 c = record {
  looks = λ width m H legal stands.
      let is : c.args.n ≡ 0 = c.if-n-eq0.true in
      sym (ap (λ (n : ℕ). occurrence H n) is ∙ ap (λ a. option_map (row H) a) (none-zero width m H legal));
}

pub returns : goal.returns
returns c = record {
  looks = λ width m H legal stands. c.row_at.ensures
      ∙ looked width m H c.args.self.now.rows c.args.n legal stands (one_up c.args.n c.if-n-eq0.false);
}
