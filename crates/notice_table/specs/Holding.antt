-- What always holds of a table (own rule).
use Rattle.std.specs.List.{All}
use Rattle.std.specs.Prelude.{IfSome, length, map}
use Rattle.notice_table.specs.Rows.{IsWithin, row}
use Rattle.notice_table.specs.declared.table.NoticeTable.TheInside.{Inside}

-- each row's marks stand for places that are kept, and the row that is to come has none
pub record IsHeld (t : Inside) : Type 0 where
  pub rows : All (IsWithin (length t.places.items)) (map row t.queues.items)
  pub next : IfSome t.next (λ r. IsWithin 0 (row r))
