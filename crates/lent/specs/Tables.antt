-- What a table holds.
use Rattle.std.specs.Prelude.{ℕ, List, length, map, take}
use Rattle.lent.specs.declared.table.Table.{Table}
use Rattle.lent.specs.Layout.{record_in}

module _ {R : Type 0} where
  -- the records that a table holds, by the function that reads one back from its two words
  abbrev pub items : (ℕ → ℕ → R) → Table R → List R
  items decoded t = map (record_in decoded) (take t.len t.pairs.now)

  -- how many records a table has room for
  abbrev pub capacity : Table R → ℕ
  capacity t = length t.pairs.now
