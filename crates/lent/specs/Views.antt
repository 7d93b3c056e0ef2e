-- What a view holds.
use Rattle.std.specs.Prelude.{ℕ, List, map}
use Rattle.lent.specs.declared.view.View.{View}
use Rattle.lent.specs.Layout.{record_in}

-- the records that a view shows, by the function that reads one back from its two words
abbrev pub kept : {R : Type 0} → (ℕ → ℕ → R) → View R → List R
kept decoded v = map (record_in decoded) v.pairs.now
