use Rattle.std.proofs.Common.{arith}
use Rattle.std.proofs.lemmas.List.{take-take, take-map}
use Rattle.lent.proofs.table.Table.truncate.Goals as goal

pub returns-then-n-self-clause-items : goal.returns-then-n-self-clause-items
returns-then-n-self-clause-items g c = grind (arith, take-take, take-map)
