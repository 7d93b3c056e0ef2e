use Rattle.std.proofs.Common.{arith}
use Rattle.amount.proofs.Amounts.{procedure_is}
use Rattle.amount.proofs.procedure_amount.Goals as goal

pub returns : goal.returns
returns c p holds sound q k here sound-q =
    procedure_is c.args.program.now p q k c.outline_at-o.result (c.outline_at-o.ensures q k here) sound-q c.names_amount-names.result c.part_amount-head.result c.body_amount.result c.saturating_add-2.result c.names_amount-names.ensures c.part_amount-head.ensures (c.body_amount.ensures p holds sound) (omega arith)
