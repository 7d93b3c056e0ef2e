use Rattle.std.proofs.Common.{sym, ap}
use Rattle.lang.specs.Layout.{node}
use Rattle.lang.proofs.code.record.expression.Goals as goal

pub returns-in-2 : goal.returns-in-2
returns-in-2 c = ap (node c.args.n) (sym c.in-2.is)
