use Rattle.std.proofs.Common.{sym, ap}
use Rattle.parse.specs.Layout.{open_part}
use Rattle.parse.proofs.open.OpenRecord.decode.Goals as goal

pub returns-in-2 : goal.returns-in-2
returns-in-2 c = ap (open_part c.args.a) (sym c.in-2.is)
