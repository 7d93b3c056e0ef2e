use Rattle.walk.proofs.Walking.{in_part}
use Rattle.walk.proofs.going_on.Goals as goal

pub returns-else-ends_part : goal.returns-else-ends_part
returns-else-ends_part c = in_part c.args.program.now c.args.i c.at-node.result c.at-node.ensures.node c.if-ends_part.ensures c.at-node.ensures.bound
