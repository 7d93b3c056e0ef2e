use Rattle.std.proofs.Common.{◌∙◌}
use Rattle.walk.proofs.Among.{among_here, among_behind}
use Rattle.walk.proofs.arguments.Arguments.give.Goals as goal

pub returns-then-is : goal.returns-then-is
returns-then-is c = among_here _ _ c.in-Some.ensures.steps c.if-is.ensures ∙ c.loop-x.invariant.2

pub loop-x-preserved : goal.loop-x-preserved
loop-x-preserved c = (tt, tt, among_behind _ _ c.in-Some.ensures.steps c.if-is.ensures ∙ c.loop-x.invariant.2)
