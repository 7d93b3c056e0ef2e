use Rattle.std.proofs.Common.{◌+◌, ◌-◌, ◌*◌, length}
use Rattle.lang.specs.Holding.{code_of}
use Rattle.eval.proofs.Walking.{SoFar, Going}
use Rattle.eval.specs.Naming.{depth}
use Rattle.walk.specs.Walking.{word}
use Rattle.eval.proofs.+rounds_step_perform.Given as goal

abbrev pub decreases-rounds : goal.decreases-rounds
decreases-rounds l = 3 * (2 - depth l.scope.now)

abbrev pub decreases-step : goal.decreases-step
decreases-step l = 3 * (2 - depth l.scope.now) + 1

abbrev pub decreases-perform : goal.decreases-perform
decreases-perform l = 3 * (2 - depth l.scope.now) + 2

abbrev pub invariant-rounds-loop-value : goal.invariant-rounds-loop-value
invariant-rounds-loop-value l = SoFar l.scope (word l.scope.names.program.now l.name) l.body l.value l.stacks l.initial.stacks

abbrev pub invariant-perform-loop-node : goal.invariant-perform-loop-node
invariant-perform-loop-node l = Going l.scope l.from l.i l.stacks l.initial.stacks

abbrev pub decreases-perform-loop-node : goal.decreases-perform-loop-node
decreases-perform-loop-node l = length (code_of l.scope.names.program.now) - l.i
