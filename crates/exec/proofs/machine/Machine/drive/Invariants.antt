use Rattle.std.proofs.Common.{◌+◌, Some}
use Rattle.exec.specs.Framing.{stack, weight, work_weight}
use Rattle.exec.specs.Running.{stage, Onward}
use Rattle.exec.proofs.machine.Machine.drive.Given as goal

abbrev pub invariant-loop-next : goal.invariant-loop-next
invariant-loop-next l = Onward (stage l.initial.self) (Some l.initial.work) (stage l.self) (Some l.work)

abbrev pub decreases-loop-next : goal.decreases-loop-next
decreases-loop-next l = weight (stack l.self.frames) + work_weight l.work
