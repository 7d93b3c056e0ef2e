use Rattle.std.proofs.Common.{refl}
use Rattle.exec.specs.Running.{stage}
use Rattle.exec.proofs.Driving.{left_over}
use Rattle.exec.proofs.finish.Goals as goal

pub returns-in-Ok : goal.returns-in-Ok
returns-in-Ok c = record { last = stage c.drive.new.self; finished = c.in-Ok.ensures; numbers = refl; taken = left_over _ _ c.in-Ok.ensures.choices_left }
