use Rattle.exec.specs.Running.{stage}
use Rattle.exec.proofs.Driving.{ran_out}
use Rattle.exec.proofs.machine.Machine.resume.Goals as goal

pub returns-in_default : goal.returns-in_default
returns-in_default c = ran_out (stage c.args.self.now) _ c.in_default.ensures
