use Rattle.exec.specs.Running.{stage}
use Rattle.exec.proofs.Driving.{goes_on}
use Rattle.exec.proofs.machine.Machine.proceed.Goals as goal

pub returns-in-Go : goal.returns-in-Go
returns-in-Go c = goes_on (stage c.args.self.now) c.args.frame c.in-Go.work c.in-Go.is
