use Rattle.std.proofs.Common.{sym}
use Rattle.exec.proofs.Framing.{popped_cases}
use Rattle.exec.proofs.frame.pop.Goals as goal

pub returns : goal.returns
returns g c = popped_cases c.args.frames.now c.pop.new.self c.pop.result c.pop.ensures.items c.pop.ensures.cases (sym c.args.frames.now.ok.0)
