use Rattle.vc.proofs.TwinWalk.{literals_agree}
use Rattle.vc.proofs.literals_agree.Goals as goal

pub returns : goal.returns
returns c = literals_agree
