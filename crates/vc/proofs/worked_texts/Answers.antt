use Rattle.vc.proofs.Cases.{worked}
use Rattle.vc.proofs.worked_texts.Goals as goal

pub returns : goal.returns
returns c = worked
