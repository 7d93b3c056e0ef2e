use Rattle.vc.proofs.Whole.{shown_holds}
use Rattle.vc.proofs.shown_holds.Goals as goal

pub returns : goal.returns
returns c = shown_holds
