use Rattle.vc.proofs.Texts.{read_as}
use Rattle.vc.proofs.worked_texts_read.Goals as goal

pub returns : goal.returns
returns c = read_as
