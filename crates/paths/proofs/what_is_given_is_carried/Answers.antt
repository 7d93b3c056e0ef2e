use Rattle.paths.proofs.Paths.{carrying}
use Rattle.paths.proofs.what_is_given_is_carried.Goals as goal

pub returns : goal.returns
returns c = carrying
