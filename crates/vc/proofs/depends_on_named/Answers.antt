use Rattle.vc.proofs.Named.{depends_on_named}
use Rattle.vc.proofs.depends_on_named.Goals as goal

pub returns : goal.returns
returns c = depends_on_named
