use Rattle.std.proofs.Common.{refl}
use Rattle.exec.proofs.Handing.{begun_as}
use Rattle.exec.proofs.Whole.{stack_none}
use Rattle.exec.proofs.start.Goals as goal

pub returns : goal.returns
returns c = record { begun = begun_as c.in_ok-first.ensures.items c.in_ok-running.ensures; no_frames = stack_none _ c.new.ensures.items; all_left = refl }
