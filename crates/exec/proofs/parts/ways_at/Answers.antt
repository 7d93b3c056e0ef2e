use Rattle.exec.proofs.Parting.{ways_laid}
use Rattle.exec.proofs.parts.ways_at.Goals as goal

pub returns : goal.returns
returns c = ways_laid c.args.program.now c.args.i c.part_end-other.result c.part_end-end.result _ c.part_end-other.ensures c.part_end-end.ensures c.skip.ensures c.skip-2.ensures c.skip-3.ensures
