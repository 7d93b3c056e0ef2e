use Rattle.exec.proofs.Parting.{rounds_laid}
use Rattle.exec.proofs.parts.rounds_at.Goals as goal

pub returns : goal.returns
returns c = rounds_laid c.args.program.now c.args.i c.skip-test.result c.part_end.result c.part_end-measure.result c.part_end-body.result c.part_end-end.result c.skip-test.ensures c.part_end.ensures c.part_end-measure.ensures c.part_end-body.ensures _ c.part_end-end.ensures c.skip.ensures c.skip-2.ensures c.skip-3.ensures
