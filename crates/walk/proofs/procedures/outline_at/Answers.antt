use Rattle.walk.proofs.Outlines.{laid}
use Rattle.walk.proofs.procedures.outline_at.Goals as goal

pub returns : goal.returns
returns c q k e = laid q k c.args.program.now c.args.i _ _ _ _ e c.skip-params.ensures c.end-head.ensures c.part_end-post.ensures c.part_end-measure.ensures c.part_end-locals.ensures c.end.ensures c.skip-body.ensures
