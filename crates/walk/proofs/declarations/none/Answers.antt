use Rattle.std.proofs.Common.{◌∙◌}
use Rattle.walk.proofs.Walking.{none_at_end}
use Rattle.walk.proofs.declarations.none.Goals as goal

pub returns : goal.returns
returns c = c.from.ensures ∙ none_at_end c.args.program.now _ c.len.ensures
