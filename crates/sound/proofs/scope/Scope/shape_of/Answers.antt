use Rattle.std.proofs.Common.{◌∙◌}
use Rattle.sound.proofs.Scopes.{in_counters, in_params, in_locals}
use Rattle.sound.proofs.scope.Scope.shape_of.Goals as goal

pub returns-then-counts : goal.returns-then-counts
returns-then-counts c = in_counters c.args.self c.args.name.now c.if-counts.ensures

pub returns-in-Some : goal.returns-in-Some
returns-in-Some c = in_params c.args.self c.args.name.now c.if-counts.ensures c.in-Some.ensures

pub returns-in-None : goal.returns-in-None
returns-in-None c = c.shape-in-None.ensures ∙ in_locals c.args.self c.args.name.now c.if-counts.ensures c.in-None.ensures
