use Rattle.std.proofs.Common.{◌∙◌}
use Rattle.lang.specs.Holding.{code_of}
use Rattle.sound.specs.Scopes.{env}
use Rattle.walk.specs.Listing.{passed_in}
use Rattle.walk.specs.Walking.{word}
use Rattle.sound.proofs.Checking.{handed_on}
use Rattle.walk.proofs.Outlines.{params_are}
use Rattle.sound.proofs.Passing.{sizes_differ, sizes_agree}
use Rattle.sound.proofs.calls.check_call.Goals as goal

pub returns-in_err-same_sizes : goal.returns-in_err-same_sizes
returns-in_err-same_sizes c p holds =
    let held = c.args.scope.program.now in
    let f = c.in-Some.ensures p.procs holds.code in
    let params = c.from-params.ensures ∙ params_are f.this f.behind (code_of held) c.in-Some.f c.skip.result f.here c.skip.ensures in
    rw (← c.from-arguments.ensures) (handed_on c.from_residual.result c.from_residual.ensures.0 ∙ sizes_differ p (env c.args.scope) (word held c.args.name) (passed_in c.from-arguments.result) f.found params c.in_err-same_sizes.ensures)

pub returns : goal.returns
returns c p holds =
    let held = c.args.scope.program.now in
    let f = c.in-Some.ensures p.procs holds.code in
    let params = c.from-params.ensures ∙ params_are f.this f.behind (code_of held) c.in-Some.f c.skip.result f.here c.skip.ensures in
    rw (← c.from-arguments.ensures) (sizes_agree p (env c.args.scope) (word held c.args.name) (passed_in c.from-arguments.result) f.found params c.in_ok-same_sizes.ensures c.distinct_arguments.ensures)
