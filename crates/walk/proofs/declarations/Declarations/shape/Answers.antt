use Rattle.std.proofs.Common.{ap, ◌∙◌}
use Rattle.lang.specs.Base.{same}
use Rattle.walk.proofs.Finding.{size_none, size_here, size_behind}
use Rattle.walk.proofs.declarations.Declarations.shape.Goals as goal

pub returns-then-is : goal.returns-then-is
returns-then-is c = size_here _ c.in-Some.ensures.steps (c.if-is.ensures ∙ ap (λ t. same t c.args.name.now) c.name.ensures.text) ∙ c.loop-d.invariant.2

pub loop-d-preserved : goal.loop-d-preserved
loop-d-preserved c = (tt, tt, size_behind _ c.in-Some.ensures.steps (c.if-is.ensures ∙ ap (λ t. same t c.args.name.now) c.name.ensures.text) ∙ c.loop-d.invariant.2)

pub returns : goal.returns
returns c = size_none _ c.in-None.ensures.steps.0 ∙ c.loop-d.invariant.2
