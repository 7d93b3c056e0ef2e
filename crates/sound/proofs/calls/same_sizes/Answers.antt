use Rattle.std.proofs.Common.{◌∙◌}
use Rattle.sound.proofs.Passing.{none_left, one_too_many, one_missing, wrong_size, right_size}
use Rattle.sound.proofs.calls.same_sizes.Goals as goal

pub returns-in_default : goal.returns-in_default
returns-in_default c = one_too_many _ c.in_default.ensures.steps.0 c.in-Some.ensures.steps ∙ c.loop-x.invariant.2

pub returns-then-not-has_shape : goal.returns-then-not-has_shape
returns-then-not-has_shape c = wrong_size _ c.in-Some-next.ensures.steps c.in-Some.ensures.steps c.if-not-has_shape.ensures ∙ c.loop-x.invariant.2

pub loop-x-preserved : goal.loop-x-preserved
loop-x-preserved c = (tt, tt, right_size _ c.in-Some-next.ensures.steps c.in-Some.ensures.steps c.if-not-has_shape.ensures ∙ c.loop-x.invariant.2)

pub returns-in-Some-next-2 : goal.returns-in-Some-next-2
returns-in-Some-next-2 c = one_missing _ c.in-Some-next-2.ensures.steps c.in-None.ensures.steps.0 ∙ c.loop-x.invariant.2

pub returns-in-None-next : goal.returns-in-None-next
returns-in-None-next c = none_left _ c.in-None-next.ensures.steps.0 c.in-None.ensures.steps.0 ∙ c.loop-x.invariant.2
