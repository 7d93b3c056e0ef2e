use Rattle.std.proofs.lemmas.Result.{MatchResult-from_err}
use Rattle.exec.proofs.Handing.{handing_more, handing_unlike, handing_done, handing_few, handing_many}
use Rattle.exec.proofs.passing.hand_back.Goals as goal

pub returns-in_default : goal.returns-in_default
returns-in_default c apart sizes = handing_few _ _ _ _ _ _ _ _ c.loop-x.invariant.2 c.in_default.ensures.steps.0 c.in-Some.ensures.steps sizes

pub returns-in_err-hand : goal.returns-in_err-hand
returns-in_err-hand c = MatchResult-from_err c.from_residual.result _ _ c.from_residual.ensures.0 (λ y. handing_unlike _ _ _ _ _ _ _ _ c.loop-x.invariant.2 c.in-Some-next.ensures.steps c.in-Some.ensures.steps c.loop-x.invariant.2.stays.program_stays (rw c.name.ensures.text at c.in_err-hand.ensures))

pub loop-x-preserved : goal.loop-x-preserved
loop-x-preserved c = (tt, tt, handing_more _ _ _ _ _ _ _ _ c.loop-x.invariant.2 c.in-Some-next.ensures.steps c.in-Some.ensures.steps c.loop-x.invariant.2.stays.program_stays _ (rw c.name.ensures.text at c.in_ok-hand.ensures))

pub returns-in-Some-next-2 : goal.returns-in-Some-next-2
returns-in-Some-next-2 c apart sizes = handing_many _ _ _ _ _ _ _ _ c.loop-x.invariant.2 c.in-Some-next-2.ensures.steps c.in-None.ensures.steps.0 sizes

pub returns-in-None-next : goal.returns-in-None-next
returns-in-None-next c = handing_done _ _ _ _ _ _ _ _ c.loop-x.invariant.2 c.in-None-next.ensures.steps.0 c.in-None.ensures.steps.0
