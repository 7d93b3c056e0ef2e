use Rattle.eval.proofs.Walking.{round_other, unwrapped}
use Rattle.eval.proofs.+rounds_step_perform.Goals as goal

pub rounds-returns-then-not-unwrap_or : goal.rounds-returns-then-not-unwrap_or
rounds-returns-then-not-unwrap_or t c = round_other _ _ _ _ _ c.loop-value.invariant _ c.in-Some.ensures _ _ c.in_ok-perform.ensures _ c.pop-truth.ensures.value _ c.pop-truth.ensures.after _ c.loop-value-test.true (unwrapped c.pop-truth.result _ c.if-not-unwrap_or.ensures)
