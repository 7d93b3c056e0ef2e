use Rattle.exec.proofs.Stopping.{handed_on}
use Rattle.exec.proofs.Testing.{told, untold}
use Rattle.exec.proofs.activation.Activation.truth.Goals as goal

pub returns-in_err-value : goal.returns-in_err-value
returns-in_err-value c = handed_on c.from_residual-in_err-value.result _ _ c.from_residual-in_err-value.ensures.1 (λ y e. rw e (untold _ _ _ _ _ c.in_ok-at.ensures c.in_err-value.ensures.value))

pub returns : goal.returns
returns c = told _ _ _ _ _ c.in_ok-at.ensures c.in_ok-value.value c.in_ok-value.ensures.value
