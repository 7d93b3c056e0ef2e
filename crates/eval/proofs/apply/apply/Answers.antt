use Rattle.std.proofs.Common.{rules}
use Rattle.eval.proofs.apply.apply.Goals as goal

pub returns-in_default : goal.returns-in_default
returns-in_default c = record { is = λ op e wide. search rules }
