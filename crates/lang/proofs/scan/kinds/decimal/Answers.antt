use Rattle.std.proofs.Common.{None, sym, ◌∙◌}
use Rattle.lang.proofs.Lexing.{decimal_more}
use Rattle.lang.proofs.scan.kinds.decimal.Goals as goal

pub returns-in_err-n : goal.returns-in_err-n
returns-in_err-n c = c.from_residual.ensures ∙ sym (decimal_more _ _ _ None c.loop-b-test.true c.in_err-n.ensures) ∙ c.loop-b.invariant.0
