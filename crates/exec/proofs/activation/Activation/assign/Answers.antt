use Rattle.std.proofs.Common.{sym, refl, arith}
use Rattle.std.proofs.lemmas.Result.{MatchResult-from_err}
use Rattle.exec.proofs.Writing.{unmoved, scalar_missing, no_scalar, assigned}
use Rattle.exec.proofs.activation.Activation.assign.Goals as goal

pub returns-in_err-slot : goal.returns-in_err-slot
returns-in_err-slot c = MatchResult-from_err c.from_residual.result _ _ c.from_residual.ensures.0 (λ y. scalar_missing _ _ _ (sym c.in_err-slot.ensures.found))

pub returns-then-slot-ne1 : goal.returns-then-slot-ne1
returns-then-slot-ne1 c = no_scalar _ _ _ c.in_ok-slot.slot (sym c.in_ok-slot.ensures.found) c.args.self.now.sized.current c.if-slot-ne1.true

pub returns : goal.returns
returns c = assigned c.args.self.now.program.now c.args.self.now _ (unmoved refl refl refl refl) c.args.self.now.sized.current _ c.in_ok-slot.slot (sym c.in_ok-slot.ensures.found) c.args.value (omega arith) refl
