use Rattle.std.proofs.Common.{sym, refl, arith}
use Rattle.std.proofs.lemmas.Result.{MatchResult-from_err}
use Rattle.exec.proofs.Writing.{unmoved, element_missing, element_outside, stored}
use Rattle.exec.proofs.activation.Activation.store.Goals as goal

pub returns-in_err-slot : goal.returns-in_err-slot
returns-in_err-slot c = MatchResult-from_err c.from_residual.result _ _ c.from_residual.ensures.0 (λ y. element_missing _ _ _ c.args.place (sym c.in_err-slot.ensures.found))

pub returns-then-place-slot : goal.returns-then-place-slot
returns-then-place-slot c = element_outside _ _ _ c.in_ok-slot.slot (sym c.in_ok-slot.ensures.found) c.args.self.now.sized.current c.args.place (omega arith)

pub returns : goal.returns
returns c = stored c.args.self.now.program.now c.args.self.now _ (unmoved refl refl refl refl) c.args.self.now.sized.current _ c.in_ok-slot.slot (sym c.in_ok-slot.ensures.found) c.args.place c.args.value (omega arith) refl
