use Rattle.std.proofs.Common.{vec_items, sym, refl, arith}
use Rattle.std.proofs.lemmas.Result.{MatchResult-from_err}
use Rattle.exec.proofs.Handing.{unlike_param, unlike_argument, unlike_sizes}
use Rattle.exec.proofs.Writing.{unmoved, overwritten, still_sized}
use Rattle.exec.proofs.passing.hand.Goals as goal

pub returns-in_err-values : goal.returns-in_err-values
returns-in_err-values c = MatchResult-from_err c.from_residual.result _ _ c.from_residual.ensures.0 (λ y. unlike_param _ _ (vec_items c.args.callee.now.numbers) (vec_items c.args.caller.now.numbers) c.args.callee.now.sized.current c.args.caller.now.sized.current _ _ (sym c.in_err-values.ensures))

pub returns-in_err-slot : goal.returns-in_err-slot
returns-in_err-slot c = MatchResult-from_err c.from_residual-in_err-slot.result _ _ c.from_residual-in_err-slot.ensures.0 (λ y. unlike_argument _ _ (vec_items c.args.callee.now.numbers) (vec_items c.args.caller.now.numbers) c.args.callee.now.sized.current c.args.caller.now.sized.current _ _ (sym c.in_err-slot.ensures.found))

pub returns-then-values-slot : goal.returns-then-values-slot
returns-then-values-slot c = unlike_sizes _ _ (vec_items c.args.callee.now.numbers) (vec_items c.args.caller.now.numbers) c.args.callee.now.sized.current c.args.caller.now.sized.current _ _ c.in_ok-values.values.now c.in_ok-slot.slot (sym c.in_ok-values.ensures) (sym c.in_ok-slot.ensures.found) c.if-values-slot.true

pub invariant_of-caller : goal.invariant_of-caller
invariant_of-caller c = record { sized = still_sized c.args.caller.now c.in_ok-slot.slot c.in_ok-values.values.now _ c.in_ok-slot.ensures.within (omega arith) c.copy.ensures }

pub returns : goal.returns
returns c =
    record {
      values = c.in_ok-values.values.now;
      found = sym c.in_ok-values.ensures;
      wrote = overwritten c.args.caller.now.program.now c.args.caller.now _ (unmoved refl refl refl refl) c.args.caller.now.sized.current _ c.in_ok-slot.slot (sym c.in_ok-slot.ensures.found) c.in_ok-values.values.now (omega arith) c.copy.ensures;
    }
