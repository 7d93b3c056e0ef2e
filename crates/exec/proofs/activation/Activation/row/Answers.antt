use Rattle.std.proofs.Common.{ℕ, List, take, drop, Some, vec_items, sym, ap, ◌∙◌}
use Rattle.std.proofs.lemmas.Result.{err_from_is_err_and}
use Rattle.eval.proofs.States.{values_at, values_missing}
use Rattle.exec.specs.Activating.{names}
use Rattle.exec.proofs.activation.Activation.row.Goals as goal

pub returns-in_err-slot : goal.returns-in_err-slot
returns-in_err-slot c =
    let p = err_from_is_err_and c.from_residual.result c.from_residual.ensures.1 in
    rw p.1 (sym (values_missing _ _ _ (sym c.in_err-slot.ensures.found)))

pub returns : goal.returns
returns c =
    let a = c.args.self.now in
    let slot = c.in_ok-slot.slot in
    let found = values_at (names c.args.self.now.program.now a) (vec_items a.numbers) _ slot (sym c.in_ok-slot.ensures.found) in
    ap Some (c.part.ensures ∙ ap (λ (xs : List ℕ). take slot.size (drop slot.start xs)) c.as_slice.ensures.value) ∙ sym found
