use Rattle.std.proofs.Common.{Some, ap, ◌∙◌, subst}
use Rattle.std.proofs.lemmas.Result.{err_from_is_err_and}
use Rattle.parse.specs.InExpr.{InExpr}
use Rattle.parse.specs.Reading.{snap}
use Rattle.parse.proofs.InExpr.{begun}
use Rattle.parse.proofs.Rooms.{paid_none, paid_then}
use Rattle.parse.proofs.reader.Reader.expression.Goals as goal

pub loop-next-init : goal.loop-next-init
loop-next-init c = (begun _, paid_none _, c.height-base.ensures)

pub returns-in_err-operand-in-Operand-clause-reads : goal.returns-in_err-operand-in-Operand-clause-reads
returns-in_err-operand-in-Operand-clause-reads c =
    let p = err_from_is_err_and c.from_residual.result c.from_residual.ensures.1 in
    let here = subst (InExpr _ (snap c.loop-next.self)) (c.in-Some.is ∙ ap Some c.in-Operand.is) c.loop-next.invariant.0 in
    rw p.1 (c.in_err-operand-in-Operand.ensures.reads _ here)

pub returns-in_err-next-in-Atom-clause-reads : goal.returns-in_err-next-in-Atom-clause-reads
returns-in_err-next-in-Atom-clause-reads c =
    let p = err_from_is_err_and c.from_residual-in_err-next-in-Atom.result c.from_residual-in_err-next-in-Atom.ensures.1 in
    let here = subst (InExpr _ (snap c.loop-next.self)) (c.in-Some.is ∙ ap Some c.in-Atom.is) c.loop-next.invariant.0 in
    rw p.1 (c.in_err-next-in-Atom.ensures.reads _ c.loop-next.invariant.2 here)

pub loop-next-preserved-in_ok-operand-in-Operand : goal.loop-next-preserved-in_ok-operand-in-Operand
loop-next-preserved-in_ok-operand-in-Operand c =
    let told = c.in_ok-operand-in-Operand.ensures in
    let here = subst (InExpr _ (snap c.loop-next.self)) (c.in-Some.is ∙ ap Some c.in-Operand.is) c.loop-next.invariant.0 in
    (told.reads _ here, paid_then _ _ _ c.loop-next.invariant.1 told.used.paid, c.loop-next.invariant.2)

pub loop-next-preserved : goal.loop-next-preserved
loop-next-preserved c =
    let told = c.in_ok-next-in-Atom.ensures in
    let here = subst (InExpr _ (snap c.loop-next.self)) (c.in-Some.is ∙ ap Some c.in-Atom.is) c.loop-next.invariant.0 in
    (told.reads _ c.loop-next.invariant.2 here, paid_then _ _ _ c.loop-next.invariant.1 told.used.paid, c.loop-next.invariant.2)
