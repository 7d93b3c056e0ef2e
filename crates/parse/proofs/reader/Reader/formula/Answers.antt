use Rattle.std.proofs.Common.{Some, ap, ◌∙◌, subst}
use Rattle.std.proofs.lemmas.Result.{err_from_is_err_and}
use Rattle.parse.specs.InBool.{InBool}
use Rattle.parse.specs.Reading.{snap}
use Rattle.parse.proofs.InBool.{begun}
use Rattle.parse.proofs.Rooms.{paid_none, paid_then}
use Rattle.parse.proofs.reader.Reader.formula.Goals as goal

pub loop-next-init : goal.loop-next-init
loop-next-init c = (begun _, paid_none _, c.height-base.ensures)

pub returns-in_err-unit-in-Unit-clause-reads : goal.returns-in_err-unit-in-Unit-clause-reads
returns-in_err-unit-in-Unit-clause-reads c =
    let p = err_from_is_err_and c.from_residual.result c.from_residual.ensures.1 in
    let here = subst (InBool _ (snap c.loop-next.self)) (c.in-Some.is ∙ ap Some c.in-Unit.is) c.loop-next.invariant.0 in
    rw p.1 (c.in_err-unit-in-Unit.ensures.reads _ here)

pub returns-in_err-next-in-Whole-clause-reads : goal.returns-in_err-next-in-Whole-clause-reads
returns-in_err-next-in-Whole-clause-reads c =
    let p = err_from_is_err_and c.from_residual-in_err-next-in-Whole.result c.from_residual-in_err-next-in-Whole.ensures.1 in
    let here = subst (InBool _ (snap c.loop-next.self)) (c.in-Some.is ∙ ap Some c.in-Whole.is) c.loop-next.invariant.0 in
    rw p.1 (c.in_err-next-in-Whole.ensures.reads _ c.loop-next.invariant.2 here)

pub loop-next-preserved-in_ok-unit-in-Unit : goal.loop-next-preserved-in_ok-unit-in-Unit
loop-next-preserved-in_ok-unit-in-Unit c =
    let told = c.in_ok-unit-in-Unit.ensures in
    let here = subst (InBool _ (snap c.loop-next.self)) (c.in-Some.is ∙ ap Some c.in-Unit.is) c.loop-next.invariant.0 in
    (told.reads _ here, paid_then _ _ _ c.loop-next.invariant.1 told.used.paid, c.loop-next.invariant.2)

pub loop-next-preserved-in-Behind : goal.loop-next-preserved-in-Behind
loop-next-preserved-in-Behind c =
    let told = c.behind_unit.ensures in
    let here = subst (InBool _ (snap c.loop-next.self)) (c.in-Some.is ∙ ap Some c.in-Behind.is) c.loop-next.invariant.0 in
    (told.reads _ c.loop-next.invariant.2 here, paid_then _ _ _ c.loop-next.invariant.1 told.used.paid, c.loop-next.invariant.2)

pub loop-next-preserved : goal.loop-next-preserved
loop-next-preserved c =
    let told = c.in_ok-next-in-Whole.ensures in
    let here = subst (InBool _ (snap c.loop-next.self)) (c.in-Some.is ∙ ap Some c.in-Whole.is) c.loop-next.invariant.0 in
    (told.reads _ c.loop-next.invariant.2 here, paid_then _ _ _ c.loop-next.invariant.1 told.used.paid, c.loop-next.invariant.2)
