use Rattle.std.proofs.Common.{sym, subst}
use Rattle.std.proofs.lemmas.Result.{err_from_is_err_and}
use Rattle.parse.specs.InBlock.{Closed}
use Rattle.parse.specs.Reading.{snap}
use Rattle.parse.proofs.InBlock.{begun}
use Rattle.parse.proofs.Rooms.{paid_none, paid_then}
use Rattle.parse.proofs.reader.Reader.block.Goals as goal

pub loop-self-init : goal.loop-self-init
loop-self-init c = (begun _, paid_none _, c.height-base.ensures)

pub returns-in_err-statement-clause-reads : goal.returns-in_err-statement-clause-reads
returns-in_err-statement-clause-reads c =
    let p = err_from_is_err_and c.from_residual.result c.from_residual.ensures.1 in
    rw p.1 (c.in_err-statement.ensures.reads _ (sym c.if-not-at.ensures) c.loop-self.invariant.0)

pub loop-self-preserved-then-not-at : goal.loop-self-preserved-then-not-at
loop-self-preserved-then-not-at c =
    let told = c.in_ok-statement.ensures in
    (told.reads _ (sym c.if-not-at.ensures) c.loop-self.invariant.0, paid_then _ _ _ c.loop-self.invariant.1 told.paid, c.loop-self.invariant.2)

pub returns-in_err-close-clause-reads : goal.returns-in_err-close-clause-reads
returns-in_err-close-clause-reads c =
    let p = err_from_is_err_and c.from_residual-in_err-close.result c.from_residual-in_err-close.ensures.1 in
    rw p.1 (c.in_err-close.ensures.reads _ c.loop-self.invariant.2 c.loop-self.invariant.0)

pub returns-then-branch-clause-reads : goal.returns-then-branch-clause-reads
returns-then-branch-clause-reads c =
    let told = c.in_ok-close.ensures in
    subst (Closed (snap c.args.self.now) (snap c.close.new.self)) c.if-branch.true (told.reads _ c.loop-self.invariant.2 c.loop-self.invariant.0)

pub loop-self-preserved : goal.loop-self-preserved
loop-self-preserved c =
    let told = c.in_ok-close.ensures in
    (subst (Closed (snap c.args.self.now) (snap c.close.new.self)) c.if-branch.false (told.reads _ c.loop-self.invariant.2 c.loop-self.invariant.0), paid_then _ _ _ c.loop-self.invariant.1 told.paid, c.loop-self.invariant.2)
