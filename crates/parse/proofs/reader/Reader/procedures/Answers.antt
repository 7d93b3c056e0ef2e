use Rattle.std.proofs.Common.{sym, subst}
use Rattle.std.proofs.lemmas.Result.{err_from_is_err_and}
use Rattle.lang.specs.declared.token.Fixed.TheVariants.{Proc}
use Rattle.parse.specs.Reading.{snap, Paid}
use Rattle.parse.proofs.Heads.{expect_starts}
use Rattle.parse.proofs.Rooms.{paid_then, paid_advance, room_after}
use Rattle.parse.proofs.Wholes.{all_read, no_procedure, unread_procedure, next_procedure}
use Rattle.parse.proofs.reader.Reader.procedures.Goals as goal

pub returns : goal.returns
returns c = all_read _ _ c.loop-self.invariant.0 (sym c.loop-self-test.ensures)

pub returns-in_err-expect : goal.returns-in_err-expect
returns-in_err-expect c =
    let p = err_from_is_err_and c.from_residual.result c.from_residual.ensures.1 in
    rw p.1 (no_procedure _ _ c.loop-self.invariant.0 (sym c.loop-self-test.ensures) c.in_err-expect.ensures)

pub returns-in_err-procedure : goal.returns-in_err-procedure
returns-in_err-procedure c =
    let p = err_from_is_err_and c.from_residual-in_err-procedure.result c.from_residual-in_err-procedure.ensures.1 in
    rw p.1 (unread_procedure _ _ c.loop-self.invariant.0 (sym c.loop-self-test.ensures) (snap c.expect.new.self) c.in_ok-expect.ensures.0 c.in_err-procedure.ensures.reads)

pub loop-self-preserved : goal.loop-self-preserved
loop-self-preserved c =
    let s = snap c.loop-self.self in
    let t = snap c.expect.new.self in
    let u = snap c.procedure.new.self in
    let first = c.in_ok-expect.ensures in
    let told = c.in_ok-procedure.ensures in
    (next_procedure _ s c.loop-self.invariant.0 (sym c.loop-self-test.ensures) t u first.0 first.1 told.reads told.paid.text, room_after s u c.loop-self.invariant.1 (paid_then s t u (subst (Paid s) (sym first.1) (paid_advance s (expect_starts Proc s.ahead t.ahead first.0))) told.paid))
