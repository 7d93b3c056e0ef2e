use Rattle.exec.proofs.Asking.{asked_told, asked_stopped}
use Rattle.exec.proofs.Handing.{begun_as}
use Rattle.exec.proofs.holds_before.Goals as goal

pub returns-in-Ok : goal.returns-in-Ok
returns-in-Ok c = asked_told c.args.program.now c.args.procedure c.args.numbers.now c.in_ok-o.o _ c.in_ok-running.running _ c.in_ok-o.ensures (begun_as c.in_ok-first.ensures.items c.in_ok-running.ensures) c.len.ensures c.skip-from.ensures _ _ c.in-Ok.ensures

pub returns-in-Err-Failed : goal.returns-in-Err-Failed
returns-in-Err-Failed c = asked_stopped c.args.program.now c.args.procedure c.args.numbers.now c.in_ok-o.o _ c.in_ok-running.running _ c.in_ok-o.ensures (begun_as c.in_ok-first.ensures.items c.in_ok-running.ensures) c.len.ensures c.skip-from.ensures _ _ c.in-Err-Failed.field-0-is tt c.in-Err-Failed.ensures
