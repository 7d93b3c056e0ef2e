use Rattle.std.proofs.Common.{◌<◌, refl, arith}
use Rattle.exec.specs.Running.{stage}
use Rattle.exec.proofs.Acting.{work_failed, worked_on}
use Rattle.exec.proofs.Driving.{left_all, stays_onward}
use Rattle.exec.proofs.Halting.{failure_halts}
use Rattle.exec.proofs.Stepping.{same_less}
use Rattle.exec.proofs.machine.Machine.simple.Goals as goal

pub returns-in_err-act : goal.returns-in_err-act
returns-in_err-act c =
    let s = stage c.args.self.now in
    let held = s.running.program.now in
    failure_halts s _ _ c.from_residual-in_err-act.result _ c.from_residual-in_err-act.ensures.1 (λ p hold is_sound v. work_failed held s p hold is_sound v c.args.here.at c.in_ok-end.end c.args.here.fuel _ c.requires.fuel c.in_ok-end.ensures c.requires.next c.in_err-act.ensures)

pub returns : goal.returns
returns c =
    let s = stage c.args.self.now in
    let held = s.running.program.now in
    let u = c.args.here.fuel in
    let acted = c.in_ok-act.ensures in
    let pos : 0 < u = omega (arith, c.requires.fuel) in
    record {
      less = same_less u s.frames s.frames refl pos;
      onward = stays_onward s _ _ _ acted.stays refl (left_all s.choices) (λ p hold is_sound v. worked_on held s p hold is_sound v c.args.here.at c.in_ok-end.end u _ c.requires.fuel c.in_ok-end.ensures c.skip.result _ c.requires.next acted refl refl c.skip.ensures);
    }
