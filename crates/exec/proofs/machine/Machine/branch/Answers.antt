use Rattle.std.proofs.Common.{◌-◌, ◌^◌, refl, arith}
use Rattle.exec.specs.Running.{stage}
use Rattle.exec.proofs.Driving.{pushed_onward}
use Rattle.exec.proofs.Stepping.{pushed_less, branch_taken, branch_failed}
use Rattle.exec.proofs.Halting.{halts}
use Rattle.exec.proofs.machine.Machine.branch.Goals as goal

pub returns-in_err-test : goal.returns-in_err-test
returns-in_err-test c =
    let s = stage c.args.self.now in
    let held = s.running.program.now in
    halts s _ _ c.from_residual.result _ _ c.from_residual.ensures.1 c.in_err-test.ensures (λ untold p hold is_sound v. branch_failed held s p hold is_sound v c.args.here.at c.skip-from.result c.args.here.fuel c.requires.next c.requires.fuel c.skip-from.ensures untold)

pub returns : goal.returns
returns c =
    let s = stage c.args.self.now in
    let held = s.running.program.now in
    let u = c.args.here.fuel in
    let pushed = c.in_ok-push.ensures in
    record {
      less = pushed_less u (u - 2) (4 ^ (u - 2)) _ s.frames _ pushed (omega (arith, c.requires.fuel)) (omega arith) refl refl;
      onward = pushed_onward s _ _ _ _ pushed (λ p hold is_sound v. branch_taken held s p hold is_sound v _ c.args.here.at c.skip-from.result c.in_ok-test.test.at u c.way.result c.ways_at-ways.result c.in_ok-test.test.value c.requires.next c.requires.fuel c.skip-from.ensures c.in_ok-test.ensures c.ways_at-ways.ensures c.way.ensures pushed);
    }
