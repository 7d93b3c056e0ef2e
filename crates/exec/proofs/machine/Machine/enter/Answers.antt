use Rattle.std.proofs.Common.{◌-◌, ◌^◌, refl, arith}
use Rattle.exec.specs.Running.{stage}
use Rattle.exec.proofs.Driving.{pushed_onward}
use Rattle.exec.proofs.Stepping.{pushed_less, entered}
use Rattle.exec.proofs.machine.Machine.enter.Goals as goal

pub returns : goal.returns
returns c =
    let s = stage c.args.self.now in
    let held = s.running.program.now in
    let u = c.args.here.fuel in
    let pushed = c.in_ok-push.ensures in
    record {
      less = pushed_less u (u - 1) (4 ^ (u - 1)) _ s.frames _ pushed (omega (arith, c.requires.fuel)) (omega arith) refl refl;
      onward = pushed_onward s _ _ _ _ pushed (λ p hold is_sound v. entered held s _ p hold is_sound v c.args.here.at u c.rounds_at-rounds.result c.requires.next c.requires.fuel c.rounds_at-rounds.ensures pushed);
    }
