use Rattle.std.proofs.Common.{◌-◌, ◌^◌, ◌<◌, refl, arith}
use Rattle.walk.specs.Walking.{word}
use Rattle.exec.specs.Running.{stage}
use Rattle.exec.proofs.Calls.{call_unsound, call_late, called_on}
use Rattle.exec.proofs.Driving.{left_all, onward_by}
use Rattle.exec.proofs.Framing.{bottom_return}
use Rattle.exec.proofs.Halting.{halted_by, call_halts}
use Rattle.exec.proofs.Stepping.{pushed_less}
use Rattle.exec.proofs.machine.Machine.call.Goals as goal

pub returns-in_err-called : goal.returns-in_err-called
returns-in_err-called c =
    let s = stage c.args.self.now in
    let held = s.running.program.now in
    let f = word held c.args.name in
    call_halts s _ _ c.from_residual.result f c.skip-arguments.result _ c.from_residual.ensures.1 c.in_err-called.ensures (λ bad p hold is_sound v. call_unsound held s p hold is_sound v c.args.here.at c.skip-arguments.result c.args.here.fuel f c.requires.fuel c.skip-arguments.ensures c.requires.next bad)

pub returns-then-here-eq2 : goal.returns-then-here-eq2
returns-then-here-eq2 c =
    let s = stage c.args.self.now in
    let held = s.running.program.now in
    let f = word held c.args.name in
    halted_by s _ _ (λ p hold is_sound v. call_late held s p hold is_sound v c.args.here.at c.skip-arguments.result c.args.here.fuel f c.requires.fuel c.skip-arguments.ensures c.in_ok-called.called c.requires.next c.in_ok-called.ensures c.if-here-eq2.true)

pub returns : goal.returns
returns c =
    let s = stage c.args.self.now in
    let held = s.running.program.now in
    let u = c.args.here.fuel in
    let f = word held c.args.name in
    let pushed = c.in_ok-push.ensures in
    let big : 2 < u = omega (arith, c.requires.fuel, c.if-here-eq2.false) in
    let ready = c.in_ok-called.ensures in
    record {
      less = pushed_less u (u - 3) (4 ^ (u - 3)) _ s.frames _ pushed (omega arith) (omega arith) refl refl;
      onward = onward_by s _ _ _ (bottom_return _ c.replace-caller.ensures.value pushed) (left_all s.choices) (λ p hold is_sound v. called_on held s p hold is_sound v c.args.here.at c.skip-arguments.result u f c.requires.fuel c.skip-arguments.ensures _ c.behind_call.result c.in_ok-called.called c.replace-caller.result c.replace-caller.new.dest c.requires.next ready big c.behind_call.ensures c.replace-caller.ensures.value c.replace-caller.ensures.after pushed);
    }
