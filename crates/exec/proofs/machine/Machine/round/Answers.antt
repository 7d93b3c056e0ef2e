use Rattle.std.proofs.Common.{◌-◌, ◌^◌, ◌<◌, refl, arith}
use Rattle.std.proofs.lemmas.Bool.{not-true, not-false}
use Rattle.exec.specs.Running.{stage}
use Rattle.exec.proofs.Driving.{pushed_onward, same_onward}
use Rattle.exec.proofs.Stepping.{pushed_less, done_less, late_loop, round_failed, round_ended, round_begun}
use Rattle.exec.proofs.Halting.{halts}
use Rattle.exec.proofs.machine.Machine.round.Goals as goal

pub returns-then-here-eq0 : goal.returns-then-here-eq0
returns-then-here-eq0 c = record { comes = λ held p hold is_sound v from. late_loop held p c.if-here-eq0.true from }

pub returns-in_err-test : goal.returns-in_err-test
returns-in_err-test c =
    let s = stage c.args.self.now in
    let held = s.running.program.now in
    let pos : 0 < c.args.here.fuel = omega arith in
    halts s _ _ c.from_residual.result _ _ c.from_residual.ensures.1 c.in_err-test.ensures (λ untold p hold is_sound v. round_failed held s p hold is_sound v c.args.here.at c.args.here.fuel c.rounds_at-rounds.result pos c.rounds_at-rounds.ensures untold)

pub returns-then-not-test : goal.returns-then-not-test
returns-then-not-test c =
    let s = stage c.args.self.now in
    let held = s.running.program.now in
    let pos : 0 < c.args.here.fuel = omega arith in
    record {
      less = done_less c.args.here.fuel s.frames;
      onward = same_onward s _ _ (λ p hold is_sound v. round_ended held s p hold is_sound v c.args.here.at c.args.here.fuel c.rounds_at-rounds.result pos c.rounds_at-rounds.ensures c.in_ok-test.test.at c.in_ok-test.test.value c.in_ok-test.ensures (not-true c.in_ok-test.test.value c.if-not-test.true));
    }

pub returns : goal.returns
returns c =
    let s = stage c.args.self.now in
    let held = s.running.program.now in
    let u = c.args.here.fuel in
    let pushed = c.in_ok-push.ensures in
    let pos : 0 < u = omega arith in
    record {
      less = pushed_less u (u - 1) (4 ^ (u - 1)) _ s.frames _ pushed pos (omega arith) refl refl;
      onward = pushed_onward s _ _ _ _ pushed (λ p hold is_sound v. round_begun held s p hold is_sound v c.args.here.at u c.rounds_at-rounds.result pos c.rounds_at-rounds.ensures _ c.in_ok-test.test.at c.in_ok-test.test.value c.in_ok-test.ensures (not-false c.in_ok-test.test.value c.if-not-test.false) pushed);
    }
