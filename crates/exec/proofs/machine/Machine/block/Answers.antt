use Rattle.std.proofs.Common.{◌<◌, sym, ◌∙◌, arith}
use Rattle.exec.specs.Running.{stage}
use Rattle.exec.proofs.Driving.{same_onward}
use Rattle.exec.proofs.Halting.{halted_by}
use Rattle.exec.proofs.Stepping.{ended, not_ended, late_block, late_stmt, done_less}
use Rattle.exec.proofs.machine.Machine.block.Goals as goal

pub returns-then-here-eq0 : goal.returns-then-here-eq0
returns-then-here-eq0 c = record { comes = λ held p hold is_sound v from. late_block held p c.if-here-eq0.true from }

pub returns-in_default : goal.returns-in_default
returns-in_default c =
    let s = stage c.args.self.now in
    let held = s.running.program.now in
    let pos : 0 < c.args.here.fuel = omega arith in
    record {
      less = done_less c.args.here.fuel s.frames;
      onward = same_onward s _ _ (λ p hold is_sound v. ended held p (sym c.in_default.ensures) pos);
    }

pub returns-then-here-eq1 : goal.returns-then-here-eq1
returns-then-here-eq1 c =
    let s = stage c.args.self.now in
    let held = s.running.program.now in
    halted_by s _ _ (λ p hold is_sound v from. late_stmt held p (λ d. not_ended held p c.in-Some.next (c.in-Some.ensures ∙ d)) c.if-here-eq1.true from)
