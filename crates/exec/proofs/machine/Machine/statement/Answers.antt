use Rattle.std.proofs.Common.{Some, sym, ap, ◌∙◌}
use Rattle.exec.specs.Deeds.{shown}
use Rattle.exec.specs.Running.{stage}
use Rattle.exec.proofs.Halting.{never}
use Rattle.exec.proofs.Stepping.{nothing_ahead}
use Rattle.exec.proofs.machine.Machine.statement.Goals as goal

pub returns-in-Nothing : goal.returns-in-Nothing
returns-in-Nothing c =
    let s = stage c.args.self.now in
    let held = s.running.program.now in
    never s _ _ (λ p hold is_sound v from. nothing_ahead held p (sym c.requires.next ∙ ap (λ n. shown held (Some n)) c.in-Nothing.is) from)
