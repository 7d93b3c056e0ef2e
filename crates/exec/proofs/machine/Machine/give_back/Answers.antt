use Rattle.std.proofs.Common.{refl, sym, ◌∙◌}
use Rattle.exec.specs.Running.{stage}
use Rattle.exec.proofs.Calls.{gave_back, not_gave_back}
use Rattle.exec.proofs.Driving.{left_all}
use Rattle.exec.proofs.Framing.{bottom_same, bottom_return}
use Rattle.exec.proofs.Halting.{handed_on_never}
use Rattle.exec.proofs.Stepping.{returned_less}
use Rattle.exec.proofs.machine.Machine.give_back.Goals as goal

pub returns-in_err-hand_back : goal.returns-in_err-hand_back
returns-in_err-hand_back c = handed_on_never _ _ _ c.from_residual.result _ c.from_residual.ensures.1 (λ held p hold is_sound v. not_gave_back held (stage c.args.self.now) p v c.args.caller c.args.arguments c.args.behind c.in_err-hand_back.ensures)

pub returns : goal.returns
returns c =
    let s = stage c.args.self.now in
    let stays = c.in_ok-hand_back.ensures.stays in
    record {
      less = returned_less c.args.caller c.args.arguments c.args.behind s.frames;
      onward = record {
        same_bottom = bottom_same c.args.caller c.hand_back.new.caller stays.params_stay stays.locals_stay refl ∙ sym (bottom_return s.running refl refl);
        choices_left = left_all s.choices;
        comes = λ held p hold is_sound v. gave_back held s p v c.args.caller c.args.arguments c.args.behind c.hand_back.new.caller c.in_ok-hand_back.ensures;
      };
    }
