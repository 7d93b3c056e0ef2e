use Rattle.std.proofs.Common.{◌∙◌}
use Rattle.sound.proofs.Checking.{handed_on}
use Rattle.sound.proofs.Wholes.{head_unsound, head_sound}
use Rattle.sound.proofs.check_procedure.Goals as goal

pub returns-in_err-check_part : goal.returns-in_err-check_part
returns-in_err-check_part c p holds q k e =
    handed_on c.from_residual.result c.from_residual.ensures.0
    ∙ head_unsound c.args.program p q k c.outline_at-o.result (c.outline_at-o.ensures q k e) c.from.result c.none.result c.from.ensures c.none.ensures (c.in_err-check_part.ensures p holds)

pub returns : goal.returns
returns c p holds q k e =
    c.check_part-2.ensures p holds
    ∙ head_sound c.args.program p q k c.outline_at-o.result (c.outline_at-o.ensures q k e) c.from.result c.none.result c.from.ensures c.none.ensures c.from-2.result c.from-2.ensures (c.in_ok-check_part.ensures p holds)
