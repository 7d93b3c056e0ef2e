use Rattle.std.proofs.Common.{◌∙◌}
use Rattle.sound.proofs.Checking.{handed_on}
use Rattle.sound.proofs.Wholes.{no_width, not_all_declared, sound_if_written}
use Rattle.sound.proofs.check.Goals as goal

pub returns-then-not-is_width : goal.returns-then-not-is_width
returns-then-not-is_width c p holds = no_width p holds.width c.if-not-is_width.ensures

pub returns-in_err-check_declared : goal.returns-in_err-check_declared
returns-in_err-check_declared c p holds =
    handed_on c.from_residual.result c.from_residual.ensures.0
    ∙ not_all_declared p holds.width c.if-not-is_width.ensures (c.in_err-check_declared.ensures p.procs holds.code)

pub returns : goal.returns
returns c p holds = c.check_written.ensures p holds ∙ sound_if_written p holds.width c.if-not-is_width.ensures (c.in_ok-check_declared.ensures p.procs holds.code)
