use Rattle.std.proofs.Common.{◌∙◌}
use Rattle.sound.proofs.Checking.{handed_on}
use Rattle.sound.proofs.Naming.{params_again, locals_again, short_params}
use Rattle.sound.proofs.names.check_names.Goals as goal

pub returns-in_err-check_apart : goal.returns-in_err-check_apart
returns-in_err-check_apart c =
    handed_on c.from_residual.result c.from_residual.ensures.0
    ∙ params_again c.from-params.ensures c.from-locals.ensures c.none-none.ensures c.if-not-are_few.ensures c.in_err-check_apart.ensures

pub returns-in_err-check_apart-2 : goal.returns-in_err-check_apart-2
returns-in_err-check_apart-2 c =
    handed_on c.from_residual-in_err-check_apart-2.result c.from_residual-in_err-check_apart-2.ensures.0
    ∙ locals_again c.from-params.ensures c.from-locals.ensures c.none-none.ensures c.if-not-are_few.ensures c.in_ok-check_apart.ensures c.in_err-check_apart-2.ensures

pub returns : goal.returns
returns c =
    short_params c.from-params.ensures c.from-locals.ensures c.none-none.ensures c.if-not-are_few.ensures c.in_ok-check_apart.ensures c.in_ok-check_apart-2.ensures c.in_ok-check_rows.ensures c.check_rows-2.ensures
