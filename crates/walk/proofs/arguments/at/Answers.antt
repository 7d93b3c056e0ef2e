use Rattle.std.proofs.Common.{sym, ap, ◌∙◌, Some}
use Rattle.walk.specs.Walking.{word}
use Rattle.walk.proofs.Walking.{no_passed, passed_here}
use Rattle.walk.proofs.arguments.at.Goals as goal

pub returns-in_err-place : goal.returns-in_err-place
returns-in_err-place c = rw c.from_residual.ensures (no_passed _ (sym c.in_err-place.ensures.name))

pub returns : goal.returns
returns c =
    let p = c.args.program.now in
    let at = c.at.ensures.at in
    passed_here p c.args.i _ (c.at.ensures.text ∙ ap (word p) (sym at)) (ap (λ x. Some (word p x)) at ∙ c.in_ok-place.ensures.name) c.in_ok-place.ensures.bound
