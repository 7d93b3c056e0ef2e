use Rattle.std.proofs.Common.{◌≡◌, get_or, rules, sym, ◌∙◌}
use Rattle.exec.proofs.Drawing.{chosen_more, chosen_none}
use Rattle.exec.proofs.choosing.chosen.Goals as goal

pub loop-place-init : goal.loop-place-init
loop-place-init c = c.new-values.ensures.items ∙ sym (chosen_none c.args.width.0 c.args.choices.now)

pub loop-place-preserved : goal.loop-place-preserved
loop-place-preserved c =
    let so_far = c.loop-place.invariant in
    let value = c.reduce.ensures in
    let choice : c.unwrap_or-choice.result ≡ get_or c.args.choices.now c.loop-place.place 0 = search rules in
    rw (c.in_ok-push.ensures.items, so_far, value, choice) (sym (chosen_more c.args.width.0 c.loop-place.place c.args.choices.now))
