use Rattle.std.proofs.Common.{◌≡◌, rules, sym, ◌∙◌}
use Rattle.walk.specs.Listing.{passed_in}
use Rattle.walk.specs.Walking.{rest, passed}
use Rattle.exec.proofs.Handing.{passing_none, passing_more, passing_done, passing_few, passing_many, passing_missing, passing_other}
use Rattle.exec.proofs.Stopping.{handed_on}
use Rattle.exec.proofs.passing.pass.Goals as goal

pub loop-x-init : goal.loop-x-init
loop-x-init c =
    let given : passed_in c.into_iter-x-iterator.result ≡ passed (rest c.args.caller.now.program.now c.args.arguments) = search rules in
    (tt, tt, passing_none c.args.caller.now.program.now c.args.caller.now c.args.arguments c.args.params _ _ _ c.from-left.ensures given c.new-numbers.ensures.items)

pub returns-in_default : goal.returns-in_default
returns-in_default c = passing_few _ _ _ _ _ _ _ c.loop-x.invariant.2 c.in_default.ensures.steps.0 c.in-Some.ensures.steps

pub returns-in_err-values : goal.returns-in_err-values
returns-in_err-values c = handed_on c.from_residual.result _ _ c.from_residual.ensures.1 (λ y e. rw e (passing_missing _ _ _ _ _ _ _ c.loop-x.invariant.2 c.in-Some-next.ensures.steps c.in-Some.ensures.steps c.args.caller.now.sized.current (sym c.in_err-values.ensures)))

pub returns-then-values-count : goal.returns-then-values-count
returns-then-values-count c = passing_other _ _ _ _ _ _ _ c.loop-x.invariant.2 c.in-Some-next.ensures.steps c.in-Some.ensures.steps c.args.caller.now.sized.current c.in_ok-values.values.now (sym c.in_ok-values.ensures) (λ e. c.if-values-count.true (e ∙ sym c.count.ensures))

pub loop-x-preserved : goal.loop-x-preserved
loop-x-preserved c = (tt, tt, rw c.in_ok-extend_from_slice.ensures.items (passing_more _ _ _ _ _ _ _ c.loop-x.invariant.2 c.in_ok-values.values.now c.in-Some-next.ensures.steps c.in-Some.ensures.steps (sym c.in_ok-values.ensures) (c.if-values-count.false ∙ c.count.ensures)))

pub returns-in-Some-next-2 : goal.returns-in-Some-next-2
returns-in-Some-next-2 c = passing_many _ _ _ _ _ _ _ c.loop-x.invariant.2 c.in-Some-next-2.ensures.steps c.in-None.ensures.steps.0

pub returns-in-None-next : goal.returns-in-None-next
returns-in-None-next c = passing_done _ _ _ _ _ _ _ c.loop-x.invariant.2 c.in-None-next.ensures.steps.0 c.in-None.ensures.steps.0
