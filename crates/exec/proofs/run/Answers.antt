use Rattle.std.proofs.Common.{◌≡◌, suc, ◌-◌, arith}
use Rattle.std.proofs.lemmas.Result.{MatchResult-weaker}
use Rattle.exec.proofs.Whole.{ran, ran_late}
use Rattle.exec.proofs.run.Goals as goal

pub returns-then-fuel-eq0 : goal.returns-then-fuel-eq0
returns-then-fuel-eq0 c = ran_late c.args.program.now c.args.procedure c.args.numbers.now c.args.choices.now c.args.fuel c.if-fuel-eq0.true c.in_ok-o.ensures.below

pub returns : goal.returns
returns c =
    let held = c.args.program.now in
    let u = c.args.fuel in
    let is_u : u ≡ suc (u - 1) = omega arith in
    MatchResult-weaker c.finish.result c.finish.ensures (ran held c.args.procedure c.args.numbers.now c.args.choices.now u (u - 1) is_u c.in_ok-o.o _ c.in_ok-machine.ensures c.in_ok-o.ensures) (λ e is. rw is tt)
