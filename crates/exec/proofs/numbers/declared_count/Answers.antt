use Rattle.std.proofs.Common.{◌+◌, ◌^◌, ◌≤◌, inl, inr, arith}
use Rattle.std.proofs.lemmas.Bool.{cases_lt}
use Rattle.walk.specs.Walking.{rest, declared}
use Rattle.eval.proofs.States.{counts_none, counts_more}
use Rattle.eval.specs.States.{counts}
use Rattle.exec.proofs.numbers.declared_count.Goals as goal

pub returns-in_err-n : goal.returns-in_err-n
returns-in_err-n c =
    let more = counts_more c.in-Some.ensures.steps in
    let so_far = c.loop-d.invariant.2 in
    let large : 2 ^ 64 ≤ counts (declared (rest c.args.program.now c.args.from)) = elim (cases_lt (c.loop-d.n + c.count.result) (2 ^ 64)) [ inl h ↦ absurd (c.in_err-n.ensures h) | inr h ↦ omega (arith, c.count.ensures) ] in
    rw c.from_residual.ensures large

pub loop-d-preserved : goal.loop-d-preserved
loop-d-preserved c =
    let more = counts_more c.in-Some.ensures.steps in
    let so_far = c.loop-d.invariant.2 in
    (tt, tt, omega (arith, c.count.ensures, c.in_ok-n.ensures.1))

pub returns : goal.returns
returns c =
    let last = counts_none c.in-None.ensures.steps.0 in
    let so_far = c.loop-d.invariant.2 in
    omega arith
