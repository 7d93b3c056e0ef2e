use Rattle.std.proofs.Common.{◌≡◌, List, length, sym, ap, arith}
use Rattle.lang.specs.Base.{Word}
use Rattle.walk.specs.Walking.{rest, passed}
use Rattle.walk.proofs.Walking.{given_here, no_passed}
use Rattle.walk.proofs.arguments.end.Goals as goal

pub loop-i-preserved : goal.loop-i-preserved
loop-i-preserved c =
    let given = given_here c.args.program.now c.loop-i.i c.in-Some.field-0 c.in-Some.ensures.name in
    omega (arith, given.longer, c.loop-i.invariant)

pub returns : goal.returns
returns c =
    let none : length (passed (rest c.args.program.now c.loop-i.i)) ≡ 0 = ap (λ (k : List Word). length k) (no_passed _ (sym c.in_default.ensures.name)) in
    omega (arith, none, c.loop-i.invariant)
