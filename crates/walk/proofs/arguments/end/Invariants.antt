use Rattle.std.proofs.Common.{◌≡◌, ◌+◌, ◌-◌, length}
use Rattle.lang.specs.Holding.{code_of}
use Rattle.walk.specs.Walking.{passed, rest}
use Rattle.walk.proofs.arguments.end.Given as goal

abbrev pub invariant-loop-i : goal.invariant-loop-i
invariant-loop-i l = l.i + length (passed (rest l.program l.i)) ≡ l.from + length (passed (rest l.program l.from))

abbrev pub decreases-loop-i : goal.decreases-loop-i
decreases-loop-i l = length (code_of l.program) - l.i
