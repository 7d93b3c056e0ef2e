use Rattle.std.proofs.Common.{◌≡◌, ◌++◌, replicate, vec_items}
use Rattle.exec.proofs.passing.push_zeros.Given as goal

abbrev pub invariant-loop : goal.invariant-loop
invariant-loop l = vec_items l.numbers ≡ vec_items l.initial.numbers ++ replicate l.counter 0
