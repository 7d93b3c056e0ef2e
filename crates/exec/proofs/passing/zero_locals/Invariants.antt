use Rattle.std.proofs.Common.{◌≡◌, ◌++◌, replicate, vec_items}
use Rattle.eval.specs.States.{counts}
use Rattle.walk.specs.Listing.{declared_in}
use Rattle.walk.specs.Walking.{declared, rest}
use Rattle.exec.proofs.passing.zero_locals.Given as goal

abbrev pub invariant-loop-d : goal.invariant-loop-d
invariant-loop-d l =
    (goal.iterator-loop-d).can_next l.d-iterator × (goal.iterator-loop-d).is_finite l.d-iterator
    × (vec_items l.numbers ++ replicate (counts (declared_in l.d-iterator)) 0 ≡ vec_items l.initial.numbers ++ replicate (counts (declared (rest l.program l.from))) 0)
