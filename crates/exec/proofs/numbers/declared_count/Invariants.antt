use Rattle.std.proofs.Common.{◌≡◌, ◌+◌}
use Rattle.walk.specs.Listing.{declared_in}
use Rattle.walk.specs.Walking.{declared, rest}
use Rattle.eval.specs.States.{counts}
use Rattle.exec.proofs.numbers.declared_count.Given as goal

abbrev pub invariant-loop-d : goal.invariant-loop-d
invariant-loop-d l =
    (goal.iterator-loop-d).can_next l.d-iterator × (goal.iterator-loop-d).is_finite l.d-iterator
    × (l.n + counts (declared_in l.d-iterator) ≡ counts (declared (rest l.program l.from)))
