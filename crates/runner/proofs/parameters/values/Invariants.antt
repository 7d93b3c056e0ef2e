use Rattle.std.proofs.Common.{◌≡◌, ◌++◌, string_bytes}
use Rattle.runner.specs.Written.{values_text}
use Rattle.walk.specs.Listing.{declared_in}
use Rattle.walk.specs.Walking.{declared, rest}
use Rattle.runner.proofs.parameters.values.Given as goal

abbrev pub invariant-loop-d : goal.invariant-loop-d
invariant-loop-d l =
    (goal.iterator-loop-d).can_next l.d-iterator × (goal.iterator-loop-d).is_finite l.d-iterator
    × (string_bytes l.out ++ values_text (declared_in l.d-iterator) l.left ≡ values_text (declared (rest l.fn.program l.fn.params)) l.fn.numbers)
