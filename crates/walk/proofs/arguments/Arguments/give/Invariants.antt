use Rattle.std.proofs.Common.{◌≡◌}
use Rattle.lang.specs.Base.{among}
use Rattle.walk.specs.Listing.{passed_in}
use Rattle.walk.proofs.arguments.Arguments.give.Given as goal

abbrev pub invariant-loop-x : goal.invariant-loop-x
invariant-loop-x l =
    (goal.iterator-loop-x).can_next l.x-iterator × (goal.iterator-loop-x).is_finite l.x-iterator
    × (among l.name (passed_in l.x-iterator) ≡ among l.name (passed_in l.fn.self))
