use Rattle.std.proofs.Common.{◌≡◌}
use Rattle.walk.specs.Listing.{declared_in}
use Rattle.walk.specs.Walking.{size_in}
use Rattle.walk.proofs.declarations.Declarations.shape.Given as goal

abbrev pub invariant-loop-d : goal.invariant-loop-d
invariant-loop-d l =
    (goal.iterator-loop-d).can_next l.d-iterator × (goal.iterator-loop-d).is_finite l.d-iterator
    × (size_in (declared_in l.d-iterator) l.name ≡ size_in (declared_in l.fn.self) l.name)
