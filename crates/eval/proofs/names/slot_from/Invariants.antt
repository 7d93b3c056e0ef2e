use Rattle.std.proofs.Common.{◌≡◌, ◌+◌}
use Rattle.walk.specs.Listing.{declared_in}
use Rattle.walk.specs.Walking.{rest, declared}
use Rattle.eval.specs.States.{counts, slot_of}
use Rattle.eval.proofs.names.slot_from.Given as goal

abbrev pub invariant-loop-d : goal.invariant-loop-d
invariant-loop-d l =
    (goal.iterator-loop-d).can_next l.d-iterator × (goal.iterator-loop-d).is_finite l.d-iterator
    × (slot_of (declared_in l.d-iterator) l.n l.name ≡ slot_of (declared (rest l.program l.from)) l.start l.name)
    × (l.n + counts (declared_in l.d-iterator) ≡ l.start + counts (declared (rest l.program l.from)))
