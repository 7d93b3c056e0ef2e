use Rattle.std.proofs.Common.{◌≡◌}
use Rattle.lang.specs.Soundness.{same_sizes}
use Rattle.walk.specs.Listing.{declared_in, passed_in}
use Rattle.sound.specs.Scopes.{env}
use Rattle.sound.proofs.calls.same_sizes.Given as goal

abbrev pub invariant-loop-x : goal.invariant-loop-x
invariant-loop-x l =
    (goal.iterator-loop-x).can_next l.x-iterator × (goal.iterator-loop-x).is_finite l.x-iterator
    × (same_sizes (env l.scope).names (declared_in l.wanted) (passed_in l.x-iterator) ≡ same_sizes (env l.scope).names (declared_in l.params) (passed_in l.fn.arguments))
