use Rattle.std.proofs.Common.{◌≡◌, leb}
use Rattle.lang.specs.Base.{all_of}
use Rattle.walk.specs.Listing.{declared_in}
use Rattle.sound.proofs.names.check_rows.Given as goal

abbrev pub invariant-loop-d : goal.invariant-loop-d
invariant-loop-d l =
    (goal.iterator-loop-d).can_next l.d-iterator × (goal.iterator-loop-d).is_finite l.d-iterator
    × (all_of (λ d. leb d.size 16) (declared_in l.d-iterator) ≡ all_of (λ d. leb d.size 16) (declared_in l.fn.these))
