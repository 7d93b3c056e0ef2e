use Rattle.std.proofs.Common.{◌≡◌, length}
use Rattle.sound.specs.Checking.{apart}
use Rattle.walk.specs.Listing.{declared_in}
use Rattle.sound.proofs.names.check_apart.Given as goal

abbrev pub invariant-loop-d : goal.invariant-loop-d
invariant-loop-d l = apart (declared_in l.rest) (declared_in l.others) ≡ apart (declared_in l.these) (declared_in l.others)

abbrev pub decreases-loop-d : goal.decreases-loop-d
decreases-loop-d l = length (declared_in l.rest)
