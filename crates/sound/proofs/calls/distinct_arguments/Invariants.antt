use Rattle.std.proofs.Common.{◌≡◌, length}
use Rattle.lang.specs.Base.{distinct}
use Rattle.walk.specs.Listing.{passed_in}
use Rattle.sound.proofs.calls.distinct_arguments.Given as goal

abbrev pub invariant-loop-x : goal.invariant-loop-x
invariant-loop-x l = distinct (passed_in l.rest) ≡ distinct (passed_in l.arguments)

abbrev pub decreases-loop-x : goal.decreases-loop-x
decreases-loop-x l = length (passed_in l.rest)
