use Rattle.walk.specs.Listing.{declared_in, passed_in}
use Rattle.exec.proofs.Handing.{HandingBack}
use Rattle.exec.proofs.passing.hand_back.Given as goal

abbrev pub invariant-loop-x : goal.invariant-loop-x
invariant-loop-x l =
    (goal.iterator-loop-x).can_next l.x-iterator × (goal.iterator-loop-x).is_finite l.x-iterator
    × HandingBack l.initial.caller.program.now l.callee.program.now l.initial.caller l.caller l.callee l.arguments (declared_in l.left) (passed_in l.x-iterator)
