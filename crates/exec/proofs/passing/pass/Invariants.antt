use Rattle.std.proofs.Common.{vec_items}
use Rattle.walk.specs.Listing.{declared_in, passed_in}
use Rattle.exec.proofs.Handing.{Passing}
use Rattle.exec.proofs.passing.pass.Given as goal

abbrev pub invariant-loop-x : goal.invariant-loop-x
invariant-loop-x l =
    (goal.iterator-loop-x).can_next l.x-iterator × (goal.iterator-loop-x).is_finite l.x-iterator
    × Passing l.caller.program.now l.caller l.arguments l.params (declared_in l.left) (passed_in l.x-iterator) (vec_items l.numbers)
