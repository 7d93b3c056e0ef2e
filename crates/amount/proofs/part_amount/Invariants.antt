use Rattle.std.proofs.Common.{◌≡◌, ◌+◌, ◌≤◌, min}
use Rattle.walk.specs.Walking.{rest}
use Rattle.amount.specs.Weighing.{most, level, weighed, no_calls}
use Rattle.amount.proofs.part_amount.Given as goal

abbrev pub invariant-loop-node : goal.invariant-loop-node
invariant-loop-node l =
    (goal.iterator-loop-node).can_next l.node-iterator × (goal.iterator-loop-node).is_finite l.node-iterator
    × (l.node-iterator.program.now ≡ l.program) × (l.total ≤ most)
    × (min (l.total + weighed no_calls l.names l.measure l.factors (rest l.program l.node-iterator.at)) most ≡ min (weighed no_calls l.names l.measure (level 1) (rest l.program l.from)) most)
