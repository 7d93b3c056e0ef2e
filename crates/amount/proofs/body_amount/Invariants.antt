use Rattle.std.proofs.Common.{◌≡◌, ◌+◌, ◌≤◌, min, true}
use Rattle.lang.specs.Holding.{Holds}
use Rattle.lang.specs.Soundness.{sound}
use Rattle.lang.specs.Syntax.{Program}
use Rattle.walk.specs.Walking.{rest}
use Rattle.amount.specs.Weighing.{most, level, weighed, call_size}
use Rattle.amount.proofs.body_amount.Given as goal

abbrev pub invariant-loop-node : goal.invariant-loop-node
invariant-loop-node l =
    (goal.iterator-loop-node).can_next l.node-iterator × (goal.iterator-loop-node).is_finite l.node-iterator
    × (l.node-iterator.program.now ≡ l.program) × (l.total ≤ most)
    × ((p : Program) → Holds l.program p → sound p ≡ true → min (l.total + weighed (call_size p l.names) l.names 2 l.factors (rest l.program l.node-iterator.at)) most ≡ min (weighed (call_size p l.names) l.names 2 (level 1) (rest l.program l.from)) most)
