use Rattle.std.proofs.Common.{◌≡◌, ◌≤◌, true}
use Rattle.lang.specs.Holding.{Holds}
use Rattle.lang.specs.Soundness.{sound}
use Rattle.lang.specs.Syntax.{Program}
use Rattle.walk.specs.Walking.{rest}
use Rattle.amount.specs.Weighing.{most, Weighs}
use Rattle.amount.proofs.amount.Given as goal

abbrev pub invariant-loop-f : goal.invariant-loop-f
invariant-loop-f l =
    (goal.iterator-loop-f).can_next l.f-iterator × (goal.iterator-loop-f).is_finite l.f-iterator
    × (l.f-iterator.program.now ≡ l.program) × (l.total ≤ most)
    × ((p : Program) → Holds l.program p → sound p ≡ true → Weighs p (rest l.program l.f-iterator.at) l.total)
