use Rattle.std.proofs.Common.{◌≡◌}
use Rattle.lang.specs.Base.{all_of}
use Rattle.sound.specs.Checking.{well_written}
use Rattle.lang.specs.Holding.{Holds}
use Rattle.lang.specs.Syntax.{Program}
use Rattle.walk.specs.Walking.{rest, Left}
use Rattle.sound.proofs.check_written.Given as goal

abbrev pub invariant-loop-f : goal.invariant-loop-f
invariant-loop-f l =
    (goal.iterator-loop-f).can_next l.f-iterator × (goal.iterator-loop-f).is_finite l.f-iterator
    × (l.f-iterator.program.now ≡ l.program)
    × ((p : Program) → Holds l.program p → Left (all_of (well_written p)) (rest l.program l.f-iterator.at) (all_of (well_written p) p.procs))
