use Rattle.std.proofs.Common.{◌≡◌, List, []}
use Rattle.sound.specs.Checking.{all_declared}
use Rattle.lang.specs.Code.{code_procs}
use Rattle.lang.specs.Holding.{code_of}
use Rattle.lang.specs.Syntax.{Proc}
use Rattle.walk.specs.Walking.{rest, Left}
use Rattle.sound.proofs.check_declared.Given as goal

abbrev pub invariant-loop-f : goal.invariant-loop-f
invariant-loop-f l =
    (goal.iterator-loop-f).can_next l.f-iterator × (goal.iterator-loop-f).is_finite l.f-iterator
    × (l.f-iterator.program.now ≡ l.program)
    × ((qs : List Proc) → code_of l.program ≡ code_procs qs [] → Left all_declared (rest l.program l.f-iterator.at) (all_declared qs))
