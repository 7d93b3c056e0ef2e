use Rattle.std.proofs.Common.{◌≡◌, List, []}
use Rattle.lang.specs.Code.{code_procs}
use Rattle.lang.specs.Soundness.{find_proc}
use Rattle.lang.specs.Syntax.{Proc}
use Rattle.walk.specs.Walking.{rest, Left}
use Rattle.walk.proofs.procedures.find_named.Given as goal

abbrev pub invariant-loop-f : goal.invariant-loop-f
invariant-loop-f l =
    (goal.iterator-loop-f).can_next l.f-iterator × (goal.iterator-loop-f).is_finite l.f-iterator
    × (l.f-iterator.program.now ≡ l.program)
    × ((qs : List Proc) → rest l.program l.from ≡ code_procs qs [] → Left (λ rs. find_proc rs l.name) (rest l.program l.f-iterator.at) (find_proc qs l.name))
