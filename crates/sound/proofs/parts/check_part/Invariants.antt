use Rattle.std.proofs.Common.{◌≡◌, ◌-◌, length}
use Rattle.sound.specs.Checking.{meets_all}
use Rattle.lang.specs.Holding.{Holds, code_of}
use Rattle.sound.specs.Scopes.{env}
use Rattle.lang.specs.Syntax as syntax
use Rattle.walk.specs.Walking.{rest}
use Rattle.sound.proofs.parts.check_part.Given as goal

abbrev pub invariant-loop-node : goal.invariant-loop-node
invariant-loop-node l =
    (l.rest.program.now ≡ l.names.program.now) × (l.names.program.now ≡ l.scope.program.now)
    × ((p : syntax.Program) → Holds l.scope.program.now p → meets_all p (env l.names) (rest l.names.program.now l.rest.at) ≡ meets_all p (env l.scope) (rest l.scope.program.now l.from))

abbrev pub decreases-loop-node : goal.decreases-loop-node
decreases-loop-node l = length (code_of l.rest.program.now) - l.rest.at
