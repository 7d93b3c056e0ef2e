-- The states of which an expression speaks, found through the indices where names are declared.
use Rattle.std.specs.Prelude.{ℕ, List, [], ◌∷◌, length}
use Rattle.lang.specs.Meaning.{State, bind}
use Rattle.walk.specs.Nests.{nested}
use Rattle.walk.specs.Walking.{rest, word, declared}
use Rattle.eval.specs.States.{state_of, both}
use Rattle.eval.specs.declared.names.Names.{Names}
use Rattle.eval.specs.declared.scope.Counter.{Counter}
use Rattle.eval.specs.declared.scope.Scope.{Scope}

-- the numbers now, and those with which the procedure began
abbrev pub state_now : Names → State
state_now n = state_of (both n.program.now n.params n.locals) n.now.now

abbrev pub state_old : Names → State
state_old n = state_of (declared (rest n.program.now n.params)) n.old.now

-- the state with the counters of `all` in front, the innermost first
abbrev pub bound : List Counter → State → State
bound [] s = s
bound (c ∷ cs) s = bind (bound cs s) (word c.program.now c.place) c.value

-- the states of which an expression speaks inside of `all`
abbrev pub inside : Scope → State
inside s = bound (nested s.counters) (state_now s.names)

-- how many `all` stand around
abbrev pub depth : Scope → ℕ
depth s = length (nested s.counters)
