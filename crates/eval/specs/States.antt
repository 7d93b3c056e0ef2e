-- States as rows of numbers: those of each declared name, one after the other.
use Rattle.std.specs.Prelude.{◌≡◌, ℕ, ◌+◌, cond, List, [], ◌∷◌, ◌++◌, length, take, drop, Some, None, Option}
use Rattle.lang.specs.Base.{Word, same}
use Rattle.lang.specs.Meaning.{State, count}
use Rattle.lang.specs.Syntax.{Decl}
use Rattle.lang.specs.declared.program.Program.{Program}
use Rattle.walk.specs.Walking.{rest, declared}
use Rattle.eval.specs.declared.names.Slot.{Slot}

-- how many numbers the names have together
unfoldable pub counts : List Decl → ℕ
counts [] = 0
counts (d ∷ ds) = count d + counts ds

unfoldable pub state_of : List Decl → List ℕ → State
state_of [] ns = []
state_of (d ∷ ds) ns = record { name = d.name; values = take (count d) ns } ∷ state_of ds (drop (count d) ns)

-- where the numbers of a name stand, if those of the first declaration begin at n
unfoldable pub slot_of : List Decl → ℕ → Word → Option Slot
slot_of [] n x = None
slot_of (d ∷ ds) n x = cond (same d.name x) (Some (record { start = n; size = count d })) (slot_of ds (n + count d) x)

-- what is declared from each of two indices on
abbrev pub both : Program → ℕ → ℕ → List Decl
both held params locals = declared (rest held params) ++ declared (rest held locals)

-- as many numbers now as its names have, and as many of the beginning as its parameters have
pub record Sized (held : Program) (params locals : ℕ) (now old : List ℕ) : Type 0 where
  pub current : length now ≡ counts (both held params locals)
  pub initial : length old ≡ counts (declared (rest held params))
