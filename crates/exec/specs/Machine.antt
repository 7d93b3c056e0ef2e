-- Running a program without recursion: what is still to be done stands on a stack of frames.
use Rattle.std.specs.Prelude.{ℕ, List, [], ◌∷◌}
use Rattle.lang.specs.Base.{Word}
use Rattle.lang.specs.Meaning.{State, Outcome, ok, and_then, need, pass_back, exec, exec_block}
use Rattle.lang.specs.Syntax.{Expr, BoolExpr, Block, loop, Decl, Program}

-- u: the fuel with which to go on
pub data Frame : Type 0 where
  -- the rest of a block
  rest_of : (u : ℕ) → Block → Frame
  -- another round: test, invariant, measure, body
  again : (u : ℕ) → BoolExpr → BoolExpr → Expr → Block → Frame
  -- behind a call: the caller's state, its beginning, the parameters, the arguments, and the rest of the caller's block
  return_to : (u : ℕ) → State → State → List Decl → List Word → Block → Frame

abbrev pub returned : State → List Decl → List Word → Outcome → Outcome
returned s ds xs r = and_then r λ t. need (pass_back s t.state ds xs) λ z. ok (record { state = z; choices = t.choices })

module _ (p : Program) where
  -- what comes of an outcome, with all that is still to be done behind it; o: the state at the beginning of the procedure that is running
  unfoldable pub resume : State → List Frame → Outcome → Outcome
  resume o [] r = r
  resume o (rest_of u ss ∷ fs) r = resume o fs (and_then r λ t. exec_block u p o ss t)
  resume o (again u b i e c ∷ fs) r = resume o fs (and_then r λ t. exec u p o (loop b i e c) t)
  resume o (return_to u s o' ds xs ss ∷ fs) r = resume o' fs (and_then (returned s ds xs r) λ t. exec_block u p o' ss t)
