-- What the nodes of a program's code stand for, with the names and numbers that the text has at their places.
use Rattle.std.specs.Prelude.{ℕ, cond, ◌||◌, List, [], ◌∷◌, drop}
use Rattle.std.specs.Option.{unwrap_or}
use Rattle.lang.specs.Base.{Word}
use Rattle.lang.specs.Tokens.{is_letter, is_digit, written}
use Rattle.lang.specs.declared.code.Node.{Node}
use Rattle.lang.specs.declared.code.Node.TheVariants.{Num, Var, Old, Binary, Index, OldIndex, True, Compare, And, Or, Implies, Not, All, Bound, Scope, EndAll, Assign, Store, Check, Havoc, Call, Arg, EndCall, If, Then, Else, EndIf, While, Test, Invariant, Measure, Do, EndWhile, Proc, Extent, Param, Local, Scalar, Row, Pre, Post, Body, EndProc}
use Rattle.lang.specs.declared.syntax.ArithOp.{ArithOp}
use Rattle.lang.specs.declared.syntax.Comparison.{Comparison}

-- the longest run of letters and digits at the front
unfoldable pub run : List ℕ → Word
run [] = []
run (b ∷ bs) = cond (is_letter b || is_digit b) (b ∷ run bs) []

abbrev pub name_at : List ℕ → ℕ → Word
name_at text p = run (drop p text)

abbrev pub number_at : List ℕ → ℕ → ℕ
number_at text p = unwrap_or (written (name_at text p)) 0

-- numbers without a name are lengths: how many instructions the part behind has
pub data Instr : Type 0 where
  num : ℕ → Instr
  var : Word → Instr
  old : Word → Instr
  binary : ArithOp → Instr
  index : Word → Instr
  old_index : Word → Instr
  truth : Instr
  compare : Comparison → Instr
  conj : Instr
  disj : Instr
  implies : Instr
  negate : Instr
  all : Word → Instr
  bound : ℕ → Instr
  scope : ℕ → Instr
  end_all : Instr
  assign : Word → Instr
  store : Word → Instr
  check : Instr
  havoc : Word → Instr
  call : Word → Instr
  arg : Word → Instr
  end_call : Instr
  if : Instr
  then : ℕ → Instr
  else : ℕ → Instr
  end_if : Instr
  while : Instr
  test : ℕ → Instr
  invariant : ℕ → Instr
  measure : ℕ → Instr
  rounds : ℕ → Instr
  end_while : Instr
  proc : Word → Instr
  extent : ℕ → Instr
  param : Word → Instr
  local : Word → Instr
  scalar : Instr
  row : ℕ → Instr
  pre : ℕ → Instr
  post : ℕ → Instr
  body : ℕ → Instr
  end_proc : Instr

abbrev pub instr : List ℕ → Node → Instr
instr text (Num p) = num (number_at text p.0)
instr text (Var p) = var (name_at text p.0)
instr text (Old p) = old (name_at text p.0)
instr text (Binary o p) = binary o
instr text (Index p) = index (name_at text p.0)
instr text (OldIndex p) = old_index (name_at text p.0)
instr text (True p) = truth
instr text (Compare o p) = compare o
instr text (And p) = conj
instr text (Or p) = disj
instr text (Implies p) = implies
instr text (Not p) = negate
instr text (All p) = all (name_at text p.0)
instr text (Bound p) = bound (number_at text p.0)
instr text (Scope n) = scope n
instr text EndAll = end_all
instr text (Assign p) = assign (name_at text p.0)
instr text (Store p) = store (name_at text p.0)
instr text (Check p) = check
instr text (Havoc p) = havoc (name_at text p.0)
instr text (Call p) = call (name_at text p.0)
instr text (Arg p) = arg (name_at text p.0)
instr text EndCall = end_call
instr text (If p) = if
instr text (Then n) = then n
instr text (Else n) = else n
instr text EndIf = end_if
instr text (While p) = while
instr text (Test n) = test n
instr text (Invariant n) = invariant n
instr text (Measure n) = measure n
instr text (Do n) = rounds n
instr text EndWhile = end_while
instr text (Proc p) = proc (name_at text p.0)
instr text (Extent n) = extent n
instr text (Param p) = param (name_at text p.0)
instr text (Local p) = local (name_at text p.0)
instr text Scalar = scalar
instr text (Row p) = row (number_at text p.0)
instr text (Pre n) = pre n
instr text (Post n) = post n
instr text (Body n) = body n
instr text EndProc = end_proc
