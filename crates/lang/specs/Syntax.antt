-- Programs as trees, with what is to be shown of them.
use Rattle.std.specs.Prelude.{ℕ, List}
use Rattle.lang.specs.Base.{Word}
use Rattle.lang.specs.declared.syntax.ArithOp.{ArithOp}
use Rattle.lang.specs.declared.syntax.Comparison.{Comparison}

-- old: as at the beginning of the procedure
pub data Expr : Type 0 where
  num : ℕ → Expr
  var : Word → Expr
  old : Word → Expr
  binary : ArithOp → Expr → Expr → Expr
  index : Word → Expr → Expr
  old_index : Word → Expr → Expr

-- for_all x n b: b is so with each number below n for x
pub data BoolExpr : Type 0 where
  truth : BoolExpr
  compare : Comparison → Expr → Expr → BoolExpr
  conj : BoolExpr → BoolExpr → BoolExpr
  disj : BoolExpr → BoolExpr → BoolExpr
  implies : BoolExpr → BoolExpr → BoolExpr
  negate : BoolExpr → BoolExpr
  for_all : Word → ℕ → BoolExpr → BoolExpr

mutual
  pub data Stmt : Type 0 where
    assign : Word → Expr → Stmt
    -- row, place, value
    store : Word → Expr → Expr → Stmt
    branch : BoolExpr → Block → Block → Stmt
    -- test, invariant, measure, body
    loop : BoolExpr → BoolExpr → Expr → Block → Stmt
    check : BoolExpr → Stmt
    call : Word → List Word → Stmt
    -- whatever is chosen
    havoc : Word → Stmt

  pub data Block : Type 0 where
    end : Block
    seq : Stmt → Block → Block

-- a name of a number, of size 0, or of a row of so many numbers
pub record Decl : Type 0 where
  pub name : Word
  pub size : ℕ

pub record Proc : Type 0 where
  pub name : Word
  pub params : List Decl
  pub pre : BoolExpr
  pub post : BoolExpr
  pub measure : Expr
  pub locals : List Decl
  pub body : Block

-- numbers have `width` bits
pub record Program : Type 0 where
  pub width : ℕ
  pub procs : List Proc
