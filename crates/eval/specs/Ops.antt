-- Expressions as rows of operations on two stacks, of numbers and of truths. What fails is none, on a stack too: whether it matters is
-- decided by what is done with it.
use Rattle.std.specs.Prelude.{ℕ, suc, max, Bool, true, false, cond, not, List, [], ◌∷◌, length, Some, Option}
use Rattle.lang.specs.Base.{◌>>=◌, Word}
use Rattle.lang.specs.Code.{code_bool}
use Rattle.lang.specs.Instr as instr
use Rattle.lang.specs.Instr.{Instr}
use Rattle.lang.specs.Meaning.{State, fits, compute, scalar, element, compares, bind, all_below, holds}
use Rattle.lang.specs.Syntax as syntax
use Rattle.lang.specs.Syntax.{Expr, BoolExpr}
use Rattle.lang.specs.declared.syntax.ArithOp.{ArithOp}
use Rattle.lang.specs.declared.syntax.Comparison.{Comparison}
use Rattle.eval.specs.Stacking.{top, under}
use Rattle.eval.specs.declared.stacks.Stacks.{Stacks}

-- an `all` is one operation, with all that it counts through
pub data Op : Type 0 where
  num : ℕ → Op
  var : Word → Op
  old : Word → Op
  binary : ArithOp → Op
  index : Word → Op
  old_index : Word → Op
  truth : Op
  compare : Comparison → Op
  conj : Op
  disj : Op
  implies : Op
  negate : Op
  all : Word → ℕ → BoolExpr → Op

-- what stands behind the name of an `all`
abbrev pub code_all : ℕ → BoolExpr → List Instr → List Instr
code_all n a k = instr.bound n ∷ instr.scope (length (code_bool a [])) ∷ code_bool a (instr.end_all ∷ k)

abbrev pub code_op : Op → List Instr → List Instr
code_op (num n) k = instr.num n ∷ k
code_op (var x) k = instr.var x ∷ k
code_op (old x) k = instr.old x ∷ k
code_op (binary o) k = instr.binary o ∷ k
code_op (index x) k = instr.index x ∷ k
code_op (old_index x) k = instr.old_index x ∷ k
code_op truth k = instr.truth ∷ k
code_op (compare o) k = instr.compare o ∷ k
code_op conj k = instr.conj ∷ k
code_op disj k = instr.disj ∷ k
code_op implies k = instr.implies ∷ k
code_op negate k = instr.negate ∷ k
code_op (all x n a) k = instr.all x ∷ code_all n a k

unfoldable pub code_ops : List Op → List Instr → List Instr
code_ops [] k = k
code_ops (o ∷ os) k = code_op o (code_ops os k)

-- each in front of other operations
unfoldable pub ops_expr : Expr → List Op → List Op
ops_expr (syntax.num n) os = num n ∷ os
ops_expr (syntax.var x) os = var x ∷ os
ops_expr (syntax.old x) os = old x ∷ os
ops_expr (syntax.binary o a b) os = ops_expr a (ops_expr b (binary o ∷ os))
ops_expr (syntax.index x i) os = ops_expr i (index x ∷ os)
ops_expr (syntax.old_index x i) os = ops_expr i (old_index x ∷ os)

unfoldable pub ops_bool : BoolExpr → List Op → List Op
ops_bool syntax.truth os = truth ∷ os
ops_bool (syntax.compare o a b) os = ops_expr a (ops_expr b (compare o ∷ os))
ops_bool (syntax.conj a b) os = ops_bool a (ops_bool b (conj ∷ os))
ops_bool (syntax.disj a b) os = ops_bool a (ops_bool b (disj ∷ os))
ops_bool (syntax.implies a b) os = ops_bool a (ops_bool b (implies ∷ os))
ops_bool (syntax.negate a) os = ops_bool a (negate ∷ os)
ops_bool (syntax.for_all x n a) os = all x n a ∷ os

-- how deep `all` stands in `all`
unfoldable pub nesting : BoolExpr → ℕ
nesting syntax.truth = 0
nesting (syntax.compare o a b) = 0
nesting (syntax.conj a b) = max (nesting a) (nesting b)
nesting (syntax.disj a b) = max (nesting a) (nesting b)
nesting (syntax.implies a b) = max (nesting a) (nesting b)
nesting (syntax.negate a) = nesting a
nesting (syntax.for_all x n a) = suc (nesting a)

abbrev pub op_nesting : Op → ℕ
op_nesting (num n) = 0
op_nesting (var x) = 0
op_nesting (old x) = 0
op_nesting (binary o) = 0
op_nesting (index x) = 0
op_nesting (old_index x) = 0
op_nesting truth = 0
op_nesting (compare o) = 0
op_nesting conj = 0
op_nesting disj = 0
op_nesting implies = 0
op_nesting negate = 0
op_nesting (all x n a) = suc (nesting a)

unfoldable pub ops_nesting : List Op → ℕ
ops_nesting [] = 0
ops_nesting (o ∷ os) = max (op_nesting o) (ops_nesting os)

abbrev pub empty : Stacks
empty = record { numbers = []; truths = [] }

abbrev pub push_number : Option ℕ → Stacks → Stacks
push_number n st = record { numbers = n ∷ st.numbers; truths = st.truths }

abbrev pub push_truth : Option Bool → Stacks → Stacks
push_truth t st = record { numbers = st.numbers; truths = t ∷ st.truths }

abbrev pub pop_number : Stacks → Stacks
pop_number st = record { numbers = under st.numbers; truths = st.truths }

abbrev pub pop_truth : Stacks → Stacks
pop_truth st = record { numbers = st.numbers; truths = under st.truths }

-- operations on what may have failed: x is the left side, y the right
abbrev pub computed : ℕ → ArithOp → Option ℕ → Option ℕ → Option ℕ
computed w k x y = x >>= λ a. y >>= λ b. compute w k a b

abbrev pub compared : Comparison → Option ℕ → Option ℕ → Option Bool
compared k x y = x >>= λ a. y >>= λ b. Some (compares k a b)

abbrev pub both_true : Option Bool → Option Bool → Option Bool
both_true x y = x >>= λ a. cond a y (Some false)

abbrev pub either_true : Option Bool → Option Bool → Option Bool
either_true x y = x >>= λ a. cond a (Some true) y

abbrev pub implied : Option Bool → Option Bool → Option Bool
implied x y = x >>= λ a. cond a y (Some true)

abbrev pub negated : Option Bool → Option Bool
negated x = x >>= λ a. Some (not a)

abbrev pub element_at : State → Word → Option ℕ → Option ℕ
element_at s x i = i >>= λ n. element s x n

-- w: the width; s: the state now; o: the state at the procedure's beginning
module _ (w : ℕ) (s o : State) where
  abbrev pub apply : Op → Stacks → Stacks
  apply (num n) st = push_number (fits w n) st
  apply (var x) st = push_number (scalar s x) st
  apply (old x) st = push_number (scalar o x) st
  apply (binary k) st = push_number (computed w k (top (under st.numbers)) (top st.numbers)) (pop_number (pop_number st))
  apply (index x) st = push_number (element_at s x (top st.numbers)) (pop_number st)
  apply (old_index x) st = push_number (element_at o x (top st.numbers)) (pop_number st)
  apply truth st = push_truth (Some true) st
  apply (compare k) st = push_truth (compared k (top (under st.numbers)) (top st.numbers)) (pop_number (pop_number st))
  apply conj st = push_truth (both_true (top (under st.truths)) (top st.truths)) (pop_truth (pop_truth st))
  apply disj st = push_truth (either_true (top (under st.truths)) (top st.truths)) (pop_truth (pop_truth st))
  apply implies st = push_truth (implied (top (under st.truths)) (top st.truths)) (pop_truth (pop_truth st))
  apply negate st = push_truth (negated (top st.truths)) (pop_truth st)
  apply (all x n a) st = push_truth (all_below n λ i. holds w (bind s x i) o a) st

  unfoldable pub apply_all : List Op → Stacks → Stacks
  apply_all [] st = st
  apply_all (k ∷ ks) st = apply_all ks (apply k st)
