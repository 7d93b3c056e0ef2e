-- The code of a piece in front of other code is its own code, then the other.
use Rattle.std.proofs.Common.{◌≡◌, List, [], ◌∷◌, ◌++◌, sym, refl, ap, ◌∙◌, append_assoc}
use Rattle.lang.specs.Base.{Word}
use Rattle.lang.specs.Code.{code_expr, code_bool, code_args, code_stmt, code_block, code_params, code_locals, code_size}
use Rattle.lang.specs.Instr as instr
use Rattle.lang.specs.Instr.{Instr}
use Rattle.lang.specs.Syntax.{Expr, num, var, old, binary, index, old_index, BoolExpr, truth, compare, conj, disj, implies, negate, for_all, Stmt, assign, store, branch, loop, check, call, havoc, Block, end, seq, Decl}

-- f puts code in front of whatever there is
pub record Front (f : List Instr → List Instr) : Type 0 where
  pub splits : (k : List Instr) → f k ≡ f [] ++ k

pub none_front : Front (λ k. k)
none_front = record { splits = λ k. refl }

pub one_front : (i : Instr) → Front (λ k. i ∷ k)
one_front i = record { splits = λ k. refl }

pub then_front : {f g : List Instr → List Instr} → Front f → Front g → Front (λ k. f (g k))
then_front {f} {g} p q = record { splits = λ k. p.splits (g k) ∙ ap (λ is. f [] ++ is) (q.splits k) ∙ sym (append_assoc (f []) (g []) k) ∙ ap (λ is. is ++ k) (sym (p.splits (g []))) }

pub expr_front : (e : Expr) → Front (code_expr e)
unfolding code_expr
expr_front (num n) = one_front (instr.num n)
expr_front (var x) = one_front (instr.var x)
expr_front (old x) = one_front (instr.old x)
expr_front (binary o a b) = then_front (expr_front a) (then_front (expr_front b) (one_front (instr.binary o)))
expr_front (index x i) = then_front (expr_front i) (one_front (instr.index x))
expr_front (old_index x i) = then_front (expr_front i) (one_front (instr.old_index x))

pub bool_front : (b : BoolExpr) → Front (code_bool b)
unfolding code_bool
bool_front truth = one_front instr.truth
bool_front (compare o a b) = then_front (expr_front a) (then_front (expr_front b) (one_front (instr.compare o)))
bool_front (conj a b) = then_front (bool_front a) (then_front (bool_front b) (one_front instr.conj))
bool_front (disj a b) = then_front (bool_front a) (then_front (bool_front b) (one_front instr.disj))
bool_front (implies a b) = then_front (bool_front a) (then_front (bool_front b) (one_front instr.implies))
bool_front (negate a) = then_front (bool_front a) (one_front instr.negate)
bool_front (for_all x n a) = then_front (one_front _) (then_front (one_front _) (then_front (one_front _) (then_front (bool_front a) (one_front instr.end_all))))

pub args_front : (xs : List Word) → Front (code_args xs)
args_front [] = none_front
args_front (x ∷ xs) = then_front (one_front (instr.arg x)) (args_front xs)

mutual
  unfolding code_stmt

  pub stmt_front : (s : Stmt) → Front (code_stmt s)
  stmt_front (assign x e) = then_front (expr_front e) (one_front (instr.assign x))
  stmt_front (store x i e) = then_front (expr_front i) (then_front (expr_front e) (one_front (instr.store x)))
  stmt_front (branch b c d) = then_front (one_front _) (then_front (bool_front b) (then_front (one_front _) (then_front (block_front c) (then_front (one_front _) (then_front (block_front d) (one_front _))))))
  stmt_front (loop b i e c) = then_front (one_front _) (then_front (one_front _) (then_front (bool_front b) (then_front (one_front _) (then_front (bool_front i) (then_front (one_front _) (then_front (expr_front e) (then_front (one_front _) (then_front (block_front c) (one_front _)))))))))
  stmt_front (check b) = then_front (bool_front b) (one_front _)
  stmt_front (call f xs) = then_front (one_front _) (then_front (args_front xs) (one_front _))
  stmt_front (havoc x) = one_front _

  pub block_front : (ss : Block) → Front (code_block ss)
  block_front end = none_front
  block_front (seq s ss) = then_front (stmt_front s) (block_front ss)

pub params_front : (ds : List Decl) → Front (code_params ds)
params_front [] = none_front
params_front (d ∷ ds) = then_front (one_front _) (then_front (one_front (code_size d)) (params_front ds))

pub locals_front : (ds : List Decl) → Front (code_locals ds)
locals_front [] = none_front
locals_front (d ∷ ds) = then_front (one_front _) (then_front (one_front (code_size d)) (locals_front ds))
