-- A program as a row of instructions: operands before what is done with them, statements in the order of the text.
-- Each function puts the code of its piece in front of k, the code of what comes behind.
use Rattle.std.specs.Prelude.{cond, List, [], ◌∷◌, length, ◌==◌}
use Rattle.lang.specs.Base.{Word}
use Rattle.lang.specs.Instr as instr
use Rattle.lang.specs.Instr.{Instr}
use Rattle.lang.specs.Syntax.{Expr, num, var, old, binary, index, old_index, BoolExpr, truth, compare, conj, disj, implies, negate, for_all, Stmt, assign, store, branch, loop, check, call, havoc, Block, end, seq, Decl, Proc}

unfoldable pub code_expr : Expr → List Instr → List Instr
code_expr (num n) k = instr.num n ∷ k
code_expr (var x) k = instr.var x ∷ k
code_expr (old x) k = instr.old x ∷ k
code_expr (binary o a b) k = code_expr a (code_expr b (instr.binary o ∷ k))
code_expr (index x i) k = code_expr i (instr.index x ∷ k)
code_expr (old_index x i) k = code_expr i (instr.old_index x ∷ k)

unfoldable pub code_bool : BoolExpr → List Instr → List Instr
code_bool truth k = instr.truth ∷ k
code_bool (compare o a b) k = code_expr a (code_expr b (instr.compare o ∷ k))
code_bool (conj a b) k = code_bool a (code_bool b (instr.conj ∷ k))
code_bool (disj a b) k = code_bool a (code_bool b (instr.disj ∷ k))
code_bool (implies a b) k = code_bool a (code_bool b (instr.implies ∷ k))
code_bool (negate a) k = code_bool a (instr.negate ∷ k)
code_bool (for_all x n a) k = instr.all x ∷ instr.bound n ∷ instr.scope (length (code_bool a [])) ∷ code_bool a (instr.end_all ∷ k)

abbrev pub code_args : List Word → List Instr → List Instr
code_args [] k = k
code_args (x ∷ xs) k = instr.arg x ∷ code_args xs k

unfoldable mutual
  pub code_stmt : Stmt → List Instr → List Instr
  code_stmt (assign x e) k = code_expr e (instr.assign x ∷ k)
  code_stmt (store x i e) k = code_expr i (code_expr e (instr.store x ∷ k))
  code_stmt (branch b c d) k = instr.if ∷ code_bool b (instr.then (length (code_block c [])) ∷ code_block c (instr.else (length (code_block d [])) ∷ code_block d (instr.end_if ∷ k)))
  code_stmt (loop b i e c) k = instr.while ∷ instr.test (length (code_bool b [])) ∷ code_bool b (instr.invariant (length (code_bool i [])) ∷ code_bool i (instr.measure (length (code_expr e [])) ∷ code_expr e (instr.rounds (length (code_block c [])) ∷ code_block c (instr.end_while ∷ k))))
  code_stmt (check b) k = code_bool b (instr.check ∷ k)
  code_stmt (call f xs) k = instr.call f ∷ code_args xs (instr.end_call ∷ k)
  code_stmt (havoc x) k = instr.havoc x ∷ k

  pub code_block : Block → List Instr → List Instr
  code_block end k = k
  code_block (seq s ss) k = code_stmt s (code_block ss k)

abbrev pub code_size : Decl → Instr
code_size d = cond (d.size == 0) instr.scalar (instr.row d.size)

abbrev pub code_params : List Decl → List Instr → List Instr
code_params [] k = k
code_params (d ∷ ds) k = instr.param d.name ∷ code_size d ∷ code_params ds k

abbrev pub code_locals : List Decl → List Instr → List Instr
code_locals [] k = k
code_locals (d ∷ ds) k = instr.local d.name ∷ code_size d ∷ code_locals ds k

abbrev pub code_parts : Proc → List Instr → List Instr
code_parts q k = code_params q.params (instr.pre (length (code_bool q.pre [])) ∷ code_bool q.pre (instr.post (length (code_bool q.post [])) ∷ code_bool q.post (instr.measure (length (code_expr q.measure [])) ∷ code_expr q.measure (code_locals q.locals (instr.body (length (code_block q.body [])) ∷ code_block q.body (instr.end_proc ∷ k))))))

abbrev pub code_proc : Proc → List Instr → List Instr
code_proc q k = instr.proc q.name ∷ instr.extent (length (code_parts q [])) ∷ code_parts q k

abbrev pub code_procs : List Proc → List Instr → List Instr
code_procs [] k = k
code_procs (q ∷ qs) k = code_proc q (code_procs qs k)
