-- How much there is to show of a program: its pieces, a place in a row as often as rows are long, `all` as often as it counts.
use Rattle.std.specs.Prelude.{ℕ, ◌+◌, ◌*◌, List, [], ◌∷◌}
use Rattle.lang.specs.Base.{maybe}
use Rattle.lang.specs.Soundness.{find_proc, scope}
use Rattle.lang.specs.Syntax.{Expr, num, var, old, binary, index, old_index, BoolExpr, truth, compare, conj, disj, implies, negate, for_all, Stmt, assign, store, branch, loop, check, call, havoc, Block, end, seq, Decl, Proc, Program}

unfoldable pub size_expr : Expr → ℕ
size_expr (num n) = 1
size_expr (var x) = 1
size_expr (old x) = 1
size_expr (binary o a b) = 1 + (size_expr a + size_expr b)
size_expr (index x i) = 16 + size_expr i
size_expr (old_index x i) = 16 + size_expr i

unfoldable pub size_bool : BoolExpr → ℕ
size_bool truth = 1
size_bool (compare o a b) = 1 + (size_expr a + size_expr b)
size_bool (conj a b) = 1 + (size_bool a + size_bool b)
size_bool (disj a b) = 1 + (size_bool a + size_bool b)
size_bool (implies a b) = 1 + (size_bool a + size_bool b)
size_bool (negate a) = 1 + size_bool a
size_bool (for_all x n a) = 1 + n * (1 + size_bool a)

unfoldable pub size_decls : List Decl → ℕ
size_decls [] = 0
size_decls (d ∷ ds) = (1 + d.size) + size_decls ds

-- n: how much the names of the procedure are
unfoldable mutual
  pub size_stmt : Program → ℕ → Stmt → ℕ
  size_stmt p n (assign x e) = 2 + size_expr e
  size_stmt p n (store x i e) = 32 + (size_expr i + size_expr e)
  size_stmt p n (branch b c d) = (2 + (2 * n + 2 * size_bool b)) + (size_block p n c + size_block p n d)
  size_stmt p n (loop b i e c) = (4 + (2 * n + (3 * size_bool i + (2 * size_bool b + 2 * size_expr e)))) + size_block p n c
  size_stmt p n (check b) = 2 + size_bool b
  size_stmt p n (call f xs) = maybe (find_proc p.procs f) 1 λ q. 4 + (2 * n + (size_bool q.pre + (size_bool q.post + 2 * size_expr q.measure)))
  size_stmt p n (havoc x) = 1 + n

  pub size_block : Program → ℕ → Block → ℕ
  size_block p n end = 0
  size_block p n (seq s ss) = size_stmt p n s + size_block p n ss

unfoldable pub size_proc : Program → Proc → ℕ
size_proc p q = size_decls (scope q) + (size_bool q.pre + (size_bool q.post + (size_expr q.measure + size_block p (size_decls (scope q)) q.body)))

unfoldable pub size_procs : Program → List Proc → ℕ
size_procs p [] = 0
size_procs p (q ∷ qs) = size_proc p q + size_procs p qs

unfoldable pub amount : Program → ℕ
amount p = 1 + size_procs p p.procs
