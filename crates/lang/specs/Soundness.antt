-- Which programs are sound: each name is there, of a number or a row, as it is used, and all is within its bounds.
use Rattle.std.specs.Prelude.{ℕ, suc, ◌^◌, Bool, true, false, cond, not, ◌&&◌, List, [], ◌∷◌, ◌++◌, map, length, is_some, Some, None, Option, ◌==◌, nat_eq, nat_le, nat_lt}
use Rattle.lang.specs.Base.{maybe, all_of, Word, same, distinct}
use Rattle.lang.specs.Syntax.{Expr, num, var, old, binary, index, old_index, BoolExpr, truth, compare, conj, disj, implies, negate, for_all, Stmt, assign, store, branch, loop, check, call, havoc, Block, end, seq, Decl, Proc, Program}

unfoldable pub find_decl : List Decl → Word → Option Decl
find_decl [] x = None
find_decl (d ∷ ds) x = cond (same d.name x) (Some d) (find_decl ds x)

unfoldable pub find_proc : List Proc → Word → Option Proc
find_proc [] x = None
find_proc (q ∷ qs) x = cond (same q.name x) (Some q) (find_proc qs x)

abbrev pub is_scalar : List Decl → Word → Bool
is_scalar ds x = maybe (find_decl ds x) false λ d. (d.size == 0)

abbrev pub is_row : List Decl → Word → Bool
is_row ds x = maybe (find_decl ds x) false λ d. not (d.size == 0)

-- ds: the names that there are; os: the names with which the procedure began, for old
unfoldable pub sound_expr : List Decl → List Decl → Expr → Bool
sound_expr ds os (num n) = true
sound_expr ds os (var x) = is_scalar ds x
sound_expr ds os (old x) = is_scalar os x
sound_expr ds os (binary o a b) = sound_expr ds os a && sound_expr ds os b
sound_expr ds os (index x i) = is_row ds x && sound_expr ds os i
sound_expr ds os (old_index x i) = is_row os x && sound_expr ds os i

-- w: the width; n: how many `all` stand around, of which there is one at most. An `all` counts to 16 at most, and to no more than
-- there are numbers, and its name is no other's.
unfoldable pub sound_bool : ℕ → ℕ → List Decl → List Decl → BoolExpr → Bool
sound_bool w n ds os truth = true
sound_bool w n ds os (compare o a b) = sound_expr ds os a && sound_expr ds os b
sound_bool w n ds os (conj a b) = sound_bool w n ds os a && sound_bool w n ds os b
sound_bool w n ds os (disj a b) = sound_bool w n ds os a && sound_bool w n ds os b
sound_bool w n ds os (implies a b) = sound_bool w n ds os a && sound_bool w n ds os b
sound_bool w n ds os (negate a) = sound_bool w n ds os a
sound_bool w n ds os (for_all x k a) = nat_lt n 2 && (nat_le k 16 && (nat_le k (2 ^ w) && (not (is_some (find_decl ds x)) && sound_bool w (suc n) (record { name = x; size = 0 } ∷ ds) os a)))

-- arguments: as many as parameters, of the same sizes
unfoldable pub same_sizes : List Decl → List Decl → List Word → Bool
same_sizes ds [] [] = true
same_sizes ds [] (x ∷ xs) = false
same_sizes ds (p ∷ ps) [] = false
same_sizes ds (p ∷ ps) (x ∷ xs) = maybe (find_decl ds x) false (λ d. nat_eq d.size p.size) && same_sizes ds ps xs

unfoldable mutual
  pub sound_stmt : Program → List Decl → List Decl → Stmt → Bool
  sound_stmt p ds os (assign x e) = is_scalar ds x && sound_expr ds os e
  sound_stmt p ds os (store x i e) = is_row ds x && (sound_expr ds os i && sound_expr ds os e)
  sound_stmt p ds os (branch b c d) = sound_bool p.width 0 ds os b && (sound_block p ds os c && sound_block p ds os d)
  sound_stmt p ds os (loop b i e c) = sound_bool p.width 0 ds os b && (sound_bool p.width 0 ds os i && (sound_expr ds os e && sound_block p ds os c))
  sound_stmt p ds os (check b) = sound_bool p.width 0 ds os b
  sound_stmt p ds os (call f xs) = maybe (find_proc p.procs f) false λ q. distinct xs && same_sizes ds q.params xs
  sound_stmt p ds os (havoc x) = is_some (find_decl ds x)

  pub sound_block : Program → List Decl → List Decl → Block → Bool
  sound_block p ds os end = true
  sound_block p ds os (seq s ss) = sound_stmt p ds os s && sound_block p ds os ss

abbrev pub decl_name : Decl → Word
decl_name d = d.name

abbrev pub proc_name : Proc → Word
proc_name q = q.name

-- parameters, then locals
abbrev pub scope : Proc → List Decl
scope q = q.params ++ q.locals

-- what is asked, promised and measured speaks of parameters only
unfoldable pub sound_proc : Program → Proc → Bool
sound_proc p q = distinct (map decl_name (scope q)) && (all_of (λ d. nat_le d.size 16) (scope q) && (nat_le (length (scope q)) 64 && (sound_bool p.width 0 q.params q.params q.pre && (sound_bool p.width 0 q.params q.params q.post && (sound_expr q.params q.params q.measure && sound_block p (scope q) q.params q.body)))))

unfoldable pub sound : Program → Bool
sound p = nat_le 1 p.width && (nat_le p.width 64 && (distinct (map proc_name p.procs) && all_of (sound_proc p) p.procs))
