-- Gone through as code, a piece of a program meets what is asked of it exactly if it is sound.
use Rattle.std.proofs.Common.{◌≡◌, suc, ◌^◌, Bool, true, false, not, ◌&&◌, ltb, leb, List, [], ◌∷◌, is_some, is_ok, is_err, Ok, Err, Result, sym, refl, ap, ◌∙◌}
use Rattle.std.proofs.Math.Bool.{and_assoc}
use Rattle.lang.specs.Base.{Word}
use Rattle.sound.specs.Checking.{Env, inside, behind, meets, meets_all}
use Rattle.lang.specs.Code.{code_expr, code_bool, code_args, code_stmt, code_block}
use Rattle.lang.specs.Instr as instr
use Rattle.lang.specs.Instr.{Instr}
use Rattle.walk.specs.Roles.{role, ends}
use Rattle.lang.specs.Soundness.{find_decl, is_row, sound_expr, sound_bool, sound_stmt, sound_block}
use Rattle.lang.specs.Syntax.{Expr, num, var, old, binary, index, old_index, BoolExpr, truth, compare, conj, disj, implies, negate, for_all, Stmt, assign, store, branch, loop, check, call, havoc, Block, end, seq, Decl, Program}
use Rattle.walk.specs.Walking.{first, passed}

-- the same tests in another order
and_swap : (a b c : Bool) → (a && (b && c)) ≡ ((b && a) && c)
and_swap true true c = refl
and_swap true false c = refl
and_swap false true c = refl
and_swap false false c = refl

regroup : (a b c d s k : Bool) → ((a && d) && ((b && c) && (s && k))) ≡ ((a && (b && (c && (d && s)))) && k)
regroup true true true true s k = refl
regroup true true true false s k = refl
regroup true true false true s k = refl
regroup true true false false s k = refl
regroup true false c true s k = refl
regroup true false c false s k = refl
regroup false b c d s k = refl

-- what `?` hands on is no answer
pub handed_on : {A E : Type 0} (r : Result A E) → is_err r ≡ true → is_ok r ≡ false
handed_on (Ok x) e = sym e
handed_on (Err y) e = refl

passed_args : (xs : List Word) (k : List Instr) → passed (code_args xs (instr.end_call ∷ k)) ≡ xs
unfolding passed
passed_args [] k = refl
passed_args (x ∷ xs) k = ap (λ ys. x ∷ ys) (passed_args xs k)

module _ (p : Program) (e : Env) where
  pub met_at_end : (k : List Instr) → ends (role (first k)) ≡ true → true ≡ meets_all p e k
  unfolding meets_all
  met_at_end [] t = refl
  met_at_end (i ∷ k) t = rw t

  module _ {j k : List Instr} {i : Instr} (here : j ≡ i ∷ k) (on : ends (role i) ≡ false) where
    pub not_met : false ≡ meets p e (role i) k → false ≡ meets_all p e j
    unfolding meets_all
    not_met t = rw (here, on, ← t)

    pub met_so_far : {f : Env} → true ≡ meets p e (role i) k → f ≡ behind e (role i) → meets_all p f k ≡ meets_all p e j
    unfolding meets_all
    met_so_far t same = rw (here, on, ← t, same)

module _ (p : Program) where
  pub expr_meets : (e : Env) (x : Expr) (k : List Instr) → meets_all p e (code_expr x k) ≡ (sound_expr e.names e.olds x && meets_all p e k)
  unfolding code_expr sound_expr meets_all
  expr_meets e (num n) k = refl
  expr_meets e (var x) k = refl
  expr_meets e (old x) k = refl
  expr_meets e (binary o a b) k = rw (expr_meets e a (code_expr b (instr.binary o ∷ k)), expr_meets e b (instr.binary o ∷ k), and_assoc)
  expr_meets e (index x i) k = rw (expr_meets e i (instr.index x ∷ k), and_swap)
  expr_meets e (old_index x i) k = rw (expr_meets e i (instr.old_index x ∷ k), and_swap)

  pub bool_meets : (e : Env) (b : BoolExpr) (k : List Instr) → meets_all p e (code_bool b k) ≡ (sound_bool p.width e.depth e.names e.olds b && meets_all p e k)
  unfolding code_bool sound_bool meets_all
  bool_meets e truth k = refl
  bool_meets e (compare o a b) k = rw (expr_meets e a (code_expr b (instr.compare o ∷ k)), expr_meets e b (instr.compare o ∷ k), and_assoc)
  bool_meets e (conj a b) k = rw (bool_meets e a (code_bool b (instr.conj ∷ k)), bool_meets e b (instr.conj ∷ k), and_assoc)
  bool_meets e (disj a b) k = rw (bool_meets e a (code_bool b (instr.disj ∷ k)), bool_meets e b (instr.disj ∷ k), and_assoc)
  bool_meets e (implies a b) k = rw (bool_meets e a (code_bool b (instr.implies ∷ k)), bool_meets e b (instr.implies ∷ k), and_assoc)
  bool_meets e (negate a) k = bool_meets e a (instr.negate ∷ k)
  bool_meets e (for_all x n a) k = rw (bool_meets (inside e x) a (instr.end_all ∷ k)) (regroup (ltb e.depth 2) (leb n 16) (leb n (2 ^ p.width)) (not (is_some (find_decl e.names x))) (sound_bool p.width (suc e.depth) (inside e x).names e.olds a) (meets_all p e k))

  args_meet : (e : Env) (xs : List Word) (k : List Instr) → meets_all p e (code_args xs k) ≡ meets_all p e k
  unfolding meets_all
  args_meet e [] k = refl
  args_meet e (x ∷ xs) k = args_meet e xs k

  -- statements stand in no `all`
  module _ (ds os : List Decl) where
    abbrev e : Env
    e = record { depth = 0; names = ds; olds = os }

    mutual
      unfolding code_stmt sound_stmt meets_all

      pub stmt_meets : (s : Stmt) (k : List Instr) → meets_all p e (code_stmt s k) ≡ (sound_stmt p ds os s && meets_all p e k)
      stmt_meets (assign x a) k = rw (expr_meets e a (instr.assign x ∷ k), and_swap)
      stmt_meets (store x i a) k = rw (expr_meets e i (code_expr a (instr.store x ∷ k)), expr_meets e a (instr.store x ∷ k)) (sym (and_assoc (sound_expr ds os i) (sound_expr ds os a) (is_row ds x && meets_all p e k)) ∙ and_swap (sound_expr ds os i && sound_expr ds os a) (is_row ds x) (meets_all p e k))
      stmt_meets (branch b c d) k = rw (bool_meets e b _, block_meets c _, block_meets d _) (simp and_assoc)
      stmt_meets (loop b i a c) k = rw (bool_meets e b _, bool_meets e i _, expr_meets e a _, block_meets c _) (simp and_assoc)
      stmt_meets (check b) k = rw (bool_meets e b (instr.check ∷ k))
      stmt_meets (call f xs) k = rw (args_meet e xs (instr.end_call ∷ k), passed_args xs k)
      stmt_meets (havoc x) k = refl

      pub block_meets : (ss : Block) (k : List Instr) → meets_all p e (code_block ss k) ≡ (sound_block p ds os ss && meets_all p e k)
      block_meets end k = refl
      block_meets (seq s ss) k = rw (stmt_meets s (code_block ss k), block_meets ss k, and_assoc)
