-- The conditions of a program, found by going through each procedure once.
use Rattle.std.specs.Prelude.{ℕ, zero, suc, ◌+◌, max, Bool, true, cond, not, ◌&&◌, List, [], ◌∷◌, ◌++◌, reverse, length, drop, replicate, nat_lt}
use Rattle.std.specs.List.{flat_map}
use Rattle.lang.specs.Base.{maybe, Word, same, among}
use Rattle.lang.specs.Meaning.{count}
use Rattle.lang.specs.Soundness.{find_proc}
use Rattle.lang.specs.Syntax.{Expr, BoolExpr, Stmt, assign, store, branch, loop, check, call, havoc, Block, end, seq, Decl, Proc, Program}
use Rattle.lang.specs.declared.syntax.Comparison.{Comparison}
use Rattle.lang.specs.declared.syntax.Comparison.TheVariants.{Less, AtMost}
use Rattle.vc.specs.Terms.{Term, Formula, truth_of, formula_unknowns}
use Rattle.vc.specs.Symbolic.{Setting, reduced, Binding, Store, lookup, update, stored, inside, Evaluated, symbolic_expr, Judged, symbolic_bool, assured}

-- what may be taken for granted, and what is to follow
pub record Condition : Type 0 where
  pub given : List Formula
  pub goal : Formula

unfoldable pub all_true : ℕ → (ℕ → ℕ) → List Formula → Bool
all_true w g [] = true
all_true w g (f ∷ fs) = truth_of w g f && all_true w g fs

-- these numbers make all that is given true, and the goal false
unfoldable pub broken_at : ℕ → (ℕ → ℕ) → Condition → Bool
broken_at w g k = all_true w g k.given && not (truth_of w g k.goal)

unfoldable pub all_unknowns : List Formula → ℕ
all_unknowns [] = 0
all_unknowns (f ∷ fs) = max (formula_unknowns f) (all_unknowns fs)

unfoldable pub condition_unknowns : Condition → ℕ
condition_unknowns k = max (all_unknowns k.given) (formula_unknowns k.goal)

-- Where the walk stands: the names with their terms, now and at the procedure's beginning; what is given up to here; the number of the
-- next unknown; the conditions so far, the last first.
pub record SymState : Type 0 where
  pub current : Store
  pub initial : Store
  pub given : List Formula
  pub next : ℕ
  pub conditions : List Condition

unfoldable pub assume : SymState → Formula → SymState
assume v f = record { current = v.current; initial = v.initial; given = v.given ++ f ∷ []; next = v.next; conditions = v.conditions }

unfoldable pub assert : SymState → Formula → SymState
assert v f = record { current = v.current; initial = v.initial; given = v.given; next = v.next; conditions = record { given = v.given; goal = f } ∷ v.conditions }

-- wanted, and from there on given
abbrev pub require : SymState → Formula → SymState
require v f = assume (assert v f) f

unfoldable pub with_current : SymState → Store → SymState
with_current v s = record { current = s; initial = v.initial; given = v.given; next = v.next; conditions = v.conditions }

-- back to the names and the givens of v, with the unknowns used up and the conditions found in a
unfoldable pub resume : SymState → SymState → SymState
resume v a = record { current = v.current; initial = v.initial; given = v.given; next = a.next; conditions = a.conditions }

-- New unknowns.
unfoldable pub unknowns : ℕ → ℕ → List Term
unknowns zero n = []
unknowns (suc k) n = Term.unknown n ∷ unknowns k (suc n)

-- names with their terms, and the number of the next unknown
pub record Fresh : Type 0 where
  pub store : Store
  pub next : ℕ

abbrev pub and_binding : Binding → Fresh → Fresh
and_binding b r = record { store = b ∷ r.store; next = r.next }

abbrev pub renewed : Binding → ℕ → Binding
renewed b n = record { name = b.name; terms = unknowns (length b.terms) n }

-- new unknowns for each number of the names xs
unfoldable pub renew : List Word → Store → ℕ → Fresh
renew xs [] n = record { store = []; next = n }
renew xs (b ∷ bs) n = cond (among b.name xs) (and_binding (renewed b n) (renew xs bs (n + length b.terms))) (and_binding b (renew xs bs n))

abbrev pub with_fresh : SymState → Fresh → SymState
with_fresh v r = record { current = r.store; initial = v.initial; given = v.given; next = r.next; conditions = v.conditions }

unfoldable pub havoc_names : SymState → List Word → SymState
havoc_names v xs = with_fresh v (renew xs v.current v.next)

-- Two ways come together: each term is the first's if f, else the second's; what was given on a way is given if it was that way.
unfoldable pub join_terms : Formula → List Term → List Term → List Term
join_terms f [] us = []
join_terms f (t ∷ ts) [] = []
join_terms f (t ∷ ts) (u ∷ us) = Term.ite f t u ∷ join_terms f ts us

unfoldable pub join_stores : Formula → Store → Store → Store
join_stores f [] bs = []
join_stores f (a ∷ as') [] = []
join_stores f (a ∷ as') (b ∷ bs) = record { name = a.name; terms = join_terms f a.terms b.terms } ∷ join_stores f as' bs

unfoldable pub guarded : Formula → List Formula → List Formula
guarded f [] = []
guarded f (g ∷ gs) = Formula.disj (Formula.negate f) g ∷ guarded f gs

-- what was given behind v and the test of a branch
abbrev pub added : SymState → SymState → List Formula
added v a = drop (suc (length v.given)) a.given

-- v: before; a, b: behind each way, begun with f and with its opposite given
unfoldable pub join : Formula → SymState → SymState → SymState → SymState
join f v a b =
    record { current = join_stores f a.current b.current; initial = v.initial; given = v.given ++ (guarded f (added v a) ++ guarded (Formula.negate f) (added v b)); next = b.next; conditions = b.conditions }

-- names that statements may change
unfoldable mutual
  pub changed : Stmt → List Word
  changed (assign x e) = x ∷ []
  changed (store x i e) = x ∷ []
  changed (branch b c d) = changed_block c ++ changed_block d
  changed (loop b i e c) = changed_block c
  changed (check b) = []
  changed (call f xs) = xs
  changed (havoc x) = x ∷ []

  pub changed_block : Block → List Word
  changed_block end = []
  changed_block (seq s ss) = changed s ++ changed_block ss

-- proc: the procedure whose body the statements are of
pub record Context : Type 0 where
  pub setting : Setting
  pub procs : List Proc
  pub proc : Proc

abbrev pub evaluated : Context → SymState → Expr → Evaluated
evaluated k v e = symbolic_expr k.setting v.current v.initial e

abbrev pub judged : Context → SymState → BoolExpr → Judged
judged k v b = symbolic_bool k.setting v.current v.initial b

-- x = e
unfoldable pub after_assign : Context → SymState → Word → Expr → SymState
after_assign k v x e = with_current (require v (evaluated k v e).safe) (update v.current x ((evaluated k v e).term ∷ []))

-- x[i] = e
abbrev pub store_safe : Context → SymState → Word → Expr → Expr → Formula
store_safe k v x i e = Formula.conj (Formula.conj (evaluated k v i).safe (evaluated k v e).safe) (inside (lookup v.current x) (evaluated k v i).term)

unfoldable pub after_store : Context → SymState → Word → Expr → Expr → SymState
after_store k v x i e =
    with_current (require v (store_safe k v x i e)) (update v.current x (stored (lookup v.current x) 0 (evaluated k v i).term (evaluated k v e).term))

unfoldable pub after_check : Context → SymState → BoolExpr → SymState
after_check k v b = require v (assured (judged k v b))

-- A branch with test b. Where the test has been made:
unfoldable pub branch_test : Context → SymState → BoolExpr → SymState
branch_test k v b = require v (judged k v b).safe

-- at the beginning of the first way
unfoldable pub branch_then : Context → SymState → BoolExpr → SymState
branch_then k v b = assume (branch_test k v b) (judged k v b).formula

-- at the beginning of the second way, where the first came to a
unfoldable pub branch_else : Context → SymState → BoolExpr → SymState → SymState
branch_else k v b a = assume (resume (branch_test k v b) a) (Formula.negate (judged k v b).formula)

-- behind both ways, which came to a and d
unfoldable pub branch_end : Context → SymState → BoolExpr → SymState → SymState → SymState
branch_end k v b a d = join (judged k v b).formula (branch_test k v b) a d

-- A loop with invariant i, test b and measure e, whose body may change xs. Between two rounds, with any numbers for xs:
unfoldable pub loop_entry : Context → SymState → BoolExpr → List Word → SymState
loop_entry k v i xs = havoc_names (assert v (assured (judged k v i))) xs

-- where the invariant holds
unfoldable pub loop_head : Context → SymState → BoolExpr → SymState
loop_head k u i = assume u (assured (judged k u i))

-- where the test has been made
unfoldable pub loop_test : Context → SymState → BoolExpr → SymState
loop_test k u b = require u (judged k u b).safe

-- all three
unfoldable pub loop_start : Context → SymState → BoolExpr → BoolExpr → List Word → SymState
loop_start k v b i xs = loop_test k (loop_head k (loop_entry k v i xs) i) b

-- at the beginning of a round, u being where the test has been made
unfoldable pub loop_body : Context → SymState → BoolExpr → Expr → SymState
loop_body k u b e = require (assume u (judged k u b).formula) (evaluated k u e).safe

-- a number that has become smaller, and does not fail
abbrev pub decreased : Evaluated → Evaluated → Formula
decreased new old = Formula.conj new.safe (Formula.compare Less new.term old.term)

-- at the end of the round, where the body came to a
unfoldable pub loop_round : Context → SymState → BoolExpr → Expr → SymState → SymState
loop_round k u i e a = assert (assert a (assured (judged k a i))) (decreased (evaluated k a e) (evaluated k u e))

-- behind the loop, a being the end of the round
unfoldable pub loop_end : Context → SymState → BoolExpr → SymState → SymState
loop_end k u b a = assume (resume u a) (Formula.negate (judged k u b).formula)

-- A call of q with the arguments xs. The parameters with the terms of the arguments:
unfoldable pub pass_terms : Store → List Decl → List Word → Store
pass_terms s [] xs = []
pass_terms s (d ∷ ds) [] = []
pass_terms s (d ∷ ds) (x ∷ xs) = record { name = d.name; terms = lookup s x } ∷ pass_terms s ds xs

-- how many procedures stand further up in the text
unfoldable pub rank : List Proc → Word → ℕ
rank [] x = 0
rank (q ∷ qs) x = cond (same q.name x) 0 (suc (rank qs x))

-- a call of a procedure that stands further up may leave the measure as it is
abbrev pub falls_by : Context → Proc → Comparison
falls_by k q = cond (nat_lt (rank k.procs q.name) (rank k.procs k.proc.name)) AtMost Less

abbrev pub measure_falls : Comparison → Evaluated → Evaluated → Formula
measure_falls k new old = Formula.conj (Formula.conj new.safe old.safe) (Formula.compare k new.term old.term)

-- the precondition, of the parameters a
unfoldable pub call_asked : Context → SymState → Proc → Store → SymState
call_asked k v q a = assert v (assured (symbolic_bool k.setting a a q.pre))

-- the callee's measure, and the caller's at its beginning
unfoldable pub call_measured : Context → SymState → Proc → Store → SymState
call_measured k v q a = assert v (measure_falls (falls_by k q) (symbolic_expr k.setting a a q.measure) (symbolic_expr k.setting v.initial v.initial k.proc.measure))

-- the postcondition, the parameters having become z
unfoldable pub call_promised : Context → SymState → Proc → Store → Store → SymState
call_promised k v q a z = assume v (assured (symbolic_bool k.setting z a q.post))

-- with any numbers for the arguments
unfoldable pub call_changed : Context → SymState → Proc → List Word → SymState
call_changed k v q xs =
    let a = pass_terms v.current q.params xs in
    havoc_names (call_measured k (call_asked k v q a) q a) xs

-- behind the call
unfoldable pub after_call : Context → SymState → Proc → List Word → SymState
after_call k v q xs =
    let u = call_changed k v q xs in
    call_promised k u q (pass_terms v.current q.params xs) (pass_terms u.current q.params xs)

-- Going through statements.
unfoldable mutual
  pub walk_stmt : Context → SymState → Stmt → SymState
  walk_stmt k v (assign x e) = after_assign k v x e
  walk_stmt k v (store x i e) = after_store k v x i e
  walk_stmt k v (branch b c d) =
      let a = walk_block k (branch_then k v b) c in
      branch_end k v b a (walk_block k (branch_else k v b a) d)
  walk_stmt k v (loop b i e c) =
      let u = loop_start k v b i (changed_block c) in
      loop_end k u b (loop_round k u i e (walk_block k (loop_body k u b e) c))
  walk_stmt k v (check b) = after_check k v b
  walk_stmt k v (call f xs) = maybe (find_proc k.procs f) v λ q. after_call k v q xs
  walk_stmt k v (havoc x) = havoc_names v (x ∷ [])

  pub walk_block : Context → SymState → Block → SymState
  walk_block k v end = v
  walk_block k v (seq s ss) = walk_block k (walk_stmt k v s) ss

-- A procedure: an unknown for each number of its parameters, its locals 0, and its precondition given; in the end its postcondition.
abbrev pub declared : Decl → ℕ → Binding
declared d n = record { name = d.name; terms = unknowns (count d) n }

unfoldable pub fresh_params : List Decl → ℕ → Fresh
fresh_params [] n = record { store = []; next = n }
fresh_params (d ∷ ds) n = and_binding (declared d n) (fresh_params ds (n + count d))

unfoldable pub zero_terms : List Decl → Store
zero_terms [] = []
zero_terms (d ∷ ds) = record { name = d.name; terms = replicate (count d) (Term.num 0) } ∷ zero_terms ds

unfoldable pub proc_start : Context → Fresh → SymState
proc_start k r =
    assume (record { current = r.store ++ zero_terms k.proc.locals; initial = r.store; given = []; next = r.next; conditions = [] }) (assured (symbolic_bool k.setting r.store r.store k.proc.pre))

unfoldable pub proc_end : Context → SymState → SymState
proc_end k v = assert v (assured (judged k v k.proc.post))

abbrev pub context : Setting → Program → Proc → Context
context c p q = record { setting = c; procs = p.procs; proc = q }

unfoldable pub walk_proc : Context → SymState
walk_proc k = proc_end k (walk_block k (proc_start k (fresh_params k.proc.params 0)) k.proc.body)

unfoldable pub proc_conditions : Setting → Program → Proc → List Condition
proc_conditions c p q = reverse (walk_proc (context c p q)).conditions

unfoldable pub conditions_under : Setting → Program → List Condition
conditions_under c p = flat_map (proc_conditions c p) p.procs

-- the conditions of a program, in the order of its text
abbrev pub conditions : Program → List Condition
conditions p = conditions_under (reduced p.width) p
