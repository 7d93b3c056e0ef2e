-- What a program does: states, evaluation, runs, and how each can fail.
use Rattle.std.specs.Prelude.{ℕ, zero, suc, ◌+◌, ◌-◌, ◌*◌, ◌/◌, ◌%◌, ◌^◌, Bool, true, false, cond, not, List, [], ◌∷◌, ◌++◌, length, drop, replicate, Some, None, Option, ◌==◌, nat_le, nat_lt, slice_set}
use Rattle.std.specs.Option.{unwrap_or}
use Rattle.std.specs.List.{slice_get}
use Rattle.lang.specs.Base.{◌>>=◌, when, maybe, Word, same}
use Rattle.lang.specs.Soundness.{find_proc}
use Rattle.lang.specs.Syntax.{Expr, num, var, old, binary, index, old_index, BoolExpr, truth, compare, conj, disj, implies, negate, for_all, Stmt, assign, store, branch, loop, check, call, havoc, Block, end, seq, Decl, Proc, Program}
use Rattle.lang.specs.declared.syntax.ArithOp.{ArithOp}
use Rattle.lang.specs.declared.syntax.ArithOp.TheVariants.{Add, Sub, Mul, Div, Rem}
use Rattle.lang.specs.declared.syntax.Comparison.{Comparison}
use Rattle.lang.specs.declared.syntax.Comparison.TheVariants.{Equal, Less, AtMost}

-- a name with its numbers: one, or a row
pub record Cell : Type 0 where
  pub name : Word
  pub values : List ℕ

abbrev pub State : Type 0
State = List Cell

unfoldable pub values_of : State → Word → Option (List ℕ)
values_of [] x = None
values_of (c ∷ cs) x = cond (same c.name x) (Some c.values) (values_of cs x)

unfoldable pub write : State → Word → List ℕ → State
write [] x vs = []
write (c ∷ cs) x vs = cond (same c.name x) (record { name = c.name; values = vs } ∷ cs) (c ∷ write cs x vs)

-- Evaluation. None: it fails; a number is too large or below 0, a divisor is 0, a place is outside its row, or there is no such name.
abbrev pub fits : ℕ → ℕ → Option ℕ
fits w n = when (nat_lt n (2 ^ w)) (Some n)

abbrev pub divided : (ℕ → ℕ → ℕ) → ℕ → ℕ → Option ℕ
divided f x y = cond (y == 0) None (Some (f x y))

unfoldable pub compute : ℕ → ArithOp → ℕ → ℕ → Option ℕ
compute w Add x y = fits w (x + y)
compute w Sub x y = cond (nat_lt x y) None (Some (x - y))
compute w Mul x y = fits w (x * y)
compute w Div x y = divided ◌/◌ x y
compute w Rem x y = divided ◌%◌ x y

abbrev pub scalar : State → Word → Option ℕ
scalar s x = values_of s x >>= λ vs. when (length vs == 1) (slice_get vs 0)

abbrev pub element : State → Word → ℕ → Option ℕ
element s x i = values_of s x >>= λ vs. slice_get vs i

-- w: the width; s: the state now; o: the state at the procedure's beginning
unfoldable pub eval : ℕ → State → State → Expr → Option ℕ
eval w s o (num n) = fits w n
eval w s o (var x) = scalar s x
eval w s o (old x) = scalar o x
eval w s o (binary k a b) = eval w s o a >>= λ x. eval w s o b >>= λ y. compute w k x y
eval w s o (index x i) = eval w s o i >>= λ n. element s x n
eval w s o (old_index x i) = eval w s o i >>= λ n. element o x n

unfoldable pub compares : Comparison → ℕ → ℕ → Bool
compares Equal x y = x == y
compares Less x y = nat_lt x y
compares AtMost x y = nat_le x y

-- x stands for n, whatever else has that name
abbrev pub bind : State → Word → ℕ → State
bind s x n = record { name = x; values = n ∷ [] } ∷ s

-- from 0 on, up to the first that is false or fails
unfoldable pub all_below : ℕ → (ℕ → Option Bool) → Option Bool
all_below zero f = Some true
all_below (suc n) f = all_below n f >>= λ b. cond b (f n) (Some false)

-- the right side is looked at only if the left does not decide
unfoldable pub holds : ℕ → State → State → BoolExpr → Option Bool
holds w s o truth = Some true
holds w s o (compare k a b) = eval w s o a >>= λ x. eval w s o b >>= λ y. Some (compares k x y)
holds w s o (conj a b) = holds w s o a >>= λ x. cond x (holds w s o b) (Some false)
holds w s o (disj a b) = holds w s o a >>= λ x. cond x (Some true) (holds w s o b)
holds w s o (implies a b) = holds w s o a >>= λ x. cond x (holds w s o b) (Some true)
holds w s o (negate a) = holds w s o a >>= λ x. Some (not x)
holds w s o (for_all x n a) = all_below n λ i. holds w (bind s x i) o a

-- it is so, and does not fail
abbrev pub true_in : ℕ → State → State → BoolExpr → Bool
true_in w s o b = unwrap_or (holds w s o b) false

-- Runs. `any` takes numbers from a row of choices, 0 where it is used up.
pub record Run : Type 0 where
  pub state : State
  pub choices : List ℕ

pub data Outcome : Type 0 where
  ok : Run → Outcome
  failed : Outcome
  -- the fuel was used up
  late : Outcome

abbrev pub and_then : Outcome → (Run → Outcome) → Outcome
and_then (ok r) f = f r
and_then failed f = failed
and_then late f = late

abbrev pub need : {A : Type 0} → Option A → (A → Outcome) → Outcome
need o f = maybe o failed f

-- how many numbers a name has
abbrev pub count : Decl → ℕ
count d = cond (d.size == 0) 1 d.size

abbrev pub zeros : List Decl → State
zeros [] = []
zeros (d ∷ ds) = record { name = d.name; values = replicate (count d) 0 } ∷ zeros ds

-- the parameters with the numbers of the arguments
unfoldable pub pass : State → List Decl → List Word → Option State
pass s [] [] = Some []
pass s [] (x ∷ xs) = None
pass s (d ∷ ds) [] = None
pass s (d ∷ ds) (x ∷ xs) = values_of s x >>= λ vs. pass s ds xs >>= λ t. Some (record { name = d.name; values = vs } ∷ t)

-- s, with the numbers that the parameters have in t for the arguments
unfoldable pub pass_back : State → State → List Decl → List Word → Option State
pass_back s t [] [] = Some s
pass_back s t [] (x ∷ xs) = None
pass_back s t (d ∷ ds) [] = None
pass_back s t (d ∷ ds) (x ∷ xs) = values_of t d.name >>= λ vs. pass_back (write s x vs) t ds xs

unfoldable pub chosen : ℕ → ℕ → List ℕ → List ℕ
chosen w zero cs = []
chosen w (suc n) [] = 0 ∷ chosen w n []
chosen w (suc n) (c ∷ cs) = c % 2 ^ w ∷ chosen w n cs

-- u: fuel, which bounds how deep calls go; o: the state at the procedure's beginning. Of what is to be shown only `check` is looked at.
unfoldable mutual
  pub exec : ℕ → Program → State → Stmt → Run → Outcome
  exec zero p o s r = late
  exec (suc u) p o (assign x e) r = need (eval p.width r.state o e) λ v. need (scalar r.state x) λ _. ok (record { state = write r.state x (v ∷ []); choices = r.choices })
  exec (suc u) p o (store x i e) r = need (eval p.width r.state o i) λ k. need (eval p.width r.state o e) λ v. need (values_of r.state x) λ vs. need (slice_get vs k) λ _. ok (record { state = write r.state x (slice_set vs k v); choices = r.choices })
  exec (suc u) p o (branch b c d) r = need (holds p.width r.state o b) λ x. exec_block u p o (cond x c d) r
  exec (suc u) p o (loop b i e c) r = need (holds p.width r.state o b) λ x. cond x (and_then (exec_block u p o c r) λ t. exec u p o (loop b i e c) t) (ok r)
  exec (suc u) p o (check b) r = need (holds p.width r.state o b) λ x. cond x (ok r) failed
  exec (suc u) p o (call f xs) r = need (find_proc p.procs f) λ q. need (pass r.state q.params xs) λ s. and_then (run_proc u p q (record { state = s; choices = r.choices })) λ t. need (pass_back r.state t.state q.params xs) λ z. ok (record { state = z; choices = t.choices })
  exec (suc u) p o (havoc x) r = need (values_of r.state x) λ vs. ok (record { state = write r.state x (chosen p.width (length vs) r.choices); choices = drop (length vs) r.choices })

  pub exec_block : ℕ → Program → State → Block → Run → Outcome
  exec_block zero p o ss r = late
  exec_block (suc u) p o end r = ok r
  exec_block (suc u) p o (seq s ss) r = and_then (exec u p o s r) λ t. exec_block u p o ss t

  -- a procedure, from a state of its parameters
  pub run_proc : ℕ → Program → Proc → Run → Outcome
  run_proc zero p q r = late
  run_proc (suc u) p q r = exec_block u p r.state q.body (record { state = r.state ++ zeros q.locals; choices = r.choices })
