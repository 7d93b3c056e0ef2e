-- Symbolic evaluation: the term of an expression, the formula of a boolean, and when they do not fail.
use Rattle.std.specs.Prelude.{ℕ, zero, suc, ◌%◌, ◌^◌, cond, List, [], ◌∷◌, length, nat_lt}
use Rattle.lang.specs.Base.{Word, same}
use Rattle.lang.specs.Syntax.{Expr, BoolExpr}
use Rattle.lang.specs.declared.syntax.ArithOp.{ArithOp}
use Rattle.lang.specs.declared.syntax.ArithOp.TheVariants.{Add, Sub, Mul, Div, Rem}
use Rattle.lang.specs.declared.syntax.Comparison.{Comparison}
use Rattle.lang.specs.declared.syntax.Comparison.TheVariants.{Equal, Less, AtMost}
use Rattle.vc.specs.Terms.{Term, Formula}

-- numbers have `width` bits; how a written number stands in a term, also where it fails since it is too large
pub record Setting : Type 0 where
  pub width : ℕ
  pub literal : ℕ → ℕ

-- so that the term has no more than w bits
abbrev pub reduced : ℕ → Setting
reduced w = record { width = w; literal = λ n. n % 2 ^ w }

abbrev pub as_written : ℕ → Setting
as_written w = record { width = w; literal = λ n. n }

-- a name with its terms: one, or a row
pub record Binding : Type 0 where
  pub name : Word
  pub terms : List Term

abbrev pub Store : Type 0
Store = List Binding

unfoldable pub lookup : Store → Word → List Term
lookup [] x = []
lookup (b ∷ bs) x = cond (same b.name x) b.terms (lookup bs x)

unfoldable pub update : Store → Word → List Term → Store
update [] x ts = []
update (b ∷ bs) x ts = cond (same b.name x) (record { name = b.name; terms = ts } ∷ bs) (b ∷ update bs x ts)

-- the term of a name of a number
unfoldable pub single : List Term → Term
single [] = Term.num 0
single (t ∷ ts) = t

-- the term at place i of a row whose first place is n; the last where i is none
unfoldable pub select : List Term → ℕ → Term → Term
select [] n i = Term.num 0
select (t ∷ []) n i = t
select (t ∷ u ∷ ts) n i = Term.ite (Formula.compare Equal i (Term.num n)) t (select (u ∷ ts) (suc n) i)

-- the row with v at place i
unfoldable pub stored : List Term → ℕ → Term → Term → List Term
stored [] n i v = []
stored (t ∷ ts) n i v = Term.ite (Formula.compare Equal i (Term.num n)) v t ∷ stored ts (suc n) i v

abbrev pub inside : List Term → Term → Formula
inside ts i = Formula.compare Less i (Term.num (length ts))

-- an expression's term; safe: it does not fail
pub record Evaluated : Type 0 where
  pub term : Term
  pub safe : Formula

unfoldable pub computes : ArithOp → Term → Term → Formula
computes Add a b = Formula.sum_fits a b
computes Sub a b = Formula.compare AtMost b a
computes Mul a b = Formula.product_fits a b
computes Div a b = Formula.negate (Formula.compare Equal b (Term.num 0))
computes Rem a b = Formula.negate (Formula.compare Equal b (Term.num 0))

abbrev pub literal_term : Setting → ℕ → Evaluated
literal_term c n = record { term = Term.num (c.literal n); safe = cond (nat_lt n (2 ^ c.width)) Formula.truth Formula.falsity }

abbrev pub scalar_term : List Term → Evaluated
scalar_term ts = record { term = single ts; safe = Formula.truth }

abbrev pub binary_term : ArithOp → Evaluated → Evaluated → Evaluated
binary_term k x y = record { term = Term.binary k x.term y.term; safe = Formula.conj (Formula.conj x.safe y.safe) (computes k x.term y.term) }

abbrev pub element_term : List Term → Evaluated → Evaluated
element_term ts i = record { term = select ts 0 i.term; safe = Formula.conj i.safe (inside ts i.term) }

-- s: the names now; o: at the procedure's beginning
unfoldable pub symbolic_expr : Setting → Store → Store → Expr → Evaluated
symbolic_expr c s o (Expr.num n) = literal_term c n
symbolic_expr c s o (Expr.var x) = scalar_term (lookup s x)
symbolic_expr c s o (Expr.old x) = scalar_term (lookup o x)
symbolic_expr c s o (Expr.binary k a b) = binary_term k (symbolic_expr c s o a) (symbolic_expr c s o b)
symbolic_expr c s o (Expr.index x i) = element_term (lookup s x) (symbolic_expr c s o i)
symbolic_expr c s o (Expr.old_index x i) = element_term (lookup o x) (symbolic_expr c s o i)

-- a boolean's formula; safe: it does not fail
pub record Judged : Type 0 where
  pub formula : Formula
  pub safe : Formula

abbrev pub certain : Judged
certain = record { formula = Formula.truth; safe = Formula.truth }

abbrev pub compared : Comparison → Evaluated → Evaluated → Judged
compared k x y = record { formula = Formula.compare k x.term y.term; safe = Formula.conj x.safe y.safe }

-- the right side counts only where the left does not decide
abbrev pub both : Judged → Judged → Judged
both x y = record { formula = Formula.conj x.formula y.formula; safe = Formula.conj x.safe (Formula.disj (Formula.negate x.formula) y.safe) }

abbrev pub either : Judged → Judged → Judged
either x y = record { formula = Formula.disj x.formula y.formula; safe = Formula.conj x.safe (Formula.disj x.formula y.safe) }

abbrev pub implied : Judged → Judged → Judged
implied x y = record { formula = Formula.disj (Formula.negate x.formula) y.formula; safe = Formula.conj x.safe (Formula.disj (Formula.negate x.formula) y.safe) }

abbrev pub opposite : Judged → Judged
opposite x = record { formula = Formula.negate x.formula; safe = x.safe }

-- each below n, from 0 on
unfoldable pub every : ℕ → (ℕ → Judged) → Judged
every zero f = certain
every (suc n) f = both (every n f) (f n)

abbrev pub bind_term : Store → Word → ℕ → Store
bind_term s x i = record { name = x; terms = Term.num i ∷ [] } ∷ s

unfoldable pub symbolic_bool : Setting → Store → Store → BoolExpr → Judged
symbolic_bool c s o BoolExpr.truth = certain
symbolic_bool c s o (BoolExpr.compare k a b) = compared k (symbolic_expr c s o a) (symbolic_expr c s o b)
symbolic_bool c s o (BoolExpr.conj a b) = both (symbolic_bool c s o a) (symbolic_bool c s o b)
symbolic_bool c s o (BoolExpr.disj a b) = either (symbolic_bool c s o a) (symbolic_bool c s o b)
symbolic_bool c s o (BoolExpr.implies a b) = implied (symbolic_bool c s o a) (symbolic_bool c s o b)
symbolic_bool c s o (BoolExpr.negate a) = opposite (symbolic_bool c s o a)
symbolic_bool c s o (BoolExpr.for_all x n a) = every n λ i. symbolic_bool c (bind_term s x i) o a

-- it is so, and does not fail
abbrev pub assured : Judged → Formula
assured x = Formula.conj x.safe x.formula
