-- With enough depth, its amount does not matter: 16 for each token, and a few for the calls that read none.
use Rattle.std.proofs.Common.{◌≡◌, ℕ, zero, suc, ◌+◌, ◌*◌, ◌<◌, ◌≤◌, Bool, true, false, cond, List, [], ◌∷◌, length, Option, refl, ap, ◌∙◌, arith}
use Rattle.lang.specs.Base.{◌>>=◌, when, maybe, Word}
use Rattle.lang.specs.Grammar.{is, starts, onward, sum, sum_rest, product, product_rest, atom, formula, disjunction, disjunction_rest, conjunction, conjunction_rest, unit, names, maybe_names, declarations, parameters, local_variables, condition, measured, named_statement, if_head, while_head, block, statement, procedure, procedures}
use Rattle.lang.specs.Syntax.{Expr, binary, BoolExpr, conj, disj}
use Rattle.lang.specs.Tokens.{Token, fixed, name, number, stray}
use Rattle.lang.specs.declared.token.Fixed.{Fixed}
use Rattle.lang.specs.declared.token.Fixed.TheVariants as the
use Rattle.parse.proofs.Shorter.{Each, none, some, starts_shorter, expect_shorter, a_name_shorter, a_number_shorter, additive_shorter, multiplicative_shorter, comparing_shorter, sum_shorter, product_shorter, atom_shorter, formula_shorter, disjunction_shorter, conjunction_shorter, unit_shorter, declaration_shorter, parameters_shorter, local_variables_shorter, condition_shorter, measured_shorter, if_head_shorter, else_head_shorter, while_head_shorter, block_shorter, statement_shorter, procedure_shorter}

-- the same first step, and then the same for what it can give
pub then_same : {A B : Type 0} {P : A → Type 0} {o : Option A} {f g : A → Option B} → Each P o → ((x : A) → P x → f x ≡ g x) → (o >>= f) ≡ (o >>= g)
then_same none h = refl
then_same (some p) h = h _ p

pub first_same : {A B : Type 0} {o u : Option A} (f : A → Option B) → o ≡ u → (o >>= f) ≡ (u >>= f)
first_same f e = ap (λ v. v >>= f) e

pub both_same : {A B : Type 0} {P : A → Type 0} {o u : Option A} {f g : A → Option B} → o ≡ u → Each P o → ((x : A) → P x → f x ≡ g x) → (o >>= f) ≡ (u >>= g)
both_same {g = g} e s h = then_same s h ∙ first_same g e

pub maybe_same : {A B : Type 0} {P : A → Type 0} {o : Option A} {n n' : B} {f g : A → B} → Each P o → n ≡ n' → ((x : A) → P x → f x ≡ g x) → maybe o n f ≡ maybe o n' g
maybe_same none k h = k
maybe_same (some p) k h = h _ p

pub cond_same : {A : Type 0} (b : Bool) {x x' y y' : A} → (b ≡ true → x ≡ x') → y ≡ y' → cond b x y ≡ cond b x' y'
cond_same true h k = h refl
cond_same false h k = k

pub starts_same : {A : Type 0} (f : Fixed) (ts : List Token) {x x' y y' : A} → (length (onward ts) < length ts → x ≡ x') → y ≡ y' → cond (starts f ts) x y ≡ cond (starts f ts) x' y'
starts_same f ts h k = cond_same (starts f ts) (λ e. h (starts_shorter f ts e)) k

-- Expressions.
mutual
  unfolding sum sum_rest product product_rest atom

  pub sum_stable : (d d' : ℕ) (ts : List Token) → 16 * length ts + 3 ≤ d → 16 * length ts + 3 ≤ d' → sum d ts ≡ sum d' ts
  sum_stable zero d' ts h h' = absurd (omega arith)
  sum_stable (suc d) zero ts h h' = absurd (omega arith)
  sum_stable (suc d) (suc d') ts h h' =
      both_same (product_stable d d' ts (omega arith) (omega arith)) (product_shorter d ts) λ (e, us) l.
      sum_rest_stable d d' e us (omega arith) (omega arith)

  pub sum_rest_stable : (d d' : ℕ) (e : Expr) (ts : List Token) → 16 * length ts + 1 ≤ d → 16 * length ts + 1 ≤ d' → sum_rest d e ts ≡ sum_rest d' e ts
  sum_rest_stable zero d' e ts h h' = absurd (omega arith)
  sum_rest_stable (suc d) zero e ts h h' = absurd (omega arith)
  sum_rest_stable (suc d) (suc d') e ts h h' =
      maybe_same (additive_shorter ts) refl λ o k.
      both_same (product_stable d d' (onward ts) (omega arith) (omega arith)) (product_shorter d (onward ts)) λ (f, us) l.
      sum_rest_stable d d' (binary o e f) us (omega arith) (omega arith)

  pub product_stable : (d d' : ℕ) (ts : List Token) → 16 * length ts + 2 ≤ d → 16 * length ts + 2 ≤ d' → product d ts ≡ product d' ts
  product_stable zero d' ts h h' = absurd (omega arith)
  product_stable (suc d) zero ts h h' = absurd (omega arith)
  product_stable (suc d) (suc d') ts h h' =
      both_same (atom_stable d d' ts (omega arith) (omega arith)) (atom_shorter d ts) λ (e, us) l.
      product_rest_stable d d' e us (omega arith) (omega arith)

  pub product_rest_stable : (d d' : ℕ) (e : Expr) (ts : List Token) → 16 * length ts + 1 ≤ d → 16 * length ts + 1 ≤ d' → product_rest d e ts ≡ product_rest d' e ts
  product_rest_stable zero d' e ts h h' = absurd (omega arith)
  product_rest_stable (suc d) zero e ts h h' = absurd (omega arith)
  product_rest_stable (suc d) (suc d') e ts h h' =
      maybe_same (multiplicative_shorter ts) refl λ o k.
      both_same (atom_stable d d' (onward ts) (omega arith) (omega arith)) (atom_shorter d (onward ts)) λ (f, us) l.
      product_rest_stable d d' (binary o e f) us (omega arith) (omega arith)

  pub atom_stable : (d d' : ℕ) (ts : List Token) → 16 * length ts + 1 ≤ d → 16 * length ts + 1 ≤ d' → atom d ts ≡ atom d' ts
  atom_stable zero d' ts h h' = absurd (omega arith)
  atom_stable (suc d) zero ts h h' = absurd (omega arith)
  atom_stable (suc d) (suc d') [] h h' = refl
  atom_stable (suc d) (suc d') (fixed f ∷ ts) h h' =
      cond_same (is the.LeftParen (fixed f)) (λ _. first_same _ (sum_stable d d' ts (omega arith) (omega arith)))
      (cond_same (is the.Old (fixed f)) (λ _.
      then_same (a_name_shorter ts) λ (x, us) l.
      starts_same the.LeftBracket us (λ s.
      first_same _ (sum_stable d d' (onward us) (omega arith) (omega arith)))
      refl)
      refl)
  atom_stable (suc d) (suc d') (name x ∷ ts) h h' =
      starts_same the.LeftBracket ts (λ s.
      first_same _ (sum_stable d d' (onward ts) (omega arith) (omega arith)))
      refl
  atom_stable (suc d) (suc d') (number n ∷ ts) h h' = refl
  atom_stable (suc d) (suc d') (stray ∷ ts) h h' = refl

-- Boolean expressions.
mutual
  unfolding formula disjunction disjunction_rest conjunction conjunction_rest unit

  pub formula_stable : (d d' : ℕ) (ts : List Token) → 16 * length ts + 7 ≤ d → 16 * length ts + 7 ≤ d' → formula d ts ≡ formula d' ts
  formula_stable zero d' ts h h' = absurd (omega arith)
  formula_stable (suc d) zero ts h h' = absurd (omega arith)
  formula_stable (suc d) (suc d') ts h h' =
      both_same (disjunction_stable d d' ts (omega arith) (omega arith)) (disjunction_shorter d ts) λ (a, us) l.
      starts_same the.Implies us (λ s. first_same _ (formula_stable d d' (onward us) (omega arith) (omega arith))) refl

  pub disjunction_stable : (d d' : ℕ) (ts : List Token) → 16 * length ts + 6 ≤ d → 16 * length ts + 6 ≤ d' → disjunction d ts ≡ disjunction d' ts
  disjunction_stable zero d' ts h h' = absurd (omega arith)
  disjunction_stable (suc d) zero ts h h' = absurd (omega arith)
  disjunction_stable (suc d) (suc d') ts h h' =
      both_same (conjunction_stable d d' ts (omega arith) (omega arith)) (conjunction_shorter d ts) λ (a, us) l.
      disjunction_rest_stable d d' a us (omega arith) (omega arith)

  pub disjunction_rest_stable : (d d' : ℕ) (a : BoolExpr) (ts : List Token) → 16 * length ts + 1 ≤ d → 16 * length ts + 1 ≤ d' → disjunction_rest d a ts ≡ disjunction_rest d' a ts
  disjunction_rest_stable zero d' a ts h h' = absurd (omega arith)
  disjunction_rest_stable (suc d) zero a ts h h' = absurd (omega arith)
  disjunction_rest_stable (suc d) (suc d') a ts h h' =
      starts_same the.Or ts (λ s.
      both_same (conjunction_stable d d' (onward ts) (omega arith) (omega arith)) (conjunction_shorter d (onward ts)) λ (b, us) l.
      disjunction_rest_stable d d' (disj a b) us (omega arith) (omega arith))
      refl

  pub conjunction_stable : (d d' : ℕ) (ts : List Token) → 16 * length ts + 5 ≤ d → 16 * length ts + 5 ≤ d' → conjunction d ts ≡ conjunction d' ts
  conjunction_stable zero d' ts h h' = absurd (omega arith)
  conjunction_stable (suc d) zero ts h h' = absurd (omega arith)
  conjunction_stable (suc d) (suc d') ts h h' =
      both_same (unit_stable d d' ts (omega arith) (omega arith)) (unit_shorter d ts) λ (a, us) l.
      conjunction_rest_stable d d' a us (omega arith) (omega arith)

  pub conjunction_rest_stable : (d d' : ℕ) (a : BoolExpr) (ts : List Token) → 16 * length ts + 1 ≤ d → 16 * length ts + 1 ≤ d' → conjunction_rest d a ts ≡ conjunction_rest d' a ts
  conjunction_rest_stable zero d' a ts h h' = absurd (omega arith)
  conjunction_rest_stable (suc d) zero a ts h h' = absurd (omega arith)
  conjunction_rest_stable (suc d) (suc d') a ts h h' =
      starts_same the.And ts (λ s.
      both_same (unit_stable d d' (onward ts) (omega arith) (omega arith)) (unit_shorter d (onward ts)) λ (b, us) l.
      conjunction_rest_stable d d' (conj a b) us (omega arith) (omega arith))
      refl

  pub unit_stable : (d d' : ℕ) (ts : List Token) → 16 * length ts + 4 ≤ d → 16 * length ts + 4 ≤ d' → unit d ts ≡ unit d' ts
  unit_stable zero d' ts h h' = absurd (omega arith)
  unit_stable (suc d) zero ts h h' = absurd (omega arith)
  unit_stable (suc d) (suc d') ts h h' =
      starts_same the.Not ts (λ s. first_same _ (unit_stable d d' (onward ts) (omega arith) (omega arith)))
      (starts_same the.Yes ts (λ _. refl)
      (starts_same the.LeftBracket ts (λ s. first_same _ (formula_stable d d' (onward ts) (omega arith) (omega arith)))
      (starts_same the.All ts (λ s.
      then_same (a_name_shorter (onward ts)) λ (x, us) l1.
      then_same (expect_shorter the.LessThan us) λ vs l2.
      then_same (a_number_shorter vs) λ (n, ws) l3.
      then_same (expect_shorter the.LeftBrace ws) λ xs l4.
      first_same _ (formula_stable d d' xs (omega arith) (omega arith)))
      (both_same (sum_stable d d' ts (omega arith) (omega arith)) (sum_shorter d ts) λ (e, us) l.
      then_same (comparing_shorter us) λ o k.
      first_same _ (sum_stable d d' (onward us) (omega arith) (omega arith))))))

-- Names and declarations.
pub names_stable : (d d' : ℕ) (ts : List Token) → 16 * length ts + 1 ≤ d → 16 * length ts + 1 ≤ d' → names d ts ≡ names d' ts
unfolding names
names_stable zero d' ts h h' = absurd (omega arith)
names_stable (suc d) zero ts h h' = absurd (omega arith)
names_stable (suc d) (suc d') ts h h' =
    then_same (a_name_shorter ts) λ (x, us) l.
    starts_same the.Comma us (λ s. first_same _ (names_stable d d' (onward us) (omega arith) (omega arith))) refl

pub maybe_names_stable : (d d' : ℕ) (ts : List Token) → 16 * length ts + 1 ≤ d → 16 * length ts + 1 ≤ d' → maybe_names d ts ≡ maybe_names d' ts
maybe_names_stable d d' ts h h' = starts_same the.RightParen ts (λ _. refl) (names_stable d d' ts h h')

pub declarations_stable : (d d' : ℕ) (f : Fixed) (ts : List Token) → 16 * length ts + 1 ≤ d → 16 * length ts + 1 ≤ d' → declarations d f ts ≡ declarations d' f ts
unfolding declarations
declarations_stable zero d' f ts h h' = absurd (omega arith)
declarations_stable (suc d) zero f ts h h' = absurd (omega arith)
declarations_stable (suc d) (suc d') f ts h h' =
    then_same (declaration_shorter ts) λ (x, us) l.
    starts_same the.Comma us (λ s. first_same _ (declarations_stable d d' f (onward us) (omega arith) (omega arith))) refl

pub parameters_stable : (d d' : ℕ) (ts : List Token) → 16 * length ts + 1 ≤ d → 16 * length ts + 1 ≤ d' → parameters d ts ≡ parameters d' ts
parameters_stable d d' ts h h' = starts_same the.RightParen ts (λ _. refl) (declarations_stable d d' the.RightParen ts h h')

pub local_variables_stable : (d d' : ℕ) (ts : List Token) → 16 * length ts ≤ d → 16 * length ts ≤ d' → local_variables d ts ≡ local_variables d' ts
local_variables_stable d d' ts h h' = starts_same the.Var ts (λ s. declarations_stable d d' the.Semicolon (onward ts) (omega arith) (omega arith)) refl

-- Statements.
pub condition_stable : (d d' : ℕ) (f : Fixed) (ts : List Token) → 16 * length ts ≤ d → 16 * length ts ≤ d' → condition d f ts ≡ condition d' f ts
unfolding condition
condition_stable d d' f ts h h' =
    then_same (expect_shorter f ts) λ us l.
    first_same _ (formula_stable d d' us (omega arith) (omega arith))

pub measured_stable : (d d' : ℕ) (ts : List Token) → 16 * length ts ≤ d → 16 * length ts ≤ d' → measured d ts ≡ measured d' ts
unfolding measured
measured_stable d d' ts h h' =
    then_same (expect_shorter the.Measure ts) λ us l.
    first_same _ (sum_stable d d' us (omega arith) (omega arith))

pub named_statement_stable : (d d' : ℕ) (x : Word) (ts : List Token) → 16 * length ts ≤ d → 16 * length ts ≤ d' → named_statement d x ts ≡ named_statement d' x ts
unfolding named_statement
named_statement_stable d d' x ts h h' =
    starts_same the.LeftParen ts (λ s. first_same _ (maybe_names_stable d d' (onward ts) (omega arith) (omega arith)))
    (starts_same the.LeftBracket ts (λ s.
    both_same (sum_stable d d' (onward ts) (omega arith) (omega arith)) (sum_shorter d (onward ts)) λ (i, us) l1.
    then_same (expect_shorter the.RightBracket us) λ vs l2.
    then_same (expect_shorter the.Gets vs) λ ws l3.
    first_same _ (sum_stable d d' ws (omega arith) (omega arith)))
    (then_same (expect_shorter the.Gets ts) λ us l.
    first_same _ (sum_stable d d' us (omega arith) (omega arith))))

pub if_head_stable : (d d' : ℕ) (ts : List Token) → 16 * length ts + 7 ≤ d → 16 * length ts + 7 ≤ d' → if_head d ts ≡ if_head d' ts
unfolding if_head
if_head_stable d d' ts h h' = first_same _ (formula_stable d d' ts h h')

pub while_head_stable : (d d' : ℕ) (ts : List Token) → 16 * length ts + 7 ≤ d → 16 * length ts + 7 ≤ d' → while_head d ts ≡ while_head d' ts
unfolding while_head
while_head_stable d d' ts h h' =
    both_same (formula_stable d d' ts h h') (formula_shorter d ts) λ (b, us) l.
    both_same (condition_stable d d' the.Keep us (omega arith) (omega arith)) (condition_shorter d the.Keep us) λ (i, vs) k.
    first_same _ (measured_stable d d' vs (omega arith) (omega arith))

mutual
  unfolding block statement

  pub block_stable : (d d' : ℕ) (ts : List Token) → 16 * length ts + 2 ≤ d → 16 * length ts + 2 ≤ d' → block d ts ≡ block d' ts
  block_stable zero d' ts h h' = absurd (omega arith)
  block_stable (suc d) zero ts h h' = absurd (omega arith)
  block_stable (suc d) (suc d') ts h h' =
      starts_same the.RightBrace ts (λ _. refl)
      (both_same (statement_stable d d' ts (omega arith) (omega arith)) (statement_shorter d ts) λ (s, us) l.
      first_same _ (block_stable d d' us (omega arith) (omega arith)))

  pub statement_stable : (d d' : ℕ) (ts : List Token) → 16 * length ts + 1 ≤ d → 16 * length ts + 1 ≤ d' → statement d ts ≡ statement d' ts
  statement_stable zero d' ts h h' = absurd (omega arith)
  statement_stable (suc d) zero ts h h' = absurd (omega arith)
  statement_stable (suc d) (suc d') [] h h' = refl
  statement_stable (suc d) (suc d') (fixed f ∷ ts) h h' =
      cond_same (is the.If (fixed f)) (λ _.
      both_same (if_head_stable d d' ts (omega arith) (omega arith)) (if_head_shorter d ts) λ (b, us) l1.
      both_same (block_stable d d' us (omega arith) (omega arith)) (block_shorter d us) λ (c, vs) l2.
      then_same (else_head_shorter vs) λ ws l3.
      first_same _ (block_stable d d' ws (omega arith) (omega arith)))
      (cond_same (is the.While (fixed f)) (λ _.
      both_same (while_head_stable d d' ts (omega arith) (omega arith)) (while_head_shorter d ts) λ (b, us) l.
      first_same _ (block_stable d d' us (omega arith) (omega arith)))
      (cond_same (is the.Check (fixed f)) (λ _. first_same _ (formula_stable d d' ts (omega arith) (omega arith)))
      refl))
  statement_stable (suc d) (suc d') (name x ∷ ts) h h' = named_statement_stable d d' x ts (omega arith) (omega arith)
  statement_stable (suc d) (suc d') (number n ∷ ts) h h' = refl
  statement_stable (suc d) (suc d') (stray ∷ ts) h h' = refl

-- Procedures.
pub procedure_stable : (d d' : ℕ) (ts : List Token) → 16 * length ts ≤ d → 16 * length ts ≤ d' → procedure d ts ≡ procedure d' ts
unfolding procedure
procedure_stable d d' ts h h' =
    then_same (a_name_shorter ts) λ (f, t1) l1.
    then_same (expect_shorter the.LeftParen t1) λ t2 l2.
    both_same (parameters_stable d d' t2 (omega arith) (omega arith)) (parameters_shorter d t2) λ (xs, t3) l3.
    both_same (condition_stable d d' the.Pre t3 (omega arith) (omega arith)) (condition_shorter d the.Pre t3) λ (a, t4) l4.
    both_same (condition_stable d d' the.Post t4 (omega arith) (omega arith)) (condition_shorter d the.Post t4) λ (b, t5) l5.
    both_same (measured_stable d d' t5 (omega arith) (omega arith)) (measured_shorter d t5) λ (e, t6) l6.
    then_same (expect_shorter the.LeftBrace t6) λ t7 l7.
    both_same (local_variables_stable d d' t7 (omega arith) (omega arith)) (local_variables_shorter d t7) λ (ys, t8) l8.
    first_same _ (block_stable d d' t8 (omega arith) (omega arith))

pub procedures_stable : (d d' : ℕ) (ts : List Token) → 16 * length ts ≤ d → 16 * length ts ≤ d' → procedures d ts ≡ procedures d' ts
unfolding procedures
procedures_stable zero zero ts h h' = refl
procedures_stable zero (suc d') [] h h' = refl
procedures_stable (suc d) zero [] h h' = refl
procedures_stable (suc d) (suc d') [] h h' = refl
procedures_stable zero (suc d') (t ∷ ts) h h' = absurd (omega arith)
procedures_stable (suc d) zero (t ∷ ts) h h' = absurd (omega arith)
procedures_stable (suc d) (suc d') (t ∷ ts) h h' =
    ap (when (is the.Proc t)) (
    both_same (procedure_stable d d' ts (omega arith) (omega arith)) (procedure_shorter d ts) λ (q, us) l.
    first_same _ (procedures_stable d d' us (omega arith) (omega arith)))
