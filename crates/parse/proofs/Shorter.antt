-- What is read leaves fewer tokens.
use Rattle.std.proofs.Common.{◌≡◌, ℕ, zero, suc, ◌<◌, ◌≤◌, Bool, true, false, cond, eqb, List, [], ◌∷◌, length, Some, None, Option, refl, subst, arith}
use Rattle.std.proofs.lemmas.Bool.{false≢true}
use Rattle.lang.specs.Base.{◌>>=◌, when, maybe, Word}
use Rattle.lang.specs.Grammar.{Parsed, is, starts, onward, expect, a_name, a_number, additive, multiplicative, comparing, sum, sum_rest, product, product_rest, atom, formula, disjunction, disjunction_rest, conjunction, conjunction_rest, unit, names, maybe_names, declaration, declarations, parameters, local_variables, condition, measured, ended, named_statement, if_head, else_head, while_head, block, statement, procedure}
use Rattle.lang.specs.Syntax.{Expr, binary, BoolExpr, conj, disj, assign, store, check, call, havoc}
use Rattle.lang.specs.Tokens.{Token, fixed, name, number, stray}
use Rattle.lang.specs.declared.token.Fixed.{Fixed}
use Rattle.lang.specs.declared.token.Fixed.TheVariants as the

-- what holds of the value, if there is one
pub data Each {A : Type 0} (P : A → Type 0) : Option A → Type 0 where
  none : Each P None
  some : {x : A} → P x → Each P (Some x)

pub each_map : {A : Type 0} {P Q : A → Type 0} {o : Option A} → ((x : A) → P x → Q x) → Each P o → Each Q o
each_map h none = none
each_map h (some p) = some (h _ p)

pub each_any : {A : Type 0} (o : Option A) → Each (λ _. Unit {0}) o
each_any None = none
each_any (Some x) = some tt

pub each_at : {A : Type 0} {P : A → Type 0} {o : Option A} {x : A} → Each P o → o ≡ Some x → P x
each_at none e = let z : ◌≡◌ {A = ℕ} 0 1 = cc in absurd (omega arith)
each_at {P} {x} (some {x = y} p) e = let same : y ≡ x = cc in subst P same p

pub each_bind : {A B : Type 0} {P : A → Type 0} {Q : B → Type 0} {o : Option A} {f : A → Option B} → Each P o → ((x : A) → P x → Each Q (f x)) → Each Q (o >>= f)
each_bind none h = none
each_bind (some p) h = h _ p

pub each_maybe : {A B : Type 0} {P : A → Type 0} {Q : B → Type 0} {o : Option A} {n : Option B} {f : A → Option B} → Each P o → Each Q n → ((x : A) → P x → Each Q (f x)) → Each Q (maybe o n f)
each_maybe none k h = k
each_maybe (some p) k h = h _ p

pub each_cond : {A : Type 0} {P : A → Type 0} (b : Bool) {x y : Option A} → (b ≡ true → Each P x) → Each P y → Each P (cond b x y)
each_cond true h k = h refl
each_cond false h k = k

-- fewer than n tokens are left
abbrev pub Shorter : {A : Type 0} → ℕ → Parsed A → Type 0
Shorter n o = Each (λ p. length p.1 < n) o

pub within : {A : Type 0} {m n : ℕ} {o : Parsed A} → m ≤ n → Shorter m o → Shorter n o
within h s = each_map (λ p l. omega arith) s

-- One token.
pub starts_shorter : (f : Fixed) (ts : List Token) → starts f ts ≡ true → length (onward ts) < length ts
starts_shorter f [] e = absurd (false≢true e)
starts_shorter f (t ∷ ts) e = omega arith

pub each_starts : {A : Type 0} {P : A → Type 0} (f : Fixed) (ts : List Token) {x y : Option A} → (length (onward ts) < length ts → Each P x) → Each P y → Each P (cond (starts f ts) x y)
each_starts f ts h k = each_cond (starts f ts) (λ e. h (starts_shorter f ts e)) k

pub expect_shorter : (f : Fixed) (ts : List Token) → Each (λ us. length us < length ts) (expect f ts)
expect_shorter f ts = go (starts f ts) refl
  where
    go : (b : Bool) → starts f ts ≡ b → Each (λ us. length us < length ts) (when b (Some (onward ts)))
    go true e = some (starts_shorter f ts e)
    go false e = none

pub a_name_shorter : (ts : List Token) → Shorter (length ts) (a_name ts)
a_name_shorter [] = none
a_name_shorter (fixed f ∷ ts) = none
a_name_shorter (name x ∷ ts) = some (omega arith)
a_name_shorter (number n ∷ ts) = none
a_name_shorter (stray ∷ ts) = none

pub a_number_shorter : (ts : List Token) → Shorter (length ts) (a_number ts)
a_number_shorter [] = none
a_number_shorter (fixed f ∷ ts) = none
a_number_shorter (name x ∷ ts) = none
a_number_shorter (number n ∷ ts) = some (omega arith)
a_number_shorter (stray ∷ ts) = none

-- where an operator stands, there is a token
pub additive_shorter : (ts : List Token) → Each (λ o. length (onward ts) < length ts) (additive ts)
additive_shorter ts =
    each_starts the.Plus ts some
    (each_starts the.Minus ts some none)

pub multiplicative_shorter : (ts : List Token) → Each (λ o. length (onward ts) < length ts) (multiplicative ts)
multiplicative_shorter ts =
    each_starts the.Times ts some
    (each_starts the.Over ts some
    (each_starts the.Percent ts some none))

pub comparing_shorter : (ts : List Token) → Each (λ o. length (onward ts) < length ts) (comparing ts)
comparing_shorter ts =
    each_starts the.Equals ts some
    (each_starts the.LessThan ts some
    (each_starts the.AtMost ts some none))

-- Expressions.
mutual
  unfolding sum sum_rest product product_rest atom

  pub sum_shorter : (d : ℕ) (ts : List Token) → Shorter (length ts) (sum d ts)
  sum_shorter zero ts = none
  sum_shorter (suc d) ts =
      each_bind (product_shorter d ts) λ (e, us) l.
      within (omega arith) (sum_rest_shorter d e us)

  pub sum_rest_shorter : (d : ℕ) (e : Expr) (ts : List Token) → Shorter (suc (length ts)) (sum_rest d e ts)
  sum_rest_shorter zero e ts = none
  sum_rest_shorter (suc d) e ts =
      each_maybe (additive_shorter ts) (some (omega arith)) λ o k.
      each_bind (product_shorter d (onward ts)) λ (f, us) l.
      within (omega arith) (sum_rest_shorter d (binary o e f) us)

  pub product_shorter : (d : ℕ) (ts : List Token) → Shorter (length ts) (product d ts)
  product_shorter zero ts = none
  product_shorter (suc d) ts =
      each_bind (atom_shorter d ts) λ (e, us) l.
      within (omega arith) (product_rest_shorter d e us)

  pub product_rest_shorter : (d : ℕ) (e : Expr) (ts : List Token) → Shorter (suc (length ts)) (product_rest d e ts)
  product_rest_shorter zero e ts = none
  product_rest_shorter (suc d) e ts =
      each_maybe (multiplicative_shorter ts) (some (omega arith)) λ o k.
      each_bind (atom_shorter d (onward ts)) λ (f, us) l.
      within (omega arith) (product_rest_shorter d (binary o e f) us)

  pub atom_shorter : (d : ℕ) (ts : List Token) → Shorter (length ts) (atom d ts)
  atom_shorter zero ts = none
  atom_shorter (suc d) [] = none
  atom_shorter (suc d) (fixed f ∷ ts) =
      each_cond (is the.LeftParen (fixed f)) (λ _.
      each_bind (sum_shorter d ts) λ (e, us) l.
      each_bind (expect_shorter the.RightParen us) λ vs k.
      some (omega arith))
      (each_cond (is the.Old (fixed f)) (λ _.
      each_bind (a_name_shorter ts) λ (x, us) l.
      each_starts the.LeftBracket us (λ s.
      each_bind (sum_shorter d (onward us)) λ (i, vs) k.
      each_bind (expect_shorter the.RightBracket vs) λ ws m.
      some (omega arith))
      (some (omega arith)))
      none)
  atom_shorter (suc d) (name x ∷ ts) =
      each_starts the.LeftBracket ts (λ s.
      each_bind (sum_shorter d (onward ts)) λ (i, us) l.
      each_bind (expect_shorter the.RightBracket us) λ vs k.
      some (omega arith))
      (some (omega arith))
  atom_shorter (suc d) (number n ∷ ts) = some (omega arith)
  atom_shorter (suc d) (stray ∷ ts) = none

-- Boolean expressions.
mutual
  unfolding formula disjunction disjunction_rest conjunction conjunction_rest unit

  pub formula_shorter : (d : ℕ) (ts : List Token) → Shorter (length ts) (formula d ts)
  formula_shorter zero ts = none
  formula_shorter (suc d) ts =
      each_bind (disjunction_shorter d ts) λ (a, us) l.
      each_starts the.Implies us (λ s.
      each_bind (formula_shorter d (onward us)) λ (b, vs) k.
      some (omega arith))
      (some (omega arith))

  pub disjunction_shorter : (d : ℕ) (ts : List Token) → Shorter (length ts) (disjunction d ts)
  disjunction_shorter zero ts = none
  disjunction_shorter (suc d) ts =
      each_bind (conjunction_shorter d ts) λ (a, us) l.
      within (omega arith) (disjunction_rest_shorter d a us)

  pub disjunction_rest_shorter : (d : ℕ) (a : BoolExpr) (ts : List Token) → Shorter (suc (length ts)) (disjunction_rest d a ts)
  disjunction_rest_shorter zero a ts = none
  disjunction_rest_shorter (suc d) a ts =
      each_starts the.Or ts (λ s.
      each_bind (conjunction_shorter d (onward ts)) λ (b, us) l.
      within (omega arith) (disjunction_rest_shorter d (disj a b) us))
      (some (omega arith))

  pub conjunction_shorter : (d : ℕ) (ts : List Token) → Shorter (length ts) (conjunction d ts)
  conjunction_shorter zero ts = none
  conjunction_shorter (suc d) ts =
      each_bind (unit_shorter d ts) λ (a, us) l.
      within (omega arith) (conjunction_rest_shorter d a us)

  pub conjunction_rest_shorter : (d : ℕ) (a : BoolExpr) (ts : List Token) → Shorter (suc (length ts)) (conjunction_rest d a ts)
  conjunction_rest_shorter zero a ts = none
  conjunction_rest_shorter (suc d) a ts =
      each_starts the.And ts (λ s.
      each_bind (unit_shorter d (onward ts)) λ (b, us) l.
      within (omega arith) (conjunction_rest_shorter d (conj a b) us))
      (some (omega arith))

  pub unit_shorter : (d : ℕ) (ts : List Token) → Shorter (length ts) (unit d ts)
  unit_shorter zero ts = none
  unit_shorter (suc d) ts =
      each_starts the.Not ts (λ s.
      each_bind (unit_shorter d (onward ts)) λ (a, us) l.
      some (omega arith))
      (each_starts the.Yes ts some
      (each_starts the.LeftBracket ts (λ s.
      each_bind (formula_shorter d (onward ts)) λ (a, us) l.
      each_bind (expect_shorter the.RightBracket us) λ vs k.
      some (omega arith))
      (each_starts the.All ts (λ s.
      each_bind (a_name_shorter (onward ts)) λ (x, us) l1.
      each_bind (expect_shorter the.LessThan us) λ vs l2.
      each_bind (a_number_shorter vs) λ (n, ws) l3.
      each_bind (expect_shorter the.LeftBrace ws) λ xs l4.
      each_bind (formula_shorter d xs) λ (a, ys) l5.
      each_bind (expect_shorter the.RightBrace ys) λ zs l6.
      some (omega arith))
      (each_bind (sum_shorter d ts) λ (e, us) l.
      each_bind (comparing_shorter us) λ o k.
      each_bind (sum_shorter d (onward us)) λ (f, vs) m.
      some (omega arith)))))

-- Names and declarations.
pub names_shorter : (d : ℕ) (ts : List Token) → Shorter (length ts) (names d ts)
unfolding names
names_shorter zero ts = none
names_shorter (suc d) ts =
    each_bind (a_name_shorter ts) λ (x, us) l.
    each_starts the.Comma us (λ s.
    each_bind (names_shorter d (onward us)) λ (xs, vs) k.
    some (omega arith))
    (each_bind (expect_shorter the.RightParen us) λ vs k.
    some (omega arith))

pub maybe_names_shorter : (d : ℕ) (ts : List Token) → Shorter (length ts) (maybe_names d ts)
maybe_names_shorter d ts = each_starts the.RightParen ts some (names_shorter d ts)

pub declaration_shorter : (ts : List Token) → Shorter (length ts) (declaration ts)
unfolding declaration
declaration_shorter ts =
    each_bind (a_name_shorter ts) λ (x, us) l.
    each_starts the.LeftBracket us (λ s.
    each_bind (a_number_shorter (onward us)) λ (n, vs) k.
    each_bind (expect_shorter the.RightBracket vs) λ ws m.
    each_cond (eqb n 0) (λ _. none) (some (omega arith)))
    (some (omega arith))

pub declarations_shorter : (d : ℕ) (f : Fixed) (ts : List Token) → Shorter (length ts) (declarations d f ts)
unfolding declarations
declarations_shorter zero f ts = none
declarations_shorter (suc d) f ts =
    each_bind (declaration_shorter ts) λ (x, us) l.
    each_starts the.Comma us (λ s.
    each_bind (declarations_shorter d f (onward us)) λ (xs, vs) k.
    some (omega arith))
    (each_bind (expect_shorter f us) λ vs k.
    some (omega arith))

pub parameters_shorter : (d : ℕ) (ts : List Token) → Shorter (length ts) (parameters d ts)
parameters_shorter d ts = each_starts the.RightParen ts some (declarations_shorter d the.RightParen ts)

-- there may be none
pub local_variables_shorter : (d : ℕ) (ts : List Token) → Shorter (suc (length ts)) (local_variables d ts)
local_variables_shorter d ts =
    each_starts the.Var ts (λ s. within (omega arith) (declarations_shorter d the.Semicolon (onward ts)))
    (some (omega arith))

-- Statements.
pub condition_shorter : (d : ℕ) (f : Fixed) (ts : List Token) → Shorter (length ts) (condition d f ts)
unfolding condition
condition_shorter d f ts =
    each_bind (expect_shorter f ts) λ us l.
    each_bind (formula_shorter d us) λ (a, vs) k.
    each_bind (expect_shorter the.Semicolon vs) λ ws m.
    some (omega arith)

pub measured_shorter : (d : ℕ) (ts : List Token) → Shorter (length ts) (measured d ts)
unfolding measured
measured_shorter d ts =
    each_bind (expect_shorter the.Measure ts) λ us l.
    each_bind (sum_shorter d us) λ (e, vs) k.
    each_bind (expect_shorter the.Semicolon vs) λ ws m.
    some (omega arith)

pub ended_shorter : {A : Type 0} (x : A) (ts : List Token) → Shorter (length ts) (ended x ts)
ended_shorter x ts = each_bind (expect_shorter the.Semicolon ts) λ us l. some l

pub named_statement_shorter : (d : ℕ) (x : Word) (ts : List Token) → Shorter (length ts) (named_statement d x ts)
unfolding named_statement
named_statement_shorter d x ts =
    each_starts the.LeftParen ts (λ s.
    each_bind (maybe_names_shorter d (onward ts)) λ (xs, us) l.
    within (omega arith) (ended_shorter (call x xs) us))
    (each_starts the.LeftBracket ts (λ s.
    each_bind (sum_shorter d (onward ts)) λ (i, us) l1.
    each_bind (expect_shorter the.RightBracket us) λ vs l2.
    each_bind (expect_shorter the.Gets vs) λ ws l3.
    each_bind (sum_shorter d ws) λ (e, xs) l4.
    within (omega arith) (ended_shorter (store x i e) xs))
    (each_bind (expect_shorter the.Gets ts) λ us l.
    each_bind (sum_shorter d us) λ (e, vs) k.
    within (omega arith) (ended_shorter (assign x e) vs)))

pub if_head_shorter : (d : ℕ) (ts : List Token) → Shorter (length ts) (if_head d ts)
unfolding if_head
if_head_shorter d ts =
    each_bind (formula_shorter d ts) λ (b, us) l.
    each_bind (expect_shorter the.LeftBrace us) λ vs k.
    some (omega arith)

pub else_head_shorter : (ts : List Token) → Each (λ us. length us < length ts) (else_head ts)
unfolding else_head
else_head_shorter ts =
    each_bind (expect_shorter the.Else ts) λ us l.
    each_map (λ vs k. omega arith) (expect_shorter the.LeftBrace us)

pub while_head_shorter : (d : ℕ) (ts : List Token) → Shorter (length ts) (while_head d ts)
unfolding while_head
while_head_shorter d ts =
    each_bind (formula_shorter d ts) λ (b, us) l1.
    each_bind (condition_shorter d the.Keep us) λ (i, vs) l2.
    each_bind (measured_shorter d vs) λ (e, ws) l3.
    each_bind (expect_shorter the.LeftBrace ws) λ xs l4.
    some (omega arith)

mutual
  unfolding block statement

  pub block_shorter : (d : ℕ) (ts : List Token) → Shorter (length ts) (block d ts)
  block_shorter zero ts = none
  block_shorter (suc d) ts =
      each_starts the.RightBrace ts some
      (each_bind (statement_shorter d ts) λ (s, us) l.
      each_bind (block_shorter d us) λ (ss, vs) k.
      some (omega arith))

  pub statement_shorter : (d : ℕ) (ts : List Token) → Shorter (length ts) (statement d ts)
  statement_shorter zero ts = none
  statement_shorter (suc d) [] = none
  statement_shorter (suc d) (fixed f ∷ ts) =
      each_cond (is the.If (fixed f)) (λ _.
      each_bind (if_head_shorter d ts) λ (b, us) l1.
      each_bind (block_shorter d us) λ (c, vs) l2.
      each_bind (else_head_shorter vs) λ ws l3.
      each_bind (block_shorter d ws) λ (e, xs) l4.
      some (omega arith))
      (each_cond (is the.While (fixed f)) (λ _.
      each_bind (while_head_shorter d ts) λ (h, us) l.
      each_bind (block_shorter d us) λ (c, vs) k.
      some (omega arith))
      (each_cond (is the.Check (fixed f)) (λ _.
      each_bind (formula_shorter d ts) λ (b, us) l.
      within (omega arith) (ended_shorter (check b) us))
      (each_cond (is the.Any (fixed f)) (λ _.
      each_bind (a_name_shorter ts) λ (x, us) l.
      within (omega arith) (ended_shorter (havoc x) us))
      none)))
  statement_shorter (suc d) (name x ∷ ts) = within (omega arith) (named_statement_shorter d x ts)
  statement_shorter (suc d) (number n ∷ ts) = none
  statement_shorter (suc d) (stray ∷ ts) = none

pub procedure_shorter : (d : ℕ) (ts : List Token) → Shorter (length ts) (procedure d ts)
unfolding procedure
procedure_shorter d ts =
    each_bind (a_name_shorter ts) λ (f, t1) l1.
    each_bind (expect_shorter the.LeftParen t1) λ t2 l2.
    each_bind (parameters_shorter d t2) λ (xs, t3) l3.
    each_bind (condition_shorter d the.Pre t3) λ (a, t4) l4.
    each_bind (condition_shorter d the.Post t4) λ (b, t5) l5.
    each_bind (measured_shorter d t5) λ (e, t6) l6.
    each_bind (expect_shorter the.LeftBrace t6) λ t7 l7.
    each_bind (local_variables_shorter d t7) λ (ys, t8) l8.
    each_bind (block_shorter d t8) λ (ss, t9) l9.
    some (omega arith)
