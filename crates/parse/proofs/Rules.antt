-- The rules of the grammar without the bound on depth, in the shape of its clauses.
use Rattle.std.proofs.Common.{◌≡◌, ℕ, suc, ◌+◌, ◌*◌, ◌≤◌, cond, List, [], ◌∷◌, length, Some, None, sym, refl, ap, ◌∙◌, arith}
use Rattle.lang.specs.Base.{◌>>=◌, when, maybe, Word}
use Rattle.lang.specs.Grammar.{depth, is, starts, onward, expect, a_name, a_number, additive, multiplicative, comparing, sum, sum_rest, product, product_rest, atom, formula, disjunction, disjunction_rest, conjunction, conjunction_rest, unit, names, maybe_names, declaration, declarations, parameters, local_variables, condition, measured, ended, named_statement, if_head, else_head, while_head, block, statement, procedure, procedures, program, reads}
use Rattle.lang.specs.Syntax.{Expr, num, var, old, binary, index, old_index, BoolExpr, truth, compare, conj, disj, implies, negate, for_all, assign, store, branch, loop, check, call, havoc, end, seq}
use Rattle.lang.specs.Tokens.{Token, fixed, name, number, stray, tokens}
use Rattle.parse.specs.Unbounded.{sum∞, sum_rest∞, product∞, product_rest∞, atom∞, formula∞, disjunction∞, disjunction_rest∞, conjunction∞, conjunction_rest∞, unit∞, names∞, maybe_names∞, declarations∞, parameters∞, local_variables∞, condition∞, measured∞, named_statement∞, if_head∞, while_head∞, block∞, statement∞, procedure∞, procedures∞}
use Rattle.lang.specs.declared.token.Fixed.{Fixed}
use Rattle.lang.specs.declared.token.Fixed.TheVariants as the
use Rattle.parse.proofs.Shorter.{expect_shorter, a_name_shorter, a_number_shorter, additive_shorter, multiplicative_shorter, comparing_shorter, sum_shorter, product_shorter, atom_shorter, formula_shorter, disjunction_shorter, conjunction_shorter, unit_shorter, declaration_shorter, parameters_shorter, local_variables_shorter, condition_shorter, measured_shorter, if_head_shorter, else_head_shorter, while_head_shorter, block_shorter, statement_shorter, procedure_shorter}
use Rattle.parse.proofs.Stable.{then_same, first_same, both_same, maybe_same, cond_same, starts_same, sum_stable, sum_rest_stable, product_stable, product_rest_stable, atom_stable, formula_stable, disjunction_stable, disjunction_rest_stable, conjunction_stable, conjunction_rest_stable, unit_stable, names_stable, declarations_stable, condition_stable, measured_stable, named_statement_stable, if_head_stable, while_head_stable, block_stable, statement_stable, procedure_stable, procedures_stable}

-- Any depth that is enough gives the same.
pub sum_enough : (d : ℕ) (ts : List Token) → 16 * length ts + 3 ≤ d → sum d ts ≡ sum∞ ts
unfolding sum∞
sum_enough d ts h = sum_stable d (depth (length ts)) ts h (omega arith)

pub sum_rest_enough : (d : ℕ) (e : Expr) (ts : List Token) → 16 * length ts + 1 ≤ d → sum_rest d e ts ≡ sum_rest∞ e ts
unfolding sum_rest∞
sum_rest_enough d e ts h = sum_rest_stable d (depth (length ts)) e ts h (omega arith)

pub product_enough : (d : ℕ) (ts : List Token) → 16 * length ts + 2 ≤ d → product d ts ≡ product∞ ts
unfolding product∞
product_enough d ts h = product_stable d (depth (length ts)) ts h (omega arith)

pub product_rest_enough : (d : ℕ) (e : Expr) (ts : List Token) → 16 * length ts + 1 ≤ d → product_rest d e ts ≡ product_rest∞ e ts
unfolding product_rest∞
product_rest_enough d e ts h = product_rest_stable d (depth (length ts)) e ts h (omega arith)

pub atom_enough : (d : ℕ) (ts : List Token) → 16 * length ts + 1 ≤ d → atom d ts ≡ atom∞ ts
unfolding atom∞
atom_enough d ts h = atom_stable d (depth (length ts)) ts h (omega arith)

pub formula_enough : (d : ℕ) (ts : List Token) → 16 * length ts + 7 ≤ d → formula d ts ≡ formula∞ ts
unfolding formula∞
formula_enough d ts h = formula_stable d (depth (length ts)) ts h (omega arith)

pub disjunction_enough : (d : ℕ) (ts : List Token) → 16 * length ts + 6 ≤ d → disjunction d ts ≡ disjunction∞ ts
unfolding disjunction∞
disjunction_enough d ts h = disjunction_stable d (depth (length ts)) ts h (omega arith)

pub disjunction_rest_enough : (d : ℕ) (a : BoolExpr) (ts : List Token) → 16 * length ts + 1 ≤ d → disjunction_rest d a ts ≡ disjunction_rest∞ a ts
unfolding disjunction_rest∞
disjunction_rest_enough d a ts h = disjunction_rest_stable d (depth (length ts)) a ts h (omega arith)

pub conjunction_enough : (d : ℕ) (ts : List Token) → 16 * length ts + 5 ≤ d → conjunction d ts ≡ conjunction∞ ts
unfolding conjunction∞
conjunction_enough d ts h = conjunction_stable d (depth (length ts)) ts h (omega arith)

pub conjunction_rest_enough : (d : ℕ) (a : BoolExpr) (ts : List Token) → 16 * length ts + 1 ≤ d → conjunction_rest d a ts ≡ conjunction_rest∞ a ts
unfolding conjunction_rest∞
conjunction_rest_enough d a ts h = conjunction_rest_stable d (depth (length ts)) a ts h (omega arith)

pub unit_enough : (d : ℕ) (ts : List Token) → 16 * length ts + 4 ≤ d → unit d ts ≡ unit∞ ts
unfolding unit∞
unit_enough d ts h = unit_stable d (depth (length ts)) ts h (omega arith)

pub names_enough : (d : ℕ) (ts : List Token) → 16 * length ts + 1 ≤ d → names d ts ≡ names∞ ts
unfolding names∞
names_enough d ts h = names_stable d (depth (length ts)) ts h (omega arith)

pub maybe_names_enough : (d : ℕ) (ts : List Token) → 16 * length ts + 1 ≤ d → maybe_names d ts ≡ maybe_names∞ ts
maybe_names_enough d ts h = starts_same the.RightParen ts (λ _. refl) (names_enough d ts h)

pub declarations_enough : (d : ℕ) (f : Fixed) (ts : List Token) → 16 * length ts + 1 ≤ d → declarations d f ts ≡ declarations∞ f ts
unfolding declarations∞
declarations_enough d f ts h = declarations_stable d (depth (length ts)) f ts h (omega arith)

pub parameters_enough : (d : ℕ) (ts : List Token) → 16 * length ts + 1 ≤ d → parameters d ts ≡ parameters∞ ts
parameters_enough d ts h = starts_same the.RightParen ts (λ _. refl) (declarations_enough d the.RightParen ts h)

pub local_variables_enough : (d : ℕ) (ts : List Token) → 16 * length ts ≤ d → local_variables d ts ≡ local_variables∞ ts
local_variables_enough d ts h = starts_same the.Var ts (λ s. declarations_enough d the.Semicolon (onward ts) (omega arith)) refl

pub condition_enough : (d : ℕ) (f : Fixed) (ts : List Token) → 16 * length ts ≤ d → condition d f ts ≡ condition∞ f ts
unfolding condition∞
condition_enough d f ts h = condition_stable d (depth (length ts)) f ts h (omega arith)

pub measured_enough : (d : ℕ) (ts : List Token) → 16 * length ts ≤ d → measured d ts ≡ measured∞ ts
unfolding measured∞
measured_enough d ts h = measured_stable d (depth (length ts)) ts h (omega arith)

pub named_statement_enough : (d : ℕ) (x : Word) (ts : List Token) → 16 * length ts ≤ d → named_statement d x ts ≡ named_statement∞ x ts
unfolding named_statement∞
named_statement_enough d x ts h = named_statement_stable d (depth (length ts)) x ts h (omega arith)

pub if_head_enough : (d : ℕ) (ts : List Token) → 16 * length ts + 7 ≤ d → if_head d ts ≡ if_head∞ ts
unfolding if_head∞
if_head_enough d ts h = if_head_stable d (depth (length ts)) ts h (omega arith)

pub while_head_enough : (d : ℕ) (ts : List Token) → 16 * length ts + 7 ≤ d → while_head d ts ≡ while_head∞ ts
unfolding while_head∞
while_head_enough d ts h = while_head_stable d (depth (length ts)) ts h (omega arith)

pub block_enough : (d : ℕ) (ts : List Token) → 16 * length ts + 2 ≤ d → block d ts ≡ block∞ ts
unfolding block∞
block_enough d ts h = block_stable d (depth (length ts)) ts h (omega arith)

pub statement_enough : (d : ℕ) (ts : List Token) → 16 * length ts + 1 ≤ d → statement d ts ≡ statement∞ ts
unfolding statement∞
statement_enough d ts h = statement_stable d (depth (length ts)) ts h (omega arith)

pub procedure_enough : (d : ℕ) (ts : List Token) → 16 * length ts ≤ d → procedure d ts ≡ procedure∞ ts
unfolding procedure∞
procedure_enough d ts h = procedure_stable d (depth (length ts)) ts h (omega arith)

pub procedures_enough : (d : ℕ) (ts : List Token) → 16 * length ts ≤ d → procedures d ts ≡ procedures∞ ts
unfolding procedures∞
procedures_enough d ts h = procedures_stable d (depth (length ts)) ts h (omega arith)

-- Expressions.
pub sum_rule : (ts : List Token) → sum∞ ts ≡ (do
  (e, us) ← product∞ ts
  sum_rest∞ e us)
unfolding sum
sum_rule ts =
    let d = depth (length ts) in
    sym (sum_enough (suc d) ts (omega arith)) ∙
    (both_same (product_enough d ts (omega arith)) (product_shorter d ts) λ (e, us) l.
    sum_rest_enough d e us (omega arith))

pub sum_rest_rule : (e : Expr) (ts : List Token) → sum_rest∞ e ts ≡ (maybe (additive ts) (Some (e, ts)) λ o. do
  (f, us) ← product∞ (onward ts)
  sum_rest∞ (binary o e f) us)
unfolding sum_rest
sum_rest_rule e ts =
    let d = depth (length ts) in
    sym (sum_rest_enough (suc d) e ts (omega arith)) ∙
    (maybe_same (additive_shorter ts) refl λ o k.
    both_same (product_enough d (onward ts) (omega arith)) (product_shorter d (onward ts)) λ (f, us) l.
    sum_rest_enough d (binary o e f) us (omega arith))

pub product_rule : (ts : List Token) → product∞ ts ≡ (do
  (e, us) ← atom∞ ts
  product_rest∞ e us)
unfolding product
product_rule ts =
    let d = depth (length ts) in
    sym (product_enough (suc d) ts (omega arith)) ∙
    (both_same (atom_enough d ts (omega arith)) (atom_shorter d ts) λ (e, us) l.
    product_rest_enough d e us (omega arith))

pub product_rest_rule : (e : Expr) (ts : List Token) → product_rest∞ e ts ≡ (maybe (multiplicative ts) (Some (e, ts)) λ o. do
  (f, us) ← atom∞ (onward ts)
  product_rest∞ (binary o e f) us)
unfolding product_rest
product_rest_rule e ts =
    let d = depth (length ts) in
    sym (product_rest_enough (suc d) e ts (omega arith)) ∙
    (maybe_same (multiplicative_shorter ts) refl λ o k.
    both_same (atom_enough d (onward ts) (omega arith)) (atom_shorter d (onward ts)) λ (f, us) l.
    product_rest_enough d (binary o e f) us (omega arith))

pub atom_end : atom∞ [] ≡ None
unfolding atom
atom_end = sym (atom_enough 1 [] (omega arith))

pub atom_fixed : (f : Fixed) (ts : List Token) → atom∞ (fixed f ∷ ts) ≡
    cond (is the.LeftParen (fixed f)) (do
      (e, us) ← sum∞ ts
      vs ← expect the.RightParen us
      Some (e, vs))
    (cond (is the.Old (fixed f)) (do
      (x, us) ← a_name ts
      cond (starts the.LeftBracket us) (do
        (i, vs) ← sum∞ (onward us)
        ws ← expect the.RightBracket vs
        Some (old_index x i, ws))
          (Some (old x, us)))
    None)
unfolding atom
atom_fixed f ts =
    let d = depth (length ts) in
    sym (atom_enough (suc d) (fixed f ∷ ts) (omega arith)) ∙
    cond_same (is the.LeftParen (fixed f)) (λ _. first_same _ (sum_enough d ts (omega arith)))
    (cond_same (is the.Old (fixed f)) (λ _.
    then_same (a_name_shorter ts) λ (x, us) l.
    starts_same the.LeftBracket us (λ s. first_same _ (sum_enough d (onward us) (omega arith))) refl)
    refl)

pub atom_name : (x : Word) (ts : List Token) → atom∞ (name x ∷ ts) ≡
    cond (starts the.LeftBracket ts) (do
      (i, us) ← sum∞ (onward ts)
      vs ← expect the.RightBracket us
      Some (index x i, vs))
    (Some (var x, ts))
unfolding atom
atom_name x ts =
    let d = depth (length ts) in
    sym (atom_enough (suc d) (name x ∷ ts) (omega arith)) ∙
    starts_same the.LeftBracket ts (λ s. first_same _ (sum_enough d (onward ts) (omega arith))) refl

pub atom_number : (n : ℕ) (ts : List Token) → atom∞ (number n ∷ ts) ≡ Some (num n, ts)
unfolding atom
atom_number n ts = sym (atom_enough (suc (depth (length ts))) (number n ∷ ts) (omega arith))

pub atom_stray : (ts : List Token) → atom∞ (stray ∷ ts) ≡ None
unfolding atom
atom_stray ts = sym (atom_enough (suc (depth (length ts))) (stray ∷ ts) (omega arith))

-- Boolean expressions.
pub formula_rule : (ts : List Token) → formula∞ ts ≡ (do
  (a, us) ← disjunction∞ ts
  cond (starts the.Implies us) (do
    (b, vs) ← formula∞ (onward us)
    Some (implies a b, vs))
      (Some (a, us)))
unfolding formula
formula_rule ts =
    let d = depth (length ts) in
    sym (formula_enough (suc d) ts (omega arith)) ∙
    (both_same (disjunction_enough d ts (omega arith)) (disjunction_shorter d ts) λ (a, us) l.
    starts_same the.Implies us (λ s. first_same _ (formula_enough d (onward us) (omega arith))) refl)

pub disjunction_rule : (ts : List Token) → disjunction∞ ts ≡ (do
  (a, us) ← conjunction∞ ts
  disjunction_rest∞ a us)
unfolding disjunction
disjunction_rule ts =
    let d = depth (length ts) in
    sym (disjunction_enough (suc d) ts (omega arith)) ∙
    (both_same (conjunction_enough d ts (omega arith)) (conjunction_shorter d ts) λ (a, us) l.
    disjunction_rest_enough d a us (omega arith))

pub disjunction_rest_rule : (a : BoolExpr) (ts : List Token) → disjunction_rest∞ a ts ≡
    cond (starts the.Or ts) (do
      (b, us) ← conjunction∞ (onward ts)
      disjunction_rest∞ (disj a b) us)
    (Some (a, ts))
unfolding disjunction_rest
disjunction_rest_rule a ts =
    let d = depth (length ts) in
    sym (disjunction_rest_enough (suc d) a ts (omega arith)) ∙
    starts_same the.Or ts (λ s.
    both_same (conjunction_enough d (onward ts) (omega arith)) (conjunction_shorter d (onward ts)) λ (b, us) l.
    disjunction_rest_enough d (disj a b) us (omega arith))
    refl

pub conjunction_rule : (ts : List Token) → conjunction∞ ts ≡ (do
  (a, us) ← unit∞ ts
  conjunction_rest∞ a us)
unfolding conjunction
conjunction_rule ts =
    let d = depth (length ts) in
    sym (conjunction_enough (suc d) ts (omega arith)) ∙
    (both_same (unit_enough d ts (omega arith)) (unit_shorter d ts) λ (a, us) l.
    conjunction_rest_enough d a us (omega arith))

pub conjunction_rest_rule : (a : BoolExpr) (ts : List Token) → conjunction_rest∞ a ts ≡
    cond (starts the.And ts) (do
      (b, us) ← unit∞ (onward ts)
      conjunction_rest∞ (conj a b) us)
    (Some (a, ts))
unfolding conjunction_rest
conjunction_rest_rule a ts =
    let d = depth (length ts) in
    sym (conjunction_rest_enough (suc d) a ts (omega arith)) ∙
    starts_same the.And ts (λ s.
    both_same (unit_enough d (onward ts) (omega arith)) (unit_shorter d (onward ts)) λ (b, us) l.
    conjunction_rest_enough d (conj a b) us (omega arith))
    refl

pub unit_rule : (ts : List Token) → unit∞ ts ≡
    cond (starts the.Not ts) (do
      (a, us) ← unit∞ (onward ts)
      Some (negate a, us))
    (cond (starts the.Yes ts) (Some (truth, onward ts))
    (cond (starts the.LeftBracket ts) (do
      (a, us) ← formula∞ (onward ts)
      vs ← expect the.RightBracket us
      Some (a, vs))
    (cond (starts the.All ts) (do
      (x, us) ← a_name (onward ts)
      vs ← expect the.LessThan us
      (n, ws) ← a_number vs
      xs ← expect the.LeftBrace ws
      (a, ys) ← formula∞ xs
      zs ← expect the.RightBrace ys
      Some (for_all x n a, zs))
    (do
      (e, us) ← sum∞ ts
      o ← comparing us
      (f, vs) ← sum∞ (onward us)
      Some (compare o e f, vs)))))
unfolding unit
unit_rule ts =
    let d = depth (length ts) in
    sym (unit_enough (suc d) ts (omega arith)) ∙
    starts_same the.Not ts (λ s. first_same _ (unit_enough d (onward ts) (omega arith)))
    (starts_same the.Yes ts (λ _. refl)
    (starts_same the.LeftBracket ts (λ s. first_same _ (formula_enough d (onward ts) (omega arith)))
    (starts_same the.All ts (λ s.
    then_same (a_name_shorter (onward ts)) λ (x, us) l1.
    then_same (expect_shorter the.LessThan us) λ vs l2.
    then_same (a_number_shorter vs) λ (n, ws) l3.
    then_same (expect_shorter the.LeftBrace ws) λ xs l4.
    first_same _ (formula_enough d xs (omega arith)))
    (both_same (sum_enough d ts (omega arith)) (sum_shorter d ts) λ (e, us) l.
    then_same (comparing_shorter us) λ o k.
    first_same _ (sum_enough d (onward us) (omega arith))))))

-- Names and declarations.
pub names_rule : (ts : List Token) → names∞ ts ≡ (do
  (x, us) ← a_name ts
  cond (starts the.Comma us) (do
    (xs, vs) ← names∞ (onward us)
    Some (x ∷ xs, vs))
      (do
        vs ← expect the.RightParen us
        Some (x ∷ [], vs)))
unfolding names
names_rule ts =
    let d = depth (length ts) in
    sym (names_enough (suc d) ts (omega arith)) ∙
    (then_same (a_name_shorter ts) λ (x, us) l.
    starts_same the.Comma us (λ s. first_same _ (names_enough d (onward us) (omega arith))) refl)

pub declarations_rule : (f : Fixed) (ts : List Token) → declarations∞ f ts ≡ (do
  (x, us) ← declaration ts
  cond (starts the.Comma us) (do
    (xs, vs) ← declarations∞ f (onward us)
    Some (x ∷ xs, vs))
      (do
        vs ← expect f us
        Some (x ∷ [], vs)))
unfolding declarations
declarations_rule f ts =
    let d = depth (length ts) in
    sym (declarations_enough (suc d) f ts (omega arith)) ∙
    (then_same (declaration_shorter ts) λ (x, us) l.
    starts_same the.Comma us (λ s. first_same _ (declarations_enough d f (onward us) (omega arith))) refl)

-- Statements.
pub condition_rule : (f : Fixed) (ts : List Token) → condition∞ f ts ≡ (do
  us ← expect f ts
  (a, vs) ← formula∞ us
  ws ← expect the.Semicolon vs
  Some (a, ws))
unfolding condition condition∞
condition_rule f ts =
    then_same (expect_shorter f ts) λ us l.
    first_same _ (formula_enough (depth (length ts)) us (omega arith))

pub measured_rule : (ts : List Token) → measured∞ ts ≡ (do
  us ← expect the.Measure ts
  (e, vs) ← sum∞ us
  ws ← expect the.Semicolon vs
  Some (e, ws))
unfolding measured measured∞
measured_rule ts =
    then_same (expect_shorter the.Measure ts) λ us l.
    first_same _ (sum_enough (depth (length ts)) us (omega arith))

pub named_statement_rule : (x : Word) (ts : List Token) → named_statement∞ x ts ≡
    cond (starts the.LeftParen ts) (do
      (xs, us) ← maybe_names∞ (onward ts)
      ended (call x xs) us)
    (cond (starts the.LeftBracket ts) (do
      (i, us) ← sum∞ (onward ts)
      vs ← expect the.RightBracket us
      ws ← expect the.Gets vs
      (e, xs) ← sum∞ ws
      ended (store x i e) xs)
    (do
      us ← expect the.Gets ts
      (e, vs) ← sum∞ us
      ended (assign x e) vs))
unfolding named_statement named_statement∞
named_statement_rule x ts =
    let d = depth (length ts) in
    starts_same the.LeftParen ts (λ s. first_same _ (maybe_names_enough d (onward ts) (omega arith)))
    (starts_same the.LeftBracket ts (λ s.
    both_same (sum_enough d (onward ts) (omega arith)) (sum_shorter d (onward ts)) λ (i, us) l1.
    then_same (expect_shorter the.RightBracket us) λ vs l2.
    then_same (expect_shorter the.Gets vs) λ ws l3.
    first_same _ (sum_enough d ws (omega arith)))
    (then_same (expect_shorter the.Gets ts) λ us l.
    first_same _ (sum_enough d us (omega arith))))

pub if_head_rule : (ts : List Token) → if_head∞ ts ≡ (do
  (b, us) ← formula∞ ts
  vs ← expect the.LeftBrace us
  Some (b, vs))
unfolding if_head if_head∞
if_head_rule ts = first_same _ (formula_enough (depth (length ts)) ts (omega arith))

pub while_head_rule : (ts : List Token) → while_head∞ ts ≡ (do
  (b, us) ← formula∞ ts
  (i, vs) ← condition∞ the.Keep us
  (e, ws) ← measured∞ vs
  xs ← expect the.LeftBrace ws
  Some (record { test = b; invariant = i; measure = e }, xs))
unfolding while_head while_head∞
while_head_rule ts =
    let d = depth (length ts) in
    both_same (formula_enough d ts (omega arith)) (formula_shorter d ts) λ (b, us) l.
    both_same (condition_enough d the.Keep us (omega arith)) (condition_shorter d the.Keep us) λ (i, vs) k.
    first_same _ (measured_enough d vs (omega arith))

pub block_rule : (ts : List Token) → block∞ ts ≡
    cond (starts the.RightBrace ts) (Some (end, onward ts)) (do
      (s, us) ← statement∞ ts
      (ss, vs) ← block∞ us
      Some (seq s ss, vs))
unfolding block
block_rule ts =
    let d = depth (length ts) in
    sym (block_enough (suc d) ts (omega arith)) ∙
    starts_same the.RightBrace ts (λ _. refl)
    (both_same (statement_enough d ts (omega arith)) (statement_shorter d ts) λ (s, us) l.
    first_same _ (block_enough d us (omega arith)))

pub statement_end : statement∞ [] ≡ None
unfolding statement
statement_end = sym (statement_enough 1 [] (omega arith))

pub statement_fixed : (f : Fixed) (ts : List Token) → statement∞ (fixed f ∷ ts) ≡
    cond (is the.If (fixed f)) (do
      (b, us) ← if_head∞ ts
      (c, vs) ← block∞ us
      ws ← else_head vs
      (e, xs) ← block∞ ws
      Some (branch b c e, xs))
    (cond (is the.While (fixed f)) (do
      (h, us) ← while_head∞ ts
      (c, vs) ← block∞ us
      Some (loop h.test h.invariant h.measure c, vs))
    (cond (is the.Check (fixed f)) (do
      (b, us) ← formula∞ ts
      ended (check b) us)
    (cond (is the.Any (fixed f)) (do
      (x, us) ← a_name ts
      ended (havoc x) us)
    None)))
unfolding statement
statement_fixed f ts =
    let d = depth (length ts) in
    sym (statement_enough (suc d) (fixed f ∷ ts) (omega arith)) ∙
    cond_same (is the.If (fixed f)) (λ _.
    both_same (if_head_enough d ts (omega arith)) (if_head_shorter d ts) λ (b, us) l1.
    both_same (block_enough d us (omega arith)) (block_shorter d us) λ (c, vs) l2.
    then_same (else_head_shorter vs) λ ws l3.
    first_same _ (block_enough d ws (omega arith)))
    (cond_same (is the.While (fixed f)) (λ _.
    both_same (while_head_enough d ts (omega arith)) (while_head_shorter d ts) λ (b, us) l.
    first_same _ (block_enough d us (omega arith)))
    (cond_same (is the.Check (fixed f)) (λ _. first_same _ (formula_enough d ts (omega arith)))
    refl))

pub statement_name : (x : Word) (ts : List Token) → statement∞ (name x ∷ ts) ≡ named_statement∞ x ts
unfolding statement
statement_name x ts =
    let d = depth (length ts) in
    sym (statement_enough (suc d) (name x ∷ ts) (omega arith)) ∙ named_statement_enough d x ts (omega arith)

pub statement_number : (n : ℕ) (ts : List Token) → statement∞ (number n ∷ ts) ≡ None
unfolding statement
statement_number n ts = sym (statement_enough (suc (depth (length ts))) (number n ∷ ts) (omega arith))

pub statement_stray : (ts : List Token) → statement∞ (stray ∷ ts) ≡ None
unfolding statement
statement_stray ts = sym (statement_enough (suc (depth (length ts))) (stray ∷ ts) (omega arith))

-- Procedures, and the whole text.
pub procedure_rule : (ts : List Token) → procedure∞ ts ≡ (do
  (f, t1) ← a_name ts
  t2 ← expect the.LeftParen t1
  (xs, t3) ← parameters∞ t2
  (a, t4) ← condition∞ the.Pre t3
  (b, t5) ← condition∞ the.Post t4
  (e, t6) ← measured∞ t5
  t7 ← expect the.LeftBrace t6
  (ys, t8) ← local_variables∞ t7
  (ss, t9) ← block∞ t8
  Some (record { name = f; params = xs; pre = a; post = b; measure = e; locals = ys; body = ss }, t9))
unfolding procedure procedure∞
procedure_rule ts =
    let d = depth (length ts) in
    then_same (a_name_shorter ts) λ (f, t1) l1.
    then_same (expect_shorter the.LeftParen t1) λ t2 l2.
    both_same (parameters_enough d t2 (omega arith)) (parameters_shorter d t2) λ (xs, t3) l3.
    both_same (condition_enough d the.Pre t3 (omega arith)) (condition_shorter d the.Pre t3) λ (a, t4) l4.
    both_same (condition_enough d the.Post t4 (omega arith)) (condition_shorter d the.Post t4) λ (b, t5) l5.
    both_same (measured_enough d t5 (omega arith)) (measured_shorter d t5) λ (e, t6) l6.
    then_same (expect_shorter the.LeftBrace t6) λ t7 l7.
    both_same (local_variables_enough d t7 (omega arith)) (local_variables_shorter d t7) λ (ys, t8) l8.
    first_same _ (block_enough d t8 (omega arith))

pub procedures_end : procedures∞ [] ≡ Some []
unfolding procedures
procedures_end = sym (procedures_enough 0 [] (omega arith))

pub procedures_rule : (t : Token) (ts : List Token) → procedures∞ (t ∷ ts) ≡ (when (is the.Proc t) do
  (q, us) ← procedure∞ ts
  qs ← procedures∞ us
  Some (q ∷ qs))
unfolding procedures
procedures_rule t ts =
    let d = depth (length ts) in
    sym (procedures_enough (suc d) (t ∷ ts) (omega arith)) ∙
    ap (when (is the.Proc t)) (
    both_same (procedure_enough d ts (omega arith)) (procedure_shorter d ts) λ (q, us) l.
    first_same _ (procedures_enough d us (omega arith)))

pub reads_rule : (text : List ℕ) → reads text ≡ (do
  t1 ← expect the.Width (tokens text)
  (w, t2) ← a_number t1
  t3 ← expect the.Semicolon t2
  qs ← procedures∞ t3
  Some (record { width = w; procs = qs }))
unfolding reads program
reads_rule text =
    then_same (expect_shorter the.Width (tokens text)) λ t1 l1.
    then_same (a_number_shorter t1) λ (w, t2) l2.
    then_same (expect_shorter the.Semicolon t2) λ t3 l3.
    first_same _ (procedures_enough (depth (length (tokens text))) t3 (omega arith))
