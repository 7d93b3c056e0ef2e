-- From tokens to a program. Each function reads the longest piece of its kind, and gives it with the tokens behind it.
-- The number that most functions take first bounds how deep calls go. `reads` begins with more than any text can use.
use Rattle.std.specs.Prelude.{ℕ, zero, suc, ◌+◌, ◌*◌, Bool, false, cond, List, [], ◌∷◌, length, Some, None, Option, ◌==◌}
use Rattle.lang.specs.Base.{◌>>=◌, when, maybe, Word, same}
use Rattle.lang.specs.Syntax.{Expr, num, var, old, binary, index, old_index, BoolExpr, truth, compare, conj, disj, implies, negate, for_all, Stmt, assign, store, branch, loop, check, call, havoc, Block, end, seq, Decl, Proc, Program}
use Rattle.lang.specs.Tokens.{Token, fixed, name, number, stray, spelled, tokens}
use Rattle.lang.specs.declared.syntax.ArithOp.{ArithOp}
use Rattle.lang.specs.declared.syntax.ArithOp.TheVariants.{Add, Sub, Mul, Div, Rem}
use Rattle.lang.specs.declared.syntax.Comparison.{Comparison}
use Rattle.lang.specs.declared.syntax.Comparison.TheVariants as comparison
use Rattle.lang.specs.declared.token.Fixed.{Fixed}
use Rattle.lang.specs.declared.token.Fixed.TheVariants as the

-- a piece, and the tokens behind it
abbrev pub Parsed : Type 0 → Type 0
Parsed A = Option (A × List Token)

abbrev pub is : Fixed → Token → Bool
is f (fixed g) = same (spelled f) (spelled g)
is f (name x) = false
is f (number n) = false
is f stray = false

abbrev pub starts : Fixed → List Token → Bool
starts f [] = false
starts f (t ∷ ts) = is f t

abbrev pub onward : List Token → List Token
onward [] = []
onward (t ∷ ts) = ts

abbrev pub expect : Fixed → List Token → Option (List Token)
expect f ts = when (starts f ts) (Some (onward ts))

abbrev pub a_name : List Token → Parsed Word
a_name [] = None
a_name (fixed f ∷ ts) = None
a_name (name x ∷ ts) = Some (x, ts)
a_name (number n ∷ ts) = None
a_name (stray ∷ ts) = None

abbrev pub a_number : List Token → Parsed ℕ
a_number [] = None
a_number (fixed f ∷ ts) = None
a_number (name x ∷ ts) = None
a_number (number n ∷ ts) = Some (n, ts)
a_number (stray ∷ ts) = None

abbrev pub additive : List Token → Option ArithOp
additive ts = cond (starts the.Plus ts) (Some Add) (cond (starts the.Minus ts) (Some Sub) None)

abbrev pub multiplicative : List Token → Option ArithOp
multiplicative ts = cond (starts the.Times ts) (Some Mul) (cond (starts the.Over ts) (Some Div) (cond (starts the.Percent ts) (Some Rem) None))

abbrev pub comparing : List Token → Option Comparison
comparing ts = cond (starts the.Equals ts) (Some comparison.Equal) (cond (starts the.LessThan ts) (Some comparison.Less) (cond (starts the.AtMost ts) (Some comparison.AtMost) None))

-- Expressions: sums of products of atoms, from the left.
unfoldable mutual
  pub sum : ℕ → List Token → Parsed Expr
  sum zero ts = None
  sum (suc d) ts = do
    (e, us) ← product d ts
    sum_rest d e us

  pub sum_rest : ℕ → Expr → List Token → Parsed Expr
  sum_rest zero e ts = None
  sum_rest (suc d) e ts = maybe (additive ts) (Some (e, ts)) λ o. do
    (f, us) ← product d (onward ts)
    sum_rest d (binary o e f) us

  pub product : ℕ → List Token → Parsed Expr
  product zero ts = None
  product (suc d) ts = do
    (e, us) ← atom d ts
    product_rest d e us

  pub product_rest : ℕ → Expr → List Token → Parsed Expr
  product_rest zero e ts = None
  product_rest (suc d) e ts = maybe (multiplicative ts) (Some (e, ts)) λ o. do
    (f, us) ← atom d (onward ts)
    product_rest d (binary o e f) us

  -- a number, a name, a place in a row, either as it was, or a sum in parentheses
  pub atom : ℕ → List Token → Parsed Expr
  atom zero ts = None
  atom (suc d) [] = None
  atom (suc d) (fixed f ∷ ts) =
      cond (is the.LeftParen (fixed f)) (do
        (e, us) ← sum d ts
        vs ← expect the.RightParen us
        Some (e, vs))
      (cond (is the.Old (fixed f)) (do
        (x, us) ← a_name ts
        cond (starts the.LeftBracket us) (do
          (i, vs) ← sum d (onward us)
          ws ← expect the.RightBracket vs
          Some (old_index x i, ws))
            (Some (old x, us)))
      None)
  atom (suc d) (name x ∷ ts) =
      cond (starts the.LeftBracket ts) (do
        (i, us) ← sum d (onward ts)
        vs ← expect the.RightBracket us
        Some (index x i, vs))
      (Some (var x, ts))
  atom (suc d) (number n ∷ ts) = Some (num n, ts)
  atom (suc d) (stray ∷ ts) = None

-- Boolean expressions: implications, to the right; disjunctions of conjunctions of units, from the left.
unfoldable mutual
  pub formula : ℕ → List Token → Parsed BoolExpr
  formula zero ts = None
  formula (suc d) ts = do
    (a, us) ← disjunction d ts
    cond (starts the.Implies us) (do
      (b, vs) ← formula d (onward us)
      Some (implies a b, vs))
        (Some (a, us))

  pub disjunction : ℕ → List Token → Parsed BoolExpr
  disjunction zero ts = None
  disjunction (suc d) ts = do
    (a, us) ← conjunction d ts
    disjunction_rest d a us

  pub disjunction_rest : ℕ → BoolExpr → List Token → Parsed BoolExpr
  disjunction_rest zero a ts = None
  disjunction_rest (suc d) a ts = cond (starts the.Or ts) (do
    (b, us) ← conjunction d (onward ts)
    disjunction_rest d (disj a b) us)
      (Some (a, ts))

  pub conjunction : ℕ → List Token → Parsed BoolExpr
  conjunction zero ts = None
  conjunction (suc d) ts = do
    (a, us) ← unit d ts
    conjunction_rest d a us

  pub conjunction_rest : ℕ → BoolExpr → List Token → Parsed BoolExpr
  conjunction_rest zero a ts = None
  conjunction_rest (suc d) a ts = cond (starts the.And ts) (do
    (b, us) ← unit d (onward ts)
    conjunction_rest d (conj a b) us)
      (Some (a, ts))

  -- not, yes, a formula in brackets, all, or a comparison
  pub unit : ℕ → List Token → Parsed BoolExpr
  unit zero ts = None
  unit (suc d) ts =
      cond (starts the.Not ts) (do
        (a, us) ← unit d (onward ts)
        Some (negate a, us))
      (cond (starts the.Yes ts) (Some (truth, onward ts))
      (cond (starts the.LeftBracket ts) (do
        (a, us) ← formula d (onward ts)
        vs ← expect the.RightBracket us
        Some (a, vs))
      (cond (starts the.All ts) (do
        (x, us) ← a_name (onward ts)
        vs ← expect the.LessThan us
        (n, ws) ← a_number vs
        xs ← expect the.LeftBrace ws
        (a, ys) ← formula d xs
        zs ← expect the.RightBrace ys
        Some (for_all x n a, zs))
      (do
        (e, us) ← sum d ts
        o ← comparing us
        (f, vs) ← sum d (onward us)
        Some (compare o e f, vs)))))

-- names with commas, up to the parenthesis, which is read too
unfoldable pub names : ℕ → List Token → Parsed (List Word)
names zero ts = None
names (suc d) ts = do
  (x, us) ← a_name ts
  cond (starts the.Comma us) (do
    (xs, vs) ← names d (onward us)
    Some (x ∷ xs, vs))
      (do
        vs ← expect the.RightParen us
        Some (x ∷ [], vs))

abbrev pub maybe_names : ℕ → List Token → Parsed (List Word)
maybe_names d ts = cond (starts the.RightParen ts) (Some ([], onward ts)) (names d ts)

-- a number's name, or a row's with its length, which is not 0
unfoldable pub declaration : List Token → Parsed Decl
declaration ts = do
  (x, us) ← a_name ts
  cond (starts the.LeftBracket us) (do
    (n, vs) ← a_number (onward us)
    ws ← expect the.RightBracket vs
    cond (n == 0) None (Some (record { name = x; size = n }, ws)))
      (Some (record { name = x; size = 0 }, us))

-- declarations with commas, up to the token f, which is read too
unfoldable pub declarations : ℕ → Fixed → List Token → Parsed (List Decl)
declarations zero f ts = None
declarations (suc d) f ts = do
  (x, us) ← declaration ts
  cond (starts the.Comma us) (do
    (xs, vs) ← declarations d f (onward us)
    Some (x ∷ xs, vs))
      (do
        vs ← expect f us
        Some (x ∷ [], vs))

abbrev pub parameters : ℕ → List Token → Parsed (List Decl)
parameters d ts = cond (starts the.RightParen ts) (Some ([], onward ts)) (declarations d the.RightParen ts)

abbrev pub local_variables : ℕ → List Token → Parsed (List Decl)
local_variables d ts = cond (starts the.Var ts) (declarations d the.Semicolon (onward ts)) (Some ([], ts))

-- what is asked, promised or kept: its word, a formula, a semicolon
unfoldable pub condition : ℕ → Fixed → List Token → Parsed BoolExpr
condition d f ts = do
  us ← expect f ts
  (a, vs) ← formula d us
  ws ← expect the.Semicolon vs
  Some (a, ws)

-- what gets smaller
unfoldable pub measured : ℕ → List Token → Parsed Expr
measured d ts = do
  us ← expect the.Measure ts
  (e, vs) ← sum d us
  ws ← expect the.Semicolon vs
  Some (e, ws)

-- Statements.
abbrev pub ended : {A : Type 0} → A → List Token → Parsed A
ended x ts = do
  us ← expect the.Semicolon ts
  Some (x, us)

-- behind the name that it begins with: a call, a store or an assignment
unfoldable pub named_statement : ℕ → Word → List Token → Parsed Stmt
named_statement d x ts =
    cond (starts the.LeftParen ts) (do
      (xs, us) ← maybe_names d (onward ts)
      ended (call x xs) us)
    (cond (starts the.LeftBracket ts) (do
      (i, us) ← sum d (onward ts)
      vs ← expect the.RightBracket us
      ws ← expect the.Gets vs
      (e, xs) ← sum d ws
      ended (store x i e) xs)
    (do
      us ← expect the.Gets ts
      (e, vs) ← sum d us
      ended (assign x e) vs))

-- up to the brace where its first block begins
unfoldable pub if_head : ℕ → List Token → Parsed BoolExpr
if_head d ts = do
  (b, us) ← formula d ts
  vs ← expect the.LeftBrace us
  Some (b, vs)

unfoldable pub else_head : List Token → Option (List Token)
else_head ts = expect the.Else ts >>= expect the.LeftBrace

pub record LoopHead : Type 0 where
  pub test : BoolExpr
  pub invariant : BoolExpr
  pub measure : Expr

unfoldable pub while_head : ℕ → List Token → Parsed LoopHead
while_head d ts = do
  (b, us) ← formula d ts
  (i, vs) ← condition d the.Keep us
  (e, ws) ← measured d vs
  xs ← expect the.LeftBrace ws
  Some (record { test = b; invariant = i; measure = e }, xs)

unfoldable mutual
  -- statements up to the brace that closes them, which is read too
  pub block : ℕ → List Token → Parsed Block
  block zero ts = None
  block (suc d) ts = cond (starts the.RightBrace ts) (Some (end, onward ts)) (do
    (s, us) ← statement d ts
    (ss, vs) ← block d us
    Some (seq s ss, vs))

  pub statement : ℕ → List Token → Parsed Stmt
  statement zero ts = None
  statement (suc d) [] = None
  statement (suc d) (fixed f ∷ ts) =
      cond (is the.If (fixed f)) (do
        (b, us) ← if_head d ts
        (c, vs) ← block d us
        ws ← else_head vs
        (e, xs) ← block d ws
        Some (branch b c e, xs))
      (cond (is the.While (fixed f)) (do
        (h, us) ← while_head d ts
        (c, vs) ← block d us
        Some (loop h.test h.invariant h.measure c, vs))
      (cond (is the.Check (fixed f)) (do
        (b, us) ← formula d ts
        ended (check b) us)
      (cond (is the.Any (fixed f)) (do
        (x, us) ← a_name ts
        ended (havoc x) us)
      None)))
  statement (suc d) (name x ∷ ts) = named_statement d x ts
  statement (suc d) (number n ∷ ts) = None
  statement (suc d) (stray ∷ ts) = None

-- Procedures, and the whole text.
unfoldable pub procedure : ℕ → List Token → Parsed Proc
procedure d ts = do
  (f, t1) ← a_name ts
  t2 ← expect the.LeftParen t1
  (xs, t3) ← parameters d t2
  (a, t4) ← condition d the.Pre t3
  (b, t5) ← condition d the.Post t4
  (e, t6) ← measured d t5
  t7 ← expect the.LeftBrace t6
  (ys, t8) ← local_variables d t7
  (ss, t9) ← block d t8
  Some (record { name = f; params = xs; pre = a; post = b; measure = e; locals = ys; body = ss }, t9)

unfoldable pub procedures : ℕ → List Token → Option (List Proc)
procedures zero [] = Some []
procedures zero (t ∷ ts) = None
procedures (suc d) [] = Some []
procedures (suc d) (t ∷ ts) = when (is the.Proc t) (do
  (q, us) ← procedure d ts
  qs ← procedures d us
  Some (q ∷ qs))

unfoldable pub program : ℕ → List Token → Option Program
program d ts = do
  t1 ← expect the.Width ts
  (w, t2) ← a_number t1
  t3 ← expect the.Semicolon t2
  qs ← procedures d t3
  Some (record { width = w; procs = qs })

-- enough for any text of n tokens
abbrev pub depth : ℕ → ℕ
depth n = 16 * (2 + n)

unfoldable pub reads : List ℕ → Option Program
reads text = program (depth (length (tokens text))) (tokens text)
