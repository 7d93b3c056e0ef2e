-- The grammar with enough depth for whatever is read: the bound drops out of its rules (proofs/Rules.antt has them).
use Rattle.std.specs.Prelude.{cond, List, [], length, Some, Option}
use Rattle.lang.specs.Base.{Word}
use Rattle.lang.specs.Grammar.{Parsed, starts, onward, depth, sum, sum_rest, product, product_rest, atom, formula, disjunction, disjunction_rest, conjunction, conjunction_rest, unit, names, declarations, condition, measured, named_statement, if_head, LoopHead, while_head, block, statement, procedure, procedures}
use Rattle.lang.specs.Syntax.{Expr, BoolExpr, Stmt, Block, Decl, Proc}
use Rattle.lang.specs.Tokens.{Token}
use Rattle.lang.specs.declared.token.Fixed.{Fixed}
use Rattle.lang.specs.declared.token.Fixed.TheVariants as the

unfoldable pub sum∞ : List Token → Parsed Expr
sum∞ ts = sum (depth (length ts)) ts

unfoldable pub sum_rest∞ : Expr → List Token → Parsed Expr
sum_rest∞ e ts = sum_rest (depth (length ts)) e ts

unfoldable pub product∞ : List Token → Parsed Expr
product∞ ts = product (depth (length ts)) ts

unfoldable pub product_rest∞ : Expr → List Token → Parsed Expr
product_rest∞ e ts = product_rest (depth (length ts)) e ts

unfoldable pub atom∞ : List Token → Parsed Expr
atom∞ ts = atom (depth (length ts)) ts

unfoldable pub formula∞ : List Token → Parsed BoolExpr
formula∞ ts = formula (depth (length ts)) ts

unfoldable pub disjunction∞ : List Token → Parsed BoolExpr
disjunction∞ ts = disjunction (depth (length ts)) ts

unfoldable pub disjunction_rest∞ : BoolExpr → List Token → Parsed BoolExpr
disjunction_rest∞ a ts = disjunction_rest (depth (length ts)) a ts

unfoldable pub conjunction∞ : List Token → Parsed BoolExpr
conjunction∞ ts = conjunction (depth (length ts)) ts

unfoldable pub conjunction_rest∞ : BoolExpr → List Token → Parsed BoolExpr
conjunction_rest∞ a ts = conjunction_rest (depth (length ts)) a ts

unfoldable pub unit∞ : List Token → Parsed BoolExpr
unit∞ ts = unit (depth (length ts)) ts

unfoldable pub names∞ : List Token → Parsed (List Word)
names∞ ts = names (depth (length ts)) ts

abbrev pub maybe_names∞ : List Token → Parsed (List Word)
maybe_names∞ ts = cond (starts the.RightParen ts) (Some ([], onward ts)) (names∞ ts)

unfoldable pub declarations∞ : Fixed → List Token → Parsed (List Decl)
declarations∞ f ts = declarations (depth (length ts)) f ts

abbrev pub parameters∞ : List Token → Parsed (List Decl)
parameters∞ ts = cond (starts the.RightParen ts) (Some ([], onward ts)) (declarations∞ the.RightParen ts)

abbrev pub local_variables∞ : List Token → Parsed (List Decl)
local_variables∞ ts = cond (starts the.Var ts) (declarations∞ the.Semicolon (onward ts)) (Some ([], ts))

unfoldable pub condition∞ : Fixed → List Token → Parsed BoolExpr
condition∞ f ts = condition (depth (length ts)) f ts

unfoldable pub measured∞ : List Token → Parsed Expr
measured∞ ts = measured (depth (length ts)) ts

unfoldable pub named_statement∞ : Word → List Token → Parsed Stmt
named_statement∞ x ts = named_statement (depth (length ts)) x ts

unfoldable pub if_head∞ : List Token → Parsed BoolExpr
if_head∞ ts = if_head (depth (length ts)) ts

unfoldable pub while_head∞ : List Token → Parsed LoopHead
while_head∞ ts = while_head (depth (length ts)) ts

unfoldable pub block∞ : List Token → Parsed Block
block∞ ts = block (depth (length ts)) ts

unfoldable pub statement∞ : List Token → Parsed Stmt
statement∞ ts = statement (depth (length ts)) ts

unfoldable pub procedure∞ : List Token → Parsed Proc
procedure∞ ts = procedure (depth (length ts)) ts

unfoldable pub procedures∞ : List Token → Option (List Proc)
procedures∞ ts = procedures (depth (length ts)) ts
