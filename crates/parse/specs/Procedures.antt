-- A procedure in three parts: its signature, what is asked, promised and measured, and its body.
use Rattle.std.specs.Prelude.{List, [], ◌∷◌, ◌++◌, length, Some}
use Rattle.lang.specs.Base.{◌>>=◌, Word}
use Rattle.lang.specs.Code.{code_params, code_locals, code_block}
use Rattle.lang.specs.Grammar.{Parsed, expect, a_name}
use Rattle.lang.specs.Instr as instr
use Rattle.lang.specs.Instr.{Instr}
use Rattle.lang.specs.Syntax.{Expr, BoolExpr, Block, Decl}
use Rattle.lang.specs.Tokens.{Token}
use Rattle.lang.specs.declared.token.Fixed.TheVariants as the
use Rattle.parse.specs.Parts.{part_code, measure_code}
use Rattle.parse.specs.Unbounded.{parameters∞, condition∞, measured∞, local_variables∞, block∞}
use Rattle.parse.specs.declared.parts.Header.TheVariants.{Pre, Post}

pub record Signature : Type 0 where
  pub name : Word
  pub params : List Decl

pub record Terms : Type 0 where
  pub pre : BoolExpr
  pub post : BoolExpr
  pub measure : Expr

pub record Body : Type 0 where
  pub locals : List Decl
  pub block : Block

unfoldable pub signature∞ : List Token → Parsed Signature
signature∞ ts = do
  (f, us) ← a_name ts
  vs ← expect the.LeftParen us
  (xs, ws) ← parameters∞ vs
  Some (record { name = f; params = xs }, ws)

unfoldable pub terms∞ : List Token → Parsed Terms
terms∞ ts = do
  (a, us) ← condition∞ the.Pre ts
  (b, vs) ← condition∞ the.Post us
  (e, ws) ← measured∞ vs
  Some (record { pre = a; post = b; measure = e }, ws)

unfoldable pub body∞ : List Token → Parsed Body
body∞ ts = do
  us ← expect the.LeftBrace ts
  (ys, vs) ← local_variables∞ us
  (ss, ws) ← block∞ vs
  Some (record { locals = ys; block = ss }, ws)

-- their code; the length of the whole is not known yet where the signature is read
abbrev pub signature_code : Signature → List Instr
signature_code q = instr.proc q.name ∷ instr.extent 0 ∷ code_params q.params []

abbrev pub terms_code : Terms → List Instr
terms_code q = part_code Pre q.pre ++ (part_code Post q.post ++ measure_code q.measure)

abbrev pub block_code : Block → List Instr
block_code c = instr.body (length (code_block c [])) ∷ code_block c []

abbrev pub body_code : Body → List Instr
body_code q = code_locals q.locals [] ++ (block_code q.block ++ instr.end_proc ∷ [])
