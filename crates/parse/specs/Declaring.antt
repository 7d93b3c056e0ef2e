-- The code of declarations, by what they declare.
use Rattle.std.specs.Prelude.{cond, List, ◌∷◌, Some, None, ◌==◌}
use Rattle.lang.specs.Base.{Word, ◌>>=◌}
use Rattle.lang.specs.Grammar.{Parsed, starts, onward, expect, a_number}
use Rattle.lang.specs.Tokens.{Token}
use Rattle.lang.specs.declared.token.Fixed.TheVariants as the
use Rattle.lang.specs.Code.{code_size}
use Rattle.lang.specs.Instr as instr
use Rattle.lang.specs.Instr.{Instr}
use Rattle.lang.specs.Syntax.{Decl}
use Rattle.parse.specs.declared.declarations.Role.{Role}
use Rattle.parse.specs.declared.declarations.Role.TheVariants.{Parameter, Local}

abbrev pub role_instr : Role → Word → Instr
role_instr Parameter x = instr.param x
role_instr Local x = instr.local x

abbrev pub role_code : Role → Decl → List Instr → List Instr
role_code role d k = role_instr role d.name ∷ code_size d ∷ k

-- behind the name: a row's length in brackets, which is not 0, or nothing, which declares a number
abbrev pub sized : Word → List Token → Parsed Decl
sized x ts = cond (starts the.LeftBracket ts) (do
  (n, us) ← a_number (onward ts)
  vs ← expect the.RightBracket us
  cond (n == 0) None (Some (record { name = x; size = n }, vs)))
    (Some (record { name = x; size = 0 }, ts))
