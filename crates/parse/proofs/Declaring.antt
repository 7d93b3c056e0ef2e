-- Reading declarations.
use Rattle.std.proofs.Common.{◌≡◌, ℕ, true, false, eqb, List, [], ◌∷◌, ◌++◌, Some, None, sym, refl, ap, ◌∙◌, append_assoc}
use Rattle.lang.specs.Base.{Word}
use Rattle.lang.specs.Code.{code_size, code_params, code_locals}
use Rattle.lang.specs.Grammar.{starts, onward, expect, a_name, a_number, declaration}
use Rattle.lang.specs.Instr as instr
use Rattle.lang.specs.Instr.{scalar, row}
use Rattle.lang.specs.Syntax.{Decl}
use Rattle.lang.specs.Tokens.{Token}
use Rattle.lang.specs.declared.token.Fixed.TheVariants as the
use Rattle.parse.specs.Declaring.{sized, role_instr, role_code}
use Rattle.parse.specs.Listed.{codes}
use Rattle.parse.specs.Reading.{Snap, Read, advanced, emitted}
use Rattle.parse.specs.Unbounded.{declarations∞, parameters∞, local_variables∞}
use Rattle.lang.proofs.Codes.{Front, one_front, then_front}
use Rattle.parse.specs.declared.declarations.Role.{Role}
use Rattle.parse.proofs.Shorter.{Each, none, some, each_bind, each_cond, each_any, each_at}
use Rattle.parse.specs.declared.declarations.Role.TheVariants.{Parameter, Local}

pub sized_number : (s : Snap) (x : Word) → starts the.LeftBracket s.ahead ≡ false → Read (sized x) (λ d. code_size d ∷ []) s (emitted scalar s)
sized_number s x b = record { value = record { name = x; size = 0 }; parsed = rw b; code = refl; pending = refl }

-- in brackets, a length that is not 0
pub sized_row : (s : Snap) (x : Word) (n : ℕ) → starts the.LeftBracket s.ahead ≡ true → a_number (onward s.ahead) ≡ Some (n, onward (onward s.ahead)) → eqb n 0 ≡ false → expect the.RightBracket (onward (onward s.ahead)) ≡ Some (onward (onward (onward s.ahead))) → Read (sized x) (λ d. code_size d ∷ []) s (advanced (emitted (row n) (advanced (advanced s))))
sized_row s x n b m z e = record { value = record { name = x; size = n }; parsed = rw (b, m, e, z); code = rw z; pending = refl }

sized_name : (x : Word) (ts : List Token) → Each (λ p. p.0.name ≡ x) (sized x ts)
sized_name x ts =
    each_cond (starts the.LeftBracket ts)
    (λ _. each_bind (each_any (a_number (onward ts))) λ p _. each_bind (each_any (expect the.RightBracket p.1)) λ vs _. each_cond (eqb p.0 0) (λ _. none) (some refl))
    (some refl)

pub declared : (s u : Snap) (x : Word) (role : Role) → a_name s.ahead ≡ Some (x, onward s.ahead) → Read (sized x) (λ d. code_size d ∷ []) (emitted (role_instr role x) (advanced s)) u → Read declaration (λ d. role_code role d []) s u
unfolding declaration
declared s u x role n h = record {
  value = h.value;
  parsed = rw n h.parsed;
  code = h.code ∙ append_assoc s.code (role_instr role x ∷ []) (code_size h.value ∷ []) ∙ ap (λ y. s.code ++ role_instr role y ∷ code_size h.value ∷ []) (sym (each_at (sized_name x (onward s.ahead)) h.parsed));
  pending = h.pending;
}

pub undeclared : (s : Snap) (x : Word) → a_name s.ahead ≡ Some (x, onward s.ahead) → sized x (onward s.ahead) ≡ None → declaration s.ahead ≡ None
unfolding declaration
undeclared s x n h = rw n h

pub unnamed : (s : Snap) → a_name s.ahead ≡ None → declaration s.ahead ≡ None
unfolding declaration
unnamed s n = rw n

pub role_front : (role : Role) (d : Decl) → Front (role_code role d)
role_front role d = then_front (one_front (role_instr role d.name)) (one_front (code_size d))

pub params_code : (ds : List Decl) → codes (role_code Parameter) ds ≡ code_params ds []
params_code [] = refl
params_code (d ∷ ds) = ap (λ k. instr.param d.name ∷ code_size d ∷ k) (params_code ds)

pub locals_code : (ds : List Decl) → codes (role_code Local) ds ≡ code_locals ds []
locals_code [] = refl
locals_code (d ∷ ds) = ap (λ k. instr.local d.name ∷ code_size d ∷ k) (locals_code ds)

pub some_parameters : (s u : Snap) → starts the.RightParen s.ahead ≡ false → Read (declarations∞ the.RightParen) (codes (role_code Parameter)) s u → Read parameters∞ (λ ds. code_params ds []) s u
some_parameters s u b h = record { value = h.value; parsed = rw b h.parsed; code = h.code ∙ ap (λ k. s.code ++ k) (params_code h.value); pending = h.pending }

pub some_locals : (s u : Snap) → starts the.Var s.ahead ≡ true → Read (declarations∞ the.Semicolon) (codes (role_code Local)) (advanced s) u → Read local_variables∞ (λ ds. code_locals ds []) s u
some_locals s u b h = record { value = h.value; parsed = rw b h.parsed; code = h.code ∙ ap (λ k. s.code ++ k) (locals_code h.value); pending = h.pending }
