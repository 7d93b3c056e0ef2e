-- The names that a call hands over.
use Rattle.std.proofs.Common.{◌≡◌, false, List, [], ◌∷◌, ◌++◌, None, refl, ap, ◌∙◌}
use Rattle.lang.specs.Base.{Word}
use Rattle.lang.specs.Code.{code_args}
use Rattle.lang.specs.Grammar.{starts}
use Rattle.lang.specs.Instr as instr
use Rattle.lang.specs.Instr.{Instr}
use Rattle.lang.specs.declared.token.Fixed.TheVariants.{RightParen}
use Rattle.parse.specs.Listed.{codes}
use Rattle.parse.specs.Reading.{Snap, Read}
use Rattle.parse.specs.Unbounded.{names∞, maybe_names∞}

abbrev pub arg_code : Word → List Instr → List Instr
arg_code x k = instr.arg x ∷ k

args_code : (xs : List Word) → codes arg_code xs ≡ code_args xs []
args_code [] = refl
args_code (x ∷ xs) = ap (λ k. instr.arg x ∷ k) (args_code xs)

pub some_names : (s t : Snap) → starts RightParen s.ahead ≡ false → Read names∞ (codes arg_code) s t → Read maybe_names∞ (λ xs. code_args xs []) s t
some_names s t b h = record { value = h.value; parsed = rw b h.parsed; code = h.code ∙ ap (λ k. s.code ++ k) (args_code h.value); pending = h.pending }

pub no_names : (s : Snap) → starts RightParen s.ahead ≡ false → names∞ s.ahead ≡ None → maybe_names∞ s.ahead ≡ None
no_names s b h = rw b h
