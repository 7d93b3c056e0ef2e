-- Parts of a program whose code has its length in front.
use Rattle.std.specs.Prelude.{ℕ, ◌+◌, ◌-◌, List, [], ◌∷◌, length}
use Rattle.lang.specs.Code.{code_expr, code_bool}
use Rattle.lang.specs.Instr as instr
use Rattle.lang.specs.Instr.{Instr}
use Rattle.lang.specs.Syntax.{Expr, BoolExpr}
use Rattle.parse.specs.Reading.{Snap, patched}
use Rattle.parse.specs.declared.open.Kind.TheVariants.{Then, Else, Do}
use Rattle.parse.specs.declared.parts.Header.{Header}
use Rattle.parse.specs.declared.parts.Header.TheVariants as header

abbrev pub header_instr : Header → ℕ → Instr
header_instr header.Pre n = instr.pre n
header_instr header.Post n = instr.post n
header_instr header.Test n = instr.test n
header_instr header.Invariant n = instr.invariant n
header_instr header.Measure n = instr.measure n
header_instr header.Scope n = instr.scope n
header_instr header.Extent n = instr.extent n
header_instr header.Body n = instr.body n
header_instr (header.Block Then) n = instr.then n
header_instr (header.Block Else) n = instr.else n
header_instr (header.Block Do) n = instr.rounds n

-- where the length of what is behind a header has been written
abbrev pub sealed : Header → ℕ → Snap → Snap
sealed h at s = patched at (header_instr h (length s.code - (at + 1))) s

abbrev pub part_code : Header → BoolExpr → List Instr
part_code h b = header_instr h (length (code_bool b [])) ∷ code_bool b []

abbrev pub measure_code : Expr → List Instr
measure_code e = instr.measure (length (code_expr e [])) ∷ code_expr e []
