-- Which program a program in lent words is.
use Rattle.std.specs.Prelude.{◌≡◌, List, [], map}
use Rattle.lent.specs.Views.{kept}
use Rattle.lang.specs.Code.{code_procs}
use Rattle.lang.specs.Instr.{Instr, instr}
use Rattle.lang.specs.Layout.{node}
use Rattle.lang.specs.Syntax as syntax
use Rattle.lang.specs.declared.program.Program.{Program}

abbrev pub code_of : Program → List Instr
code_of held = map (instr held.text.now) (kept node held.code)

pub record Holds (held : Program) (p : syntax.Program) : Type 0 where
  pub width : held.width.0 ≡ p.width
  pub code : code_of held ≡ code_procs p.procs []
