-- How long the parts of statements, formulas and procedures are.
use Rattle.std.specs.Prelude.{ℕ}
use Rattle.lang.specs.Instr as instr
use Rattle.lang.specs.Instr.{Instr}

-- how many instructions the part behind an instruction has
abbrev pub span : Instr → ℕ
span (instr.num n) = 0
span (instr.var x) = 0
span (instr.old x) = 0
span (instr.binary o) = 0
span (instr.index x) = 0
span (instr.old_index x) = 0
span instr.truth = 0
span (instr.compare o) = 0
span instr.conj = 0
span instr.disj = 0
span instr.implies = 0
span instr.negate = 0
span (instr.all x) = 0
span (instr.bound n) = 0
span (instr.scope n) = n
span instr.end_all = 0
span (instr.assign x) = 0
span (instr.store x) = 0
span instr.check = 0
span (instr.havoc x) = 0
span (instr.call f) = 0
span (instr.arg x) = 0
span instr.end_call = 0
span instr.if = 0
span (instr.then n) = n
span (instr.else n) = n
span instr.end_if = 0
span instr.while = 0
span (instr.test n) = n
span (instr.invariant n) = n
span (instr.measure n) = n
span (instr.rounds n) = n
span instr.end_while = 0
span (instr.proc f) = 0
span (instr.extent n) = n
span (instr.param x) = 0
span (instr.local x) = 0
span instr.scalar = 0
span (instr.row n) = 0
span (instr.pre n) = n
span (instr.post n) = n
span (instr.body n) = n
span instr.end_proc = 0
