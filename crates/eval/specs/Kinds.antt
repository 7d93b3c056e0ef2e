-- Which instructions begin an operation.
use Rattle.std.specs.Prelude.{ℕ, Bool, true, false, Some, None, Option}
use Rattle.lang.specs.Base.{Word}
use Rattle.lang.specs.Instr as instr
use Rattle.lang.specs.Instr.{Instr}
use Rattle.eval.specs.Ops.{Op, num, var, old, binary, index, old_index, truth, compare, conj, disj, implies, negate}

pub data Kind : Type 0 where
  -- an operation by itself
  plain : Op → Kind
  -- `all`: its name, how far it counts, how long its body is
  counter : Word → Kind
  limit : ℕ → Kind
  length : ℕ → Kind
  -- no operand
  other : Kind

abbrev pub kind : Instr → Kind
kind (instr.num n) = plain (num n)
kind (instr.var x) = plain (var x)
kind (instr.old x) = plain (old x)
kind (instr.binary o) = plain (binary o)
kind (instr.index x) = plain (index x)
kind (instr.old_index x) = plain (old_index x)
kind instr.truth = plain truth
kind (instr.compare o) = plain (compare o)
kind instr.conj = plain conj
kind instr.disj = plain disj
kind instr.implies = plain implies
kind instr.negate = plain negate
kind (instr.all x) = counter x
kind (instr.bound n) = limit n
kind (instr.scope n) = length n
kind instr.end_all = other
kind (instr.assign x) = other
kind (instr.store x) = other
kind instr.check = other
kind (instr.havoc x) = other
kind (instr.call f) = other
kind (instr.arg x) = other
kind instr.end_call = other
kind instr.if = other
kind (instr.then n) = other
kind (instr.else n) = other
kind instr.end_if = other
kind instr.while = other
kind (instr.test n) = other
kind (instr.invariant n) = other
kind (instr.measure n) = other
kind (instr.rounds n) = other
kind instr.end_while = other
kind (instr.proc f) = other
kind (instr.extent n) = other
kind (instr.param x) = other
kind (instr.local x) = other
kind instr.scalar = other
kind (instr.row n) = other
kind (instr.pre n) = other
kind (instr.post n) = other
kind (instr.body n) = other
kind instr.end_proc = other

abbrev pub begins : Kind → Bool
begins (plain op) = true
begins (counter x) = true
begins (limit n) = false
begins (length n) = false
begins other = false

-- does an operation begin with it?
abbrev pub operand : Instr → Bool
operand i = begins (kind i)

abbrev pub counter_name : Kind → Option Word
counter_name (plain op) = None
counter_name (counter x) = Some x
counter_name (limit n) = None
counter_name (length n) = None
counter_name other = None

abbrev pub limit_of : Kind → ℕ
limit_of (plain op) = 0
limit_of (counter x) = 0
limit_of (limit n) = n
limit_of (length n) = 0
limit_of other = 0
