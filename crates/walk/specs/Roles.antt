-- What the instructions of a program's code are there for.
use Rattle.std.specs.Prelude.{ℕ, Bool, true, false, Some, None, Option}
use Rattle.lang.specs.Base.{Word}
use Rattle.lang.specs.Instr as instr
use Rattle.lang.specs.Instr.{Instr}

-- what a name is used as: a number or a row, now or at the procedure's beginning, or whatever it is
pub data Use : Type 0 where
  number : Use
  row : Use
  old_number : Use
  old_row : Use
  whole : Use

pub data Role : Type 0 where
  uses : Use → Word → Role
  -- `all`: its name, how far it counts, its end
  counter : Word → Role
  limit : ℕ → Role
  counted : Role
  calls : Word → Role
  passes : Word → Role
  -- a declared name, and its size behind it
  declares : Word → Role
  sized : ℕ → Role
  -- a procedure's name
  begins : Word → Role
  -- how long a procedure is, or a part of its head
  part : ℕ → Role
  -- where a head or a body ends
  leaves : Role
  plain : Role

abbrev pub role : Instr → Role
role (instr.num n) = plain
role (instr.var x) = uses number x
role (instr.old x) = uses old_number x
role (instr.binary o) = plain
role (instr.index x) = uses row x
role (instr.old_index x) = uses old_row x
role instr.truth = plain
role (instr.compare o) = plain
role instr.conj = plain
role instr.disj = plain
role instr.implies = plain
role instr.negate = plain
role (instr.all x) = counter x
role (instr.bound n) = limit n
role (instr.scope n) = plain
role instr.end_all = counted
role (instr.assign x) = uses number x
role (instr.store x) = uses row x
role instr.check = plain
role (instr.havoc x) = uses whole x
role (instr.call f) = calls f
role (instr.arg x) = passes x
role instr.end_call = plain
role instr.if = plain
role (instr.then n) = plain
role (instr.else n) = plain
role instr.end_if = plain
role instr.while = plain
role (instr.test n) = plain
role (instr.invariant n) = plain
role (instr.measure n) = part n
role (instr.rounds n) = plain
role instr.end_while = plain
role (instr.proc f) = begins f
role (instr.extent n) = part n
role (instr.param x) = declares x
role (instr.local x) = declares x
role instr.scalar = sized 0
role (instr.row n) = sized n
role (instr.pre n) = part n
role (instr.post n) = part n
role (instr.body n) = leaves
role instr.end_proc = leaves

abbrev pub declared_name : Role → Option Word
declared_name (uses u x) = None
declared_name (counter x) = None
declared_name (limit n) = None
declared_name counted = None
declared_name (calls f) = None
declared_name (passes x) = None
declared_name (declares x) = Some x
declared_name (sized n) = None
declared_name (begins f) = None
declared_name (part n) = None
declared_name leaves = None
declared_name plain = None

abbrev pub declared_size : Role → Option ℕ
declared_size (uses u x) = None
declared_size (counter x) = None
declared_size (limit n) = None
declared_size counted = None
declared_size (calls f) = None
declared_size (passes x) = None
declared_size (declares x) = None
declared_size (sized n) = Some n
declared_size (begins f) = None
declared_size (part n) = None
declared_size leaves = None
declared_size plain = None

abbrev pub passed_name : Role → Option Word
passed_name (uses u x) = None
passed_name (counter x) = None
passed_name (limit n) = None
passed_name counted = None
passed_name (calls f) = None
passed_name (passes x) = Some x
passed_name (declares x) = None
passed_name (sized n) = None
passed_name (begins f) = None
passed_name (part n) = None
passed_name leaves = None
passed_name plain = None

abbrev pub begun_name : Role → Option Word
begun_name (uses u x) = None
begun_name (counter x) = None
begun_name (limit n) = None
begun_name counted = None
begun_name (calls f) = None
begun_name (passes x) = None
begun_name (declares x) = None
begun_name (sized n) = None
begun_name (begins f) = Some f
begun_name (part n) = None
begun_name leaves = None
begun_name plain = None

-- a head ends where locals or the body begin, and a body at the procedure's end
abbrev pub ends : Role → Bool
ends (uses u x) = false
ends (counter x) = false
ends (limit n) = false
ends counted = false
ends (calls f) = false
ends (passes x) = false
ends (declares x) = true
ends (sized n) = false
ends (begins f) = false
ends (part n) = false
ends leaves = true
ends plain = false
