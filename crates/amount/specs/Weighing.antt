-- How much there is to show, as code is gone through: what each instruction adds, and how often it counts where it stands.
use Rattle.std.specs.Prelude.{◌≡◌, ℕ, ◌+◌, ◌-◌, ◌*◌, ◌^◌, min, true, cond, List, [], ◌∷◌}
use Rattle.lang.specs.Amount.{size_expr, size_bool, size_procs, amount}
use Rattle.lang.specs.Base.{maybe, all_of, Word}
use Rattle.lang.specs.Code.{code_procs}
use Rattle.lang.specs.Instr as instr
use Rattle.lang.specs.Instr.{Instr}
use Rattle.walk.specs.Roles.{role, ends}
use Rattle.lang.specs.Soundness.{find_proc, sound_proc}
use Rattle.lang.specs.Syntax.{Proc, Program}
use Rattle.amount.specs.declared.factors.Factors.{Factors}

pub data Load : Type 0 where
  -- so much, as often as counts here
  counts : ℕ → Load
  -- `all`: what is inside counts so many times more, until it ends
  times : ℕ → Load
  back : Load
  -- in a statement: so much once, and the second as often as the names are much
  adds : ℕ → ℕ → Load
  -- the same, and how often what follows counts
  sets : ℕ → ℕ → ℕ → Load
  measures : Load
  calls : Word → Load

abbrev pub load : Instr → Load
load (instr.num n) = counts 1
load (instr.var x) = counts 1
load (instr.old x) = counts 1
load (instr.binary o) = counts 1
load (instr.index x) = counts 16
load (instr.old_index x) = counts 16
load instr.truth = counts 1
load (instr.compare o) = counts 1
load instr.conj = counts 1
load instr.disj = counts 1
load instr.implies = counts 1
load instr.negate = counts 1
load (instr.all x) = counts 1
load (instr.bound n) = times n
load (instr.scope n) = counts 0
load instr.end_all = back
load (instr.assign x) = adds 2 0
load (instr.store x) = adds 32 0
load instr.check = adds 2 0
load (instr.havoc x) = adds 1 1
load (instr.call f) = calls f
load (instr.arg x) = counts 0
load instr.end_call = counts 0
load instr.if = sets 2 2 2
load (instr.then n) = sets 0 0 1
load (instr.else n) = counts 0
load instr.end_if = counts 0
load instr.while = adds 4 2
load (instr.test n) = sets 0 0 2
load (instr.invariant n) = sets 0 0 3
load (instr.measure n) = measures
load (instr.rounds n) = sets 0 0 1
load instr.end_while = counts 0
load (instr.proc f) = counts 0
load (instr.extent n) = counts 0
load (instr.param x) = counts 0
load (instr.local x) = counts 0
load instr.scalar = counts 0
load (instr.row n) = counts 0
load (instr.pre n) = counts 0
load (instr.post n) = counts 0
load (instr.body n) = counts 0
load instr.end_proc = counts 0

abbrev pub most : ℕ
most = 2 ^ 64 - 1

abbrev pub level : ℕ → Factors
level n = record { now = n; outer = n; outermost = n }

-- how often counts what stands at an instruction and behind it; m: how often a measure does
abbrev pub turned : ℕ → Factors → Load → Factors
turned m s (counts c) = s
turned m s (times n) = record { now = min (s.now * n) most; outer = s.now; outermost = s.outer }
turned m s back = record { now = s.outer; outer = s.outermost; outermost = s.outermost }
turned m s (adds a b) = s
turned m s (sets a b c) = level c
turned m s measures = level m
turned m s (calls f) = s

abbrev pub counted : Load → ℕ
counted (counts c) = c
counted (times n) = 1
counted back = 0
counted (adds a b) = 0
counted (sets a b c) = 0
counted measures = 0
counted (calls f) = 0

-- n: how much the names of the procedure are
abbrev pub added : ℕ → Load → ℕ
added n (counts c) = 0
added n (times m) = 0
added n back = 0
added n (adds a b) = a + b * n
added n (sets a b c) = a + b * n
added n measures = 0
added n (calls f) = 0

-- g: how much a call is
abbrev pub called : (Word → ℕ) → Load → ℕ
called g (counts c) = 0
called g (times m) = 0
called g back = 0
called g (adds a b) = 0
called g (sets a b c) = 0
called g measures = 0
called g (calls f) = g f

unfoldable pub weighed : (Word → ℕ) → ℕ → ℕ → Factors → List Instr → ℕ
weighed g n m s [] = 0
weighed g n m s (i ∷ k) = cond (ends (role i)) 0 (((turned m s (load i)).now * counted (load i) + added n (load i)) + (called g (load i) + weighed g n m (turned m s (load i)) k))

-- a call of a procedure of that name
abbrev pub call_size : Program → ℕ → Word → ℕ
call_size p n f = maybe (find_proc p.procs f) 1 λ q. 4 + (2 * n + (size_bool q.pre + (size_bool q.post + 2 * size_expr q.measure)))

-- where no call stands
abbrev pub no_calls : Word → ℕ
no_calls f = 0

-- Procedures that are still to be weighed, each sound, and what has been weighed of all.
pub record Weighs (p : Program) (k : List Instr) (total : ℕ) : Type 0 where
  pub procs : List Proc
  pub code : k ≡ code_procs procs []
  pub sound : all_of (sound_proc p) procs ≡ true
  pub so_far : min (total + size_procs p procs) most ≡ min (amount p) most
