-- What an instruction begins, and what one does that ends a statement.
use Rattle.std.specs.Prelude.{◌≡◌, ℕ, ◌≤◌, Bool, true, false, not, List, [], ◌∷◌, Some, None, Option, slice_set}
use Rattle.std.specs.List.{slice_get}
use Rattle.lang.specs.Base.{◌>>=◌, when, Word}
use Rattle.lang.specs.Code.{code_bool}
use Rattle.lang.specs.Instr as instr
use Rattle.lang.specs.Instr.{Instr}
use Rattle.lang.specs.Meaning.{State, values_of, write, scalar, holds}
use Rattle.lang.specs.Syntax.{BoolExpr}
use Rattle.lang.specs.declared.program.Program.{Program}
use Rattle.walk.specs.Walking.{rest, word}
use Rattle.eval.specs.Kinds.{operand}
use Rattle.eval.specs.Ops.{Op, empty, code_ops, nesting, ops_nesting, apply_all}
use Rattle.eval.specs.Stacking.{top, under}
use Rattle.eval.specs.declared.stacks.Stacks.{Stacks}
use Rattle.exec.specs.Activating.{now_state, old_state, Stays}
use Rattle.exec.specs.declared.activation.Activation.{Activation}
use Rattle.exec.specs.declared.next.Next.{Next}
use Rattle.exec.specs.declared.next.Next.TheVariants.{Simple, If, While, Call, Havoc, Nothing}
use Rattle.exec.specs.declared.stop.Stop.{Stop}
use Rattle.exec.specs.declared.stop.Stop.TheVariants.{Memory, Failed, Late}

pub data Deed : Type 0 where
  -- an expression, and what is done with it
  works : Deed
  tests : Deed
  repeats : Deed
  calls : Word → Deed
  havocs : Word → Deed
  -- statements end
  ends : Deed
  none : Deed

abbrev pub deed : Instr → Deed
deed (instr.num n) = works
deed (instr.var x) = works
deed (instr.old x) = works
deed (instr.binary o) = works
deed (instr.index x) = works
deed (instr.old_index x) = works
deed instr.truth = works
deed (instr.compare o) = works
deed instr.conj = works
deed instr.disj = works
deed instr.implies = works
deed instr.negate = works
deed (instr.all x) = works
deed (instr.bound n) = none
deed (instr.scope n) = none
deed instr.end_all = none
deed (instr.assign x) = none
deed (instr.store x) = none
deed instr.check = none
deed (instr.havoc x) = havocs x
deed (instr.call f) = calls f
deed (instr.arg x) = none
deed instr.end_call = none
deed instr.if = tests
deed (instr.then n) = none
deed (instr.else n) = ends
deed instr.end_if = ends
deed instr.while = repeats
deed (instr.test n) = none
deed (instr.invariant n) = none
deed (instr.measure n) = none
deed (instr.rounds n) = none
deed instr.end_while = ends
deed (instr.proc f) = none
deed (instr.extent n) = none
deed (instr.param x) = none
deed (instr.local x) = none
deed instr.scalar = none
deed (instr.row n) = none
deed (instr.pre n) = none
deed (instr.post n) = none
deed (instr.body n) = none
deed instr.end_proc = ends

abbrev pub shown : Program → Option Next → Deed
shown held None = ends
shown held (Some Simple) = works
shown held (Some If) = tests
shown held (Some While) = repeats
shown held (Some (Call f)) = calls (word held f)
shown held (Some (Havoc x)) = havocs (word held x)
shown held (Some Nothing) = none

pub data Action : Type 0 where
  assigns : Word → Action
  stores : Word → Action
  checks : Action
  rests : Action

abbrev pub action : Instr → Action
action (instr.num n) = rests
action (instr.var x) = rests
action (instr.old x) = rests
action (instr.binary o) = rests
action (instr.index x) = rests
action (instr.old_index x) = rests
action instr.truth = rests
action (instr.compare o) = rests
action instr.conj = rests
action instr.disj = rests
action instr.implies = rests
action instr.negate = rests
action (instr.all x) = rests
action (instr.bound n) = rests
action (instr.scope n) = rests
action instr.end_all = rests
action (instr.assign x) = assigns x
action (instr.store x) = stores x
action instr.check = checks
action (instr.havoc x) = rests
action (instr.call f) = rests
action (instr.arg x) = rests
action instr.end_call = rests
action instr.if = rests
action (instr.then n) = rests
action (instr.else n) = rests
action instr.end_if = rests
action instr.while = rests
action (instr.test n) = rests
action (instr.invariant n) = rests
action (instr.measure n) = rests
action (instr.rounds n) = rests
action instr.end_while = rests
action (instr.proc f) = rests
action (instr.extent n) = rests
action (instr.param x) = rests
action (instr.local x) = rests
action instr.scalar = rests
action (instr.row n) = rests
action (instr.pre n) = rests
action (instr.post n) = rests
action (instr.body n) = rests
action instr.end_proc = rests

-- the state behind an action on the stacks
abbrev pub act_on : Action → Stacks → State → Option State
act_on (assigns x) st s = top st.numbers >>= λ v. scalar s x >>= λ _. Some (write s x (v ∷ []))
act_on (stores x) st s = top (under st.numbers) >>= λ k. top st.numbers >>= λ v. values_of s x >>= λ vs. slice_get vs k >>= λ _. Some (write s x (slice_set vs k v))
act_on checks st s = top st.truths >>= λ b. when b (Some s)
act_on rests st s = None

-- is it no truth, or false?
abbrev pub falsely : Option Bool → Bool
falsely None = true
falsely (Some b) = not b

module _ (held : Program) where
  pub record Acted (a b : Activation) (act : Action) (st : Stacks) : Type 0 where
    pub state : act_on act st (now_state held a) ≡ Some (now_state held b)
    pub stays : Stays a b

  -- Operations from an index on were applied to empty stacks.
  pub record Worked (a : Activation) (from r : ℕ) (st : Stacks) : Type 0 where
    pub is : (os : List Op) (i : Instr) (k : List Instr) → rest held from ≡ code_ops os (i ∷ k) → operand i ≡ false → ops_nesting os ≤ 2 → held.width.0 ≤ 64 → (rest held r ≡ i ∷ k) × (st ≡ apply_all held.width.0 (now_state held a) (old_state held a) os empty)

  -- A condition at an index.
  pub record Tested (a : Activation) (from r : ℕ) (value : Bool) : Type 0 where
    pub is : (b : BoolExpr) (i : Instr) (k : List Instr) → rest held from ≡ code_bool b (i ∷ k) → operand i ≡ false → nesting b ≤ 2 → held.width.0 ≤ 64 → (rest held r ≡ i ∷ k) × (holds held.width.0 (now_state held a) (old_state held a) b ≡ Some value)

  -- It cannot be told.
  pub record Untold (a : Activation) (from : ℕ) : Type 0 where
    pub is : (b : BoolExpr) (i : Instr) (k : List Instr) → rest held from ≡ code_bool b (i ∷ k) → operand i ≡ false → nesting b ≤ 2 → held.width.0 ≤ 64 → holds held.width.0 (now_state held a) (old_state held a) b ≡ None

  abbrev pub Untested : Activation → ℕ → Stop → Type 0
  Untested a from Memory = Unit {0}
  Untested a from (Failed f) = Untold a from
  Untested a from Late = ⊥
