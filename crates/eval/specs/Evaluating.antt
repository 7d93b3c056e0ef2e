-- Evaluation as a program's code is gone through, from an index on.
use Rattle.std.specs.Prelude.{◌≡◌, ℕ, suc, ◌+◌, ◌^◌, ◌<◌, ◌≤◌, Bool, true, false, List, ◌∷◌, length, Option}
use Rattle.lang.specs.Base.{Word}
use Rattle.lang.specs.Code.{code_bool}
use Rattle.lang.specs.Holding.{code_of}
use Rattle.lang.specs.Instr as instr
use Rattle.lang.specs.Instr.{Instr}
use Rattle.lang.specs.Meaning.{bind, all_below, holds}
use Rattle.lang.specs.Syntax.{BoolExpr}
use Rattle.lang.specs.declared.code.Node.{Node}
use Rattle.lang.specs.declared.program.Program.{Program}
use Rattle.walk.specs.Walking.{rest}
use Rattle.eval.specs.Kinds.{kind, plain, operand}
use Rattle.eval.specs.Naming.{depth, state_now, state_old, inside}
use Rattle.eval.specs.Ops.{Op, code_all, code_op, code_ops, op_nesting, ops_nesting, nesting, apply, apply_all}
use Rattle.eval.specs.declared.names.Names.{Names}
use Rattle.eval.specs.declared.scope.Scope.{Scope}
use Rattle.eval.specs.declared.stacks.Stacks.{Stacks}

-- an instruction at an index with which an operation begins
pub record OperandAt (held : Program) (i : ℕ) (n : Node) : Type 0 where
  pub here : rest held i ≡ instr.instr held.text.now n ∷ rest held (i + 1)
  pub begins : operand (instr.instr held.text.now n) ≡ true
  pub within : i < length (code_of held)
  pub room : i + 1 < 2 ^ 64

-- The operation of an instruction was applied.
pub record Applied (s : Scope) (i : Instr) (before after : Stacks) : Type 0 where
  pub is : (op : Op) → kind i ≡ plain op → s.names.program.now.width.0 ≤ 64 → after ≡ apply s.names.program.now.width.0 (inside s) (state_old s.names) op before

-- Operations were applied, and what stands behind them is k.
pub record Reached (s : Scope) (os : List Op) (k : List Instr) (r : ℕ) (before after : Stacks) : Type 0 where
  pub here : rest s.names.program.now r ≡ k
  pub stacks : after ≡ apply_all s.names.program.now.width.0 (inside s) (state_old s.names) os before

-- The operations up to the first instruction that begins none.
pub record Walked (s : Scope) (from r : ℕ) (before after : Stacks) : Type 0 where
  pub is : (os : List Op) (i : Instr) (k : List Instr) → rest s.names.program.now from ≡ code_ops os (i ∷ k) → operand i ≡ false → depth s + ops_nesting os ≤ 2 → s.names.program.now.width.0 ≤ 64 → Reached s os (i ∷ k) r before after

-- One operation, whose first instruction stands in front of an index.
pub record Stepped (s : Scope) (i : Instr) (next r : ℕ) (before after : Stacks) : Type 0 where
  pub onward : next ≤ length (code_of s.names.program.now) → next ≤ r
  pub is : (op : Op) (k : List Instr) → i ∷ rest s.names.program.now next ≡ code_op op k → depth s + op_nesting op ≤ 2 → s.names.program.now.width.0 ≤ 64 → (rest s.names.program.now r ≡ k) × (after ≡ apply s.names.program.now.width.0 (inside s) (state_old s.names) op before)

-- What an `all` says, whose body stands at an index.
pub record Counted (s : Scope) (x : Word) (many body : ℕ) (value : Option Bool) (before after : Stacks) : Type 0 where
  pub is : (a : BoolExpr) (k : List Instr) → rest s.names.program.now body ≡ code_bool a (instr.end_all ∷ k) → depth s + suc (nesting a) ≤ 2 → s.names.program.now.width.0 ≤ 64 → (value ≡ all_below many (λ v. holds s.names.program.now.width.0 (bind (inside s) x v) (state_old s.names) a)) × (after ≡ before)

-- Where the parts of an `all` end whose limit stands at an index.
pub record AllEnd (held : Program) (next r : ℕ) : Type 0 where
  pub onward : next ≤ length (code_of held) → next ≤ r
  pub is : (m : ℕ) (a : BoolExpr) (k : List Instr) → rest held next ≡ code_all m a k → rest held r ≡ k

-- The operations from an index on, up to the first instruction that begins none.
pub record Evaluated (n : Names) (from r : ℕ) (before after : Stacks) : Type 0 where
  pub is : (os : List Op) (i : Instr) (k : List Instr) → rest n.program.now from ≡ code_ops os (i ∷ k) → operand i ≡ false → ops_nesting os ≤ 2 → n.program.now.width.0 ≤ 64 → (rest n.program.now r ≡ i ∷ k) × (after ≡ apply_all n.program.now.width.0 (state_now n) (state_old n) os before)
