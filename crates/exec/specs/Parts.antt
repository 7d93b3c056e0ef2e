-- Where the parts of statements stand in the code.
use Rattle.std.specs.Prelude.{◌≡◌, ℕ, List, [], ◌∷◌, length}
use Rattle.lang.specs.Code.{code_expr, code_bool, code_stmt, code_block}
use Rattle.lang.specs.Instr as instr
use Rattle.lang.specs.Instr.{Instr}
use Rattle.lang.specs.Syntax.{Expr, BoolExpr, loop, Block}
use Rattle.lang.specs.declared.program.Program.{Program}
use Rattle.walk.specs.Walking.{rest}
use Rattle.exec.specs.declared.parts.Rounds.{Rounds}
use Rattle.exec.specs.declared.parts.Ways.{Ways}

abbrev pub code_ways : Block → Block → List Instr → List Instr
code_ways c d k = instr.then (length (code_block c [])) ∷ code_block c (instr.else (length (code_block d [])) ∷ code_block d (instr.end_if ∷ k))

-- Both ways of an `if` behind its test, and what comes behind.
pub record BranchLaid (held : Program) (i : ℕ) (w : Ways) : Type 0 where
  pub then_code : (c d : Block) (k : List Instr) → rest held i ≡ code_ways c d k → rest held w.then ≡ code_block c (instr.else (length (code_block d [])) ∷ code_block d (instr.end_if ∷ k))
  pub else_code : (c d : Block) (k : List Instr) → rest held i ≡ code_ways c d k → rest held w.otherwise ≡ code_block d (instr.end_if ∷ k)
  pub behind_code : (c d : Block) (k : List Instr) → rest held i ≡ code_ways c d k → rest held w.behind ≡ k

abbrev pub code_rounds : BoolExpr → Expr → Block → List Instr → List Instr
code_rounds i e c k = instr.invariant (length (code_bool i [])) ∷ code_bool i (instr.measure (length (code_expr e [])) ∷ code_expr e (instr.rounds (length (code_block c [])) ∷ code_block c (instr.end_while ∷ k)))

-- The test and the body of a loop, and what comes behind.
pub record LoopLaid (held : Program) (at : ℕ) (r : Rounds) : Type 0 where
  pub test_code : (b i : BoolExpr) (e : Expr) (c : Block) (k : List Instr) → rest held at ≡ code_stmt (loop b i e c) k → rest held r.test ≡ code_bool b (code_rounds i e c k)
  pub body_code : (b i : BoolExpr) (e : Expr) (c : Block) (k : List Instr) → rest held at ≡ code_stmt (loop b i e c) k → rest held r.body ≡ code_block c (instr.end_while ∷ k)
  pub behind_code : (b i : BoolExpr) (e : Expr) (c : Block) (k : List Instr) → rest held at ≡ code_stmt (loop b i e c) k → rest held r.behind ≡ k
