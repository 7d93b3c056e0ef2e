-- Conditions, by the operations on the stacks.
use Rattle.std.proofs.Common.{◌≡◌, ℕ, ◌≤◌, Bool, false, List, [], ◌∷◌, Some, None, sym, ap, ◌∙◌, arith}
use Rattle.lang.specs.Code.{code_bool}
use Rattle.lang.specs.Instr.{Instr}
use Rattle.lang.specs.Meaning.{holds}
use Rattle.lang.specs.Syntax.{BoolExpr}
use Rattle.lang.specs.declared.program.Program.{Program}
use Rattle.walk.specs.Walking.{rest}
use Rattle.eval.proofs.Ops.{code_ops_bool, apply_bool, nesting_bool}
use Rattle.eval.specs.Kinds.{operand}
use Rattle.eval.specs.Ops.{empty, code_ops, ops_bool, nesting, ops_nesting, apply_all}
use Rattle.eval.specs.Stacking.{top}
use Rattle.eval.specs.declared.stacks.Stacks.{Stacks}
use Rattle.exec.specs.Activating.{now_state, old_state}
use Rattle.exec.specs.Deeds.{Worked, Tested, Untold}
use Rattle.exec.specs.declared.activation.Activation.{Activation}

module _ (held : Program) (a : Activation) (from r : ℕ) (st : Stacks) (worked : Worked held a from r st) where
  reached : (b : BoolExpr) (i : Instr) (k : List Instr) → rest held from ≡ code_bool b (i ∷ k) → operand i ≡ false → nesting b ≤ 2 → held.width.0 ≤ 64 → (rest held r ≡ i ∷ k) × (holds held.width.0 (now_state held a) (old_state held a) b ≡ top st.truths)
  unfolding code_ops ops_nesting apply_all
  reached b i k code stops deep wide =
      let w = held.width.0 in
      let got = worked.is (ops_bool b []) i k (code ∙ sym (code_ops_bool b [] (i ∷ k))) stops (omega (arith, nesting_bool b [])) wide in
      let on_stack : st ≡ apply_all w (now_state held a) (old_state held a) [] _ = got.1 ∙ apply_bool w (old_state held a) (now_state held a) b [] empty in
      (got.0, sym (ap (λ (s : Stacks). top s.truths) on_stack))

  pub told : (value : Bool) → Some value ≡ top st.truths → Tested held a from r value
  told value e = record { is = λ b i k code stops deep wide. let got = reached b i k code stops deep wide in (got.0, got.1 ∙ sym e) }

  pub untold : None ≡ top st.truths → Untold held a from
  untold e = record { is = λ b i k code stops deep wide. (reached b i k code stops deep wide).1 ∙ sym e }
