-- What a procedure asks for.
use Rattle.std.proofs.Common.{◌≡◌, ℕ, ◌+◌, min, Bool, true, false, List, [], ◌∷◌, ◌++◌, length, Some, None, Option, unwrap_or, sym, refl, subst, ap, ◌∙◌, append-nil}
use Rattle.lang.specs.Code.{code_bool, code_expr, code_locals, code_block}
use Rattle.lang.specs.Holding.{Holds, code_of}
use Rattle.lang.specs.Instr as instr
use Rattle.lang.specs.Instr.{Instr}
use Rattle.lang.specs.Meaning.{holds, true_in, zeros}
use Rattle.lang.specs.Soundness.{sound, sound_proc}
use Rattle.lang.specs.Syntax as syntax
use Rattle.lang.specs.Syntax.{Proc}
use Rattle.lang.specs.declared.program.Program.{Program}
use Rattle.walk.proofs.Outlines.{skipped}
use Rattle.walk.proofs.Walking.{none_at_end}
use Rattle.walk.specs.Walking.{rest, declared, Laid}
use Rattle.walk.specs.declared.procedures.Outline.{Outline}
use Rattle.eval.specs.States.{state_of}
use Rattle.exec.proofs.Apart.{proc_parts}
use Rattle.exec.proofs.Stepping.{told_in, untold_in}
use Rattle.exec.specs.Activating.{now_state, old_state}
use Rattle.exec.specs.Deeds.{Tested, Untested, Untold}
use Rattle.exec.specs.Outcomes.{Checked, Asked}
use Rattle.exec.specs.Passing.{Begun}
use Rattle.exec.specs.declared.activation.Activation.{Activation}
use Rattle.exec.specs.declared.stop.Stop.{Stop}
use Rattle.exec.specs.declared.stop.Stop.TheVariants.{Memory, Failed, Late}

-- not stopped for want of memory
abbrev pub HadMemory : Stop → Type 0
HadMemory Memory = ⊥
HadMemory (Failed f) = Unit {0}
HadMemory Late = Unit {0}

module _ (held : Program) (i : ℕ) (ns : List ℕ) (o : Outline) (ls : ℕ) (a : Activation) (from : ℕ) (checked : Checked held i ns o) (begun : Begun held o.params ls ns a) (no_locals : ls ≡ length (code_of held)) (is_from : from ≡ min (o.head + 1) (length (code_of held))) where
  module _ (p : syntax.Program) (hold : Holds held p) (is_sound : sound p ≡ true) (q : Proc) (k : List Instr) (good : sound_proc p q ≡ true) (laid : Laid held o q k) where
    old_of : old_state held a ≡ state_of q.params ns
    old_of = begun.old_is ∙ ap (λ ds. state_of ds ns) laid.params

    now_of : now_state held a ≡ state_of q.params ns
    now_of = begun.now_is ∙ ap (λ ds. state_of ds ns ++ zeros (declared (rest held ls))) laid.params ∙ ap (λ ds. state_of q.params ns ++ zeros ds) (none_at_end held ls no_locals) ∙ append-nil (state_of q.params ns)

    asked_code : rest held from ≡ code_bool q.pre (instr.post (length (code_bool q.post [])) ∷ code_bool q.post (instr.measure (length (code_expr q.measure [])) ∷ code_expr q.measure (code_locals q.locals (instr.body (length (code_block q.body [])) ∷ code_block q.body (instr.end_proc ∷ k)))))
    asked_code = skipped (code_of held) o.head from _ laid.head 1 is_from

    asked_by : (x : Option Bool) → holds p.width (now_state held a) (old_state held a) q.pre ≡ x → unwrap_or x false ≡ true_in p.width (state_of q.params ns) (state_of q.params ns) q.pre
    asked_by x e = ap (λ y. unwrap_or y false) (sym e ∙ ap (λ s. holds p.width s (old_state held a) q.pre) now_of ∙ ap (λ s. holds p.width (state_of q.params ns) s q.pre) old_of)

  pub asked_told : (till : ℕ) (value : Bool) → Tested a.program.now a from till value → Asked held i ns value
  asked_told till value told =
      let P : Program → Type 0 = λ h. Tested h a from till value in
      let tested = subst P begun.program_is told in
      record {
        is = λ p hold is_sound q k good here.
            let laid = checked.laid q k here in
            asked_by p hold is_sound q k good laid (Some value) (told_in held p hold is_sound a q.params q.params from till value q.pre _ _ tested (asked_code p hold is_sound q k good laid) refl (proc_parts p q good).pre).1;
      }

  asked_untold : Untold held a from → Asked held i ns false
  asked_untold untold =
      record {
        is = λ p hold is_sound q k good here.
            let laid = checked.laid q k here in
            asked_by p hold is_sound q k good laid None (untold_in held p hold is_sound a q.params q.params from q.pre _ _ untold (asked_code p hold is_sound q k good laid) refl (proc_parts p q good).pre);
      }

  -- a condition that stops for another reason than want of memory
  pub asked_stopped : (s t : Stop) → s ≡ t → HadMemory t → Untested a.program.now a from s → Asked held i ns false
  asked_stopped Memory t e had u = absurd (subst HadMemory (sym e) had)
  asked_stopped (Failed f) t e had u = let P : Program → Type 0 = λ h. Untold h a from in asked_untold (subst P begun.program_is u)
  asked_stopped Late t e had u = absurd u
