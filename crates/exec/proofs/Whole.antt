-- Whole runs.
use Rattle.std.proofs.Common.{◌≡◌, ℕ, suc, true, List, [], ◌++◌, length, drop, Some, vec_items, Vec, sym, refl, ap, ◌∙◌}
use Rattle.std.specs.declared.alloc.Global.{Global}
use Rattle.lang.specs.Holding.{Holds}
use Rattle.lang.specs.Instr as instr
use Rattle.lang.specs.Instr.{Instr}
use Rattle.lang.specs.Meaning as meaning
use Rattle.lang.specs.Meaning.{State, Run, zeros, exec_block, run_proc}
use Rattle.lang.specs.Soundness.{sound, sound_proc}
use Rattle.lang.specs.Syntax as syntax
use Rattle.lang.specs.Syntax.{Proc}
use Rattle.lang.specs.declared.program.Program.{Program}
use Rattle.walk.specs.Walking.{rest, declared, Laid}
use Rattle.walk.specs.declared.procedures.Outline.{Outline}
use Rattle.eval.specs.States.{state_of}
use Rattle.exec.proofs.Apart.{proc_parts}
use Rattle.exec.specs.Activating.{names, params, now_state, old_state}
use Rattle.exec.specs.Framing.{stack, block, bottom}
use Rattle.exec.specs.Machine.{resume}
use Rattle.exec.specs.Outcomes.{Below, Checked, Ran, Says, begins_with, Final, Finally}
use Rattle.exec.specs.Running.{at_end_proc, none, Stage, Comes, in_block}
use Rattle.exec.specs.Starting.{Started}
use Rattle.exec.specs.declared.frame.Frame.{Frame}
use Rattle.exec.specs.declared.outcome.Ended.{Ended as TheEnded}
use Rattle.exec.specs.declared.outcome.Outcome.{Outcome}
use Rattle.exec.specs.declared.outcome.Outcome.TheVariants.{Ended, Failed, Late}

pub stack_none : (v : Vec Frame Global) → vec_items v ≡ [] → stack v ≡ []
unfolding stack
stack_none v e = rw e

-- the first step
begins : (p : syntax.Program) (q : Proc) (u w : ℕ) (o s t : State) (cs ds : List ℕ) → u ≡ suc w → o ≡ s → t ≡ s ++ zeros q.locals → ds ≡ cs → exec_block w p o q.body (record { state = t; choices = ds }) ≡ run_proc u p q (record { state = s; choices = cs })
unfolding run_proc
begins p q u w o s t cs ds is e f g = rw (is, e, f, g) refl

module _ (held : Program) (i : ℕ) (ns cs : List ℕ) (u w : ℕ) (is_u : u ≡ suc w) (o : Outline) (m : Stage) (ready : Started held o ns cs m) where
  module _ (p : syntax.Program) (q : Proc) (k : List Instr) (good : sound_proc p q ≡ true) (laid : Laid held o q k) where
    params_of : params held m.running ≡ q.params
    params_of = ap (λ n. declared (rest held n)) ready.begun.params_at ∙ laid.params

    locals_of : declared (rest held m.running.locals) ≡ q.locals
    locals_of = ap (λ n. declared (rest held n)) ready.begun.locals_at ∙ laid.locals

    names_of : names held m.running ≡ q.params ++ q.locals
    names_of = rw (params_of, locals_of) refl

    old_of : old_state held m.running ≡ state_of q.params ns
    old_of = ready.begun.old_is ∙ ap (λ ds. state_of ds ns) laid.params

    now_of : now_state held m.running ≡ state_of q.params ns ++ zeros q.locals
    now_of = ready.begun.now_is ∙ ap (λ ds. state_of ds ns ++ zeros (declared (rest held o.locals))) laid.params ∙ ap (λ ds. state_of q.params ns ++ zeros ds) laid.locals

    pub begun_comes : Comes held p m (Some (block o.body w)) (run_proc u p q (begins_with held i ns q cs))
    unfolding resume
    begun_comes =
        let parts = proc_parts p q good in
        in_block [] q.body
        (record { program_is = ready.begun.program_is; apart = rw (names_of, params_of) parts.apart; stands = rw ready.no_frames none })
        (record { stop = instr.end_proc; behind = k; code = laid.body; ends = at_end_proc; is_sound = rw (names_of, params_of) parts.body })
        (begins p q u w (old_state held m.running) (state_of q.params ns) (now_state held m.running) cs m.choices is_u old_of now_of ready.all_left)

    -- at the end the same procedure runs
    last_names : (last : Stage) → (last.running.params, last.running.locals) ≡ bottom m.running m.frames → names held last.running ≡ q.params ++ q.locals
    unfolding bottom
    last_names last e =
        let same : (last.running.params, last.running.locals) ≡ (m.running.params, m.running.locals) = e ∙ ap (bottom m.running) ready.no_frames in
        ap (λ (x : ℕ × ℕ). declared (rest held x.0) ++ declared (rest held x.1)) same ∙ names_of

    ended_says : (hold : Holds held p) (is_sound : sound p ≡ true) (e : TheEnded) → Final m (Some (block o.body w)) e → Says held i ns p q cs u (Ended e)
    ended_says hold is_sound e final =
        let last = final.last in
        let comes = final.finished.comes held p hold is_sound _ begun_comes in
        let left : last.choices ≡ drop e.taken cs = sym final.taken ∙ ap (drop e.taken) ready.all_left in
        comes ∙ ap (λ s. meaning.ok (record { state = s; choices = last.choices })) (ap (λ ds. state_of ds (vec_items last.running.numbers)) (last_names last final.finished.same_bottom) ∙ ap (state_of (q.params ++ q.locals)) (sym final.numbers)) ∙ ap (λ ds. meaning.ok (record { state = state_of (q.params ++ q.locals) (vec_items e.numbers); choices = ds })) left

    says : (hold : Holds held p) (is_sound : sound p ≡ true) (r : Outcome) → Finally m (Some (block o.body w)) r → Says held i ns p q cs u r
    says hold is_sound (Ended e) h = ended_says hold is_sound e h
    says hold is_sound (Failed f) h = h.comes held p hold is_sound _ begun_comes
    says hold is_sound Late h = h.comes held p hold is_sound _ begun_comes

  pub ran : Checked held i ns o → (r : Outcome) → Finally m (Some (block o.body w)) r → Ran held i ns cs u r
  ran checked r h = record { below = checked.below; is = λ p hold is_sound q k good here. says p q k good (checked.laid q k here) hold is_sound r h }

pub ran_late : (held : Program) (i : ℕ) (ns cs : List ℕ) (u : ℕ) → u ≡ 0 → Below held.width.0 ns (length ns) → Ran held i ns cs u Late
unfolding run_proc
ran_late held i ns cs u z below = record { below = below; is = λ p hold is_sound q k good here. rw z refl }
