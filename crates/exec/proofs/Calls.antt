-- Calls, one step on.
use Rattle.std.proofs.Common.{◌≡◌, ℕ, suc, ◌+◌, ◌-◌, ◌<◌, min, true, false, ◌&&◌, List, [], ◌∷◌, ◌++◌, length, drop, Some, None, sym, refl, ap, ◌∙◌, subst, arith}
use Rattle.std.proofs.lemmas.List.{drop-drop}
use Rattle.std.proofs.lemmas.Bool.{and_parts}
use Rattle.lang.specs.Base.{maybe, Word, distinct}
use Rattle.lang.specs.Code.{code_args, code_stmt, code_block}
use Rattle.lang.specs.Holding.{Holds, code_of}
use Rattle.lang.specs.Instr as instr
use Rattle.lang.specs.Instr.{Instr}
use Rattle.lang.specs.Meaning.{State, Run, Outcome, ok, late, pass, pass_back, zeros, exec, exec_block, run_proc}
use Rattle.lang.specs.Soundness.{sound, find_proc, same_sizes, sound_stmt}
use Rattle.lang.specs.Syntax as syntax
use Rattle.lang.specs.Syntax.{call, seq, Proc}
use Rattle.lang.specs.declared.program.Program.{Program}
use Rattle.walk.proofs.Outlines.{skipped}
use Rattle.walk.specs.Walking.{first, rest, passed}
use Rattle.exec.proofs.Acting.{behind_block, first_sound, on_block}
use Rattle.exec.proofs.Apart.{found_sound}
use Rattle.exec.proofs.Resuming.{resume_late, stmt_begun}
use Rattle.exec.proofs.Stepping.{Ahead, a_call, ahead}
use Rattle.exec.specs.Activating.{names, params, now_state, old_state, Among}
use Rattle.exec.specs.Calling.{Ready, Prepared, Unsound}
use Rattle.exec.specs.Deeds.{calls, deed}
use Rattle.exec.specs.Framing.{point, block}
use Rattle.exec.specs.Machine as formal
use Rattle.exec.specs.Machine.{return_to, returned, resume, rest_of}
use Rattle.exec.specs.Passing.{HandedBack}
use Rattle.exec.specs.Running.{at_end_proc, BlockAt, Stands, return_stands, Stage, with_frame, run_of, Behind, Comes, in_block, at_end}
use Rattle.exec.specs.declared.activation.Activation.{Activation}
use Rattle.exec.specs.declared.calling.Called.{Called}
use Rattle.exec.specs.declared.frame.Frame.{Frame}
use Rattle.exec.specs.declared.frame.Frame.TheVariants.{Return}
use Rattle.exec.specs.declared.frame.Point.{Point}
use Rattle.exec.specs.declared.frame.Work.TheVariants.{Block}

-- arguments in code
passed_args : (xs : List Word) (k : List Instr) → passed (code_args xs (instr.end_call ∷ k)) ≡ xs
unfolding passed
passed_args [] k = refl
passed_args (x ∷ xs) k = ap (λ ys. x ∷ ys) (passed_args xs k)

behind_args : (xs : List Word) (k : List Instr) → drop (length xs) (code_args xs k) ≡ k
behind_args [] k = refl
behind_args (x ∷ xs) k = behind_args xs k

-- a call formally
called : (p : syntax.Program) (o : State) (r : Run) (f : Word) (xs : List Word) (u w : ℕ) (q : Proc) (s : State) → u ≡ suc (suc w) → find_proc p.procs f ≡ Some q → pass r.state q.params xs ≡ Some s → exec u p o (call f xs) r ≡ returned r.state q.params xs (exec_block w p s q.body (record { state = s ++ zeros q.locals; choices = r.choices }))
unfolding exec run_proc
called p o r f xs u w q s is found given = rw (is, found, given)

called_late : (p : syntax.Program) (o : State) (r : Run) (f : Word) (xs : List Word) (u : ℕ) (q : Proc) (s : State) → u ≡ 1 → find_proc p.procs f ≡ Some q → pass r.state q.params xs ≡ Some s → exec u p o (call f xs) r ≡ late
unfolding exec run_proc
called_late p o r f xs u q s is found given = rw (is, found, given)

return_begun : (p : syntax.Program) (o o' s : State) (fs : List formal.Frame) (u : ℕ) (ds : List syntax.Decl) (xs : List Word) (ss : syntax.Block) (r : Outcome) → resume p o (rest_of u ss ∷ fs) (returned s ds xs r) ≡ resume p o' (return_to u s o ds xs ss ∷ fs) r
unfolding resume
return_begun p o o' s fs u ds xs ss r = refl

module _ (held : Program) (m : Stage) (p : syntax.Program) (hold : Holds held p) (is_sound : sound p ≡ true) (v : Outcome) (at args u : ℕ) (f : Word) (more : 1 < u) (is_args : args ≡ min (at + 1) (length (code_of held))) where
  module _ (xs : List Word) (ss : syntax.Block) (blk : BlockAt held p (names held m.running) (params held m.running) at (seq (call f xs) ss)) where
    args_code : rest held args ≡ code_args xs (instr.end_call ∷ code_block ss (blk.stop ∷ blk.behind))
    unfolding code_stmt
    args_code = skipped (code_of held) at args _ blk.code 1 is_args

    args_are : passed (rest held args) ≡ xs
    args_are = ap passed args_code ∙ passed_args xs _

    call_sound : maybe (find_proc p.procs f) false (λ q. distinct (passed (rest held args)) && same_sizes (names held m.running) q.params (passed (rest held args))) ≡ true
    unfolding sound_stmt
    call_sound = rw args_are (first_sound held p (names held m.running) (params held m.running) at (call f xs) ss blk)

    behind_code : (behind : ℕ) → behind ≡ min (args + length (passed (rest held args)) + 1) (length (code_of held)) → rest held behind ≡ code_block ss (blk.stop ∷ blk.behind)
    behind_code behind e =
        let n = length xs in
        let there : rest held (args + n) ≡ instr.end_call ∷ code_block ss (blk.stop ∷ blk.behind) = sym (drop-drop n args (code_of held)) ∙ ap (drop n) args_code ∙ behind_args xs _ in
        skipped (code_of held) (args + n) behind _ there 1 (e ∙ ap (λ ys. min (args + length ys + 1) (length (code_of held))) args_are)

  call_unsound_by : {ss : syntax.Block} → Ahead (calls f) ss → Unsound held m.running f args → BlockAt held p (names held m.running) (params held m.running) at ss → ⊥
  call_unsound_by (a_call {xs = xs} {ss = ss}) bad blk = bad.is p hold (call_sound xs ss blk)

  pub call_unsound : deed (first (rest held at)) ≡ calls f → Unsound held m.running f args → Comes held p m (Some (block at u)) v → ⊥
  call_unsound d bad (in_block fs ss bh blk g) = call_unsound_by (ahead blk d) bad blk

  call_late_by : (c : Called) (fs : List formal.Frame) {ss : syntax.Block} → Ahead (calls f) ss → Ready held m.running f args p c → u ≡ 2 → BlockAt held p (names held m.running) (params held m.running) at ss → resume p (old_state held m.running) fs (exec_block u p (old_state held m.running) ss (run_of held m)) ≡ v → v ≡ late
  call_late_by c fs (a_call {xs = xs} {ss = ss}) ready two blk g =
      let o = old_state held m.running in
      let given = ap (λ ys. pass (now_state held m.running) ready.this.params ys) (sym (args_are xs ss blk)) ∙ ready.passes in
      let begun = stmt_begun p o fs (run_of held m) v u (u - 1) (omega arith) (call f xs) ss g in
      sym begun ∙ ap (resume p o (rest_of (u - 1) ss ∷ fs)) (called_late p o (run_of held m) f xs (u - 1) ready.this _ (omega arith) ready.found given) ∙ resume_late p o (rest_of (u - 1) ss ∷ fs)

  pub call_late : (c : Called) → deed (first (rest held at)) ≡ calls f → Prepared held m.running f args c → u ≡ 2 → Comes held p m (Some (block at u)) v → v ≡ late
  call_late c d good two (in_block fs ss bh blk g) = call_late_by c fs (ahead blk d) (good.ready p hold) two blk g

  module _ (fr : List Frame) (behind : ℕ) (c : Called) (program_is : c.callee.program.now ≡ held) (ready : Ready held m.running f args p c) (big : 2 < u) (is_behind : behind ≡ min (args + length (passed (rest held args)) + 1) (length (code_of held))) (pushed : fr ≡ Return m.running args (point behind (u - 1)) ∷ m.frames) where
    call_goes : (fs : List formal.Frame) {ss : syntax.Block} → Ahead (calls f) ss → Behind held p m fs → BlockAt held p (names held m.running) (params held m.running) at ss → resume p (old_state held m.running) fs (exec_block u p (old_state held m.running) ss (run_of held m)) ≡ v → Comes held p (record { running = c.callee; frames = fr; choices = m.choices }) (Some (block c.body (u - 3))) v
    call_goes fs (a_call {xs = xs} {ss = ss}) bh blk g =
        let ds = names held m.running in
        let os = params held m.running in
        let o = old_state held m.running in
        let q = ready.this in
        let good = found_sound p f q is_sound ready.found in
        let all_names : names held c.callee ≡ q.params ++ q.locals = rw (ready.params_are, ready.locals_are) refl in
        let both = and_parts (distinct (passed (rest held args))) (same_sizes ds q.params (passed (rest held args))) (rw ready.found at (call_sound xs ss blk)) in
        let next = behind_block held p ds os at behind (call f xs) ss blk (behind_code xs ss blk behind is_behind) in
        let apart : Among (names held c.callee) (params held c.callee) = rw (all_names, ready.params_are) good.apart in
        let sizes : same_sizes ds (params held c.callee) (passed (rest held args)) ≡ true = rw ready.params_are both.1 in
        let given = ap (λ ys. pass (now_state held m.running) q.params ys) (sym (args_are xs ss blk)) ∙ ready.passes in
        let begun = stmt_begun p o fs (run_of held m) v u (u - 1) (omega arith) (call f xs) ss g in
        let body = exec_block (u - 3) p (old_state held c.callee) q.body (record { state = now_state held c.callee; choices = m.choices }) in
        let start = exec_block (u - 3) p (old_state held c.callee) q.body (record { state = old_state held c.callee ++ zeros q.locals; choices = m.choices }) in
        let done : exec (u - 1) p o (call f xs) (run_of held m) ≡ returned (now_state held m.running) (params held c.callee) (passed (rest held args)) body = called p o (run_of held m) f xs (u - 1) (u - 3) q (old_state held c.callee) (omega arith) ready.found given
        ∙ ap (λ es. returned (now_state held m.running) es xs start) (sym ready.params_are)
        ∙ ap (λ ys. returned (now_state held m.running) (params held c.callee) ys start) (sym (args_are xs ss blk))
        ∙ ap (λ t. returned (now_state held m.running) (params held c.callee) (passed (rest held args)) (exec_block (u - 3) p (old_state held c.callee) q.body (record { state = t; choices = m.choices }))) (sym ready.starts) in
        in_block (return_to (u - 1) (now_state held m.running) o (params held c.callee) (passed (rest held args)) ss ∷ fs) q.body
        (record { program_is = program_is; apart = apart; stands = rw pushed (return_stands bh.program_is bh.apart sizes next bh.stands) })
        (record { stop = instr.end_proc; behind = ready.behind; code = ready.body_code; ends = at_end_proc; is_sound = rw (all_names, ready.params_are) good.body })
        (sym (return_begun p o (old_state held c.callee) (now_state held m.running) fs (u - 1) (params held c.callee) (passed (rest held args)) ss body) ∙ ap (resume p o (rest_of (u - 1) ss ∷ fs)) (sym done) ∙ begun)

  pub called_on : (fr : List Frame) (behind : ℕ) (c : Called) (caller callee : Activation) → deed (first (rest held at)) ≡ calls f → Prepared held m.running f args c → 2 < u → behind ≡ min (args + length (passed (rest held args)) + 1) (length (code_of held)) → caller ≡ m.running → callee ≡ c.callee → fr ≡ Return caller args (point behind (u - 1)) ∷ m.frames → Comes held p m (Some (block at u)) v → Comes held p (record { running = callee; frames = fr; choices = m.choices }) (Some (block c.body (u - 3))) v
  called_on fr behind c caller callee d good big is_behind is_caller is_callee pushed (in_block fs ss bh blk g) =
      let P : Activation → Type 0 = λ a. Comes held p (record { running = a; frames = fr; choices = m.choices }) (Some (block c.body (u - 3))) v in
      subst P (sym is_callee) (call_goes fr behind c good.program_is (good.ready p hold) big is_behind (pushed ∙ ap (λ a. Return a args (point behind (u - 1)) ∷ m.frames) is_caller) fs (ahead blk d) bh blk g)

-- behind a call
give_back : (p : syntax.Program) (o o' s z : State) (fs : List formal.Frame) (u : ℕ) (ds : List syntax.Decl) (xs : List Word) (ss : syntax.Block) (r : Run) → pass_back s r.state ds xs ≡ Some z → resume p o' (return_to u s o ds xs ss ∷ fs) (ok r) ≡ resume p o fs (exec_block u p o ss (record { state = z; choices = r.choices }))
unfolding resume
give_back p o o' s z fs u ds xs ss r e = rw e

-- what was handed back, where both are of one program
handed_in : {own other : Program} (held : Program) {a b after : Activation} {xs : ℕ} → own ≡ held → other ≡ held → HandedBack own other a b after xs → HandedBack held held a b after xs
handed_in {own} held {a} {b} {after} {xs} e f h =
    let P : Program → Type 0 = λ x. HandedBack own x a b after xs in
    let Q : Program → Type 0 = λ x. HandedBack x held a b after xs in
    subst Q e (subst P f h)

module _ (held : Program) (n : Stage) (p : syntax.Program) (v : Outcome) (a : Activation) (xs : ℕ) (behind : Point) where
  -- the last frame, and the others
  give_goes : (after : Activation) → HandedBack held held a n.running after xs → {fs : List formal.Frame} → Stands held p (names held n.running) (params held n.running) (Return a xs behind ∷ n.frames) fs → resume p (old_state held n.running) fs (ok (run_of held n)) ≡ v → Comes held p (record { running = after; frames = n.frames; choices = n.choices }) (Some (Block behind)) v
  give_goes after back (return_stands {ss = ss} {gs = gs} program_is apart sizes next others) g =
      let s : Stage = record { running = a; frames = n.frames; choices = n.choices } in
      on_block held p s (record { running = after; frames = n.frames; choices = n.choices }) back.stays refl behind.at behind.fuel v gs ss
      (record { program_is = program_is; apart = apart; stands = others }) next
      (sym (give_back p (old_state held a) (old_state held n.running) (now_state held a) (now_state held after) gs behind.fuel (params held n.running) (passed (rest held xs)) ss (run_of held n) back.state) ∙ g)

  caller_program : {fs : List formal.Frame} → Stands held p (names held n.running) (params held n.running) (Return a xs behind ∷ n.frames) fs → a.program.now ≡ held
  caller_program (return_stands program_is apart sizes next others) = program_is

  sizes_behind : {fs : List formal.Frame} → Stands held p (names held n.running) (params held n.running) (Return a xs behind ∷ n.frames) fs → same_sizes (names held a) (params held n.running) (passed (rest held xs)) ≡ true
  sizes_behind (return_stands program_is apart sizes next others) = sizes

  pub gave_back : (after : Activation) → HandedBack a.program.now n.running.program.now a n.running after xs → Comes held p (with_frame (Return a xs behind) n) None v → Comes held p (record { running = after; frames = n.frames; choices = n.choices }) (Some (Block behind)) v
  gave_back after back (at_end fs bh g) = give_goes after (handed_in held (caller_program bh.stands) bh.program_is back) bh.stands g

  -- what two programs have in common that are one
  pub not_gave_back : (Among (names n.running.program.now n.running) (params n.running.program.now n.running) → same_sizes (names a.program.now a) (params n.running.program.now n.running) (passed (rest a.program.now xs)) ≡ true → ⊥) → Comes held p (with_frame (Return a xs behind) n) None v → ⊥
  not_gave_back h (at_end fs bh g) =
      let P : Program → Program → Type 0 = λ x y. Among (names y n.running) (params y n.running) → same_sizes (names x a) (params y n.running) (passed (rest x xs)) ≡ true → ⊥ in
      let Q : Program → Type 0 = λ x. P x n.running.program.now in
      subst (P held) bh.program_is (subst Q (caller_program bh.stands) h) bh.apart (sizes_behind bh.stands)
