-- Statements that look at numbers and write them, one step on.
use Rattle.std.proofs.Common.{◌≡◌, ℕ, suc, ◌+◌, ◌-◌, ◌<◌, ◌≤◌, min, Bool, true, false, cond, List, [], ◌∷◌, length, drop, set, Some, None, Option, sym, refl, ap, ◌∙◌, subst, arith}
use Rattle.std.proofs.lemmas.Bool.{and_parts}
use Rattle.std.specs.List.{slice_get}
use Rattle.lang.specs.Base.{◌>>=◌, when, Word}
use Rattle.lang.specs.Code.{code_expr, code_stmt, code_block}
use Rattle.lang.specs.Holding.{Holds, code_of}
use Rattle.lang.specs.Instr as instr
use Rattle.lang.specs.Instr.{Instr}
use Rattle.lang.specs.Meaning.{State, Run, Outcome, ok, failed, need, eval, holds, values_of, scalar, write, chosen, exec, exec_block}
use Rattle.lang.specs.Soundness.{sound, sound_stmt, sound_block}
use Rattle.lang.specs.Syntax as syntax
use Rattle.lang.specs.Syntax.{Expr, BoolExpr, Stmt, assign, store, check, havoc, seq, Decl}
use Rattle.lang.specs.declared.program.Program.{Program}
use Rattle.walk.proofs.Outlines.{skipped}
use Rattle.walk.specs.Walking.{first, rest}
use Rattle.eval.proofs.Ops.{code_ops_expr, code_ops_bool, apply_expr, apply_bool, nesting_expr, nesting_bool}
use Rattle.eval.specs.Kinds.{operand}
use Rattle.eval.specs.declared.stacks.Stacks.{Stacks}
use Rattle.eval.specs.Ops.{Op, empty, push_number, code_ops, ops_expr, ops_bool, ops_nesting, apply_all}
use Rattle.exec.proofs.Resuming.{stmt_failed, stmt_done}
use Rattle.exec.proofs.Stepping.{Works, assigning, storing, checking, Ahead, work, a_havoc, ahead, shallow, narrow}
use Rattle.exec.specs.Activating.{names, params, now_state, old_state, Stays, Wrote}
use Rattle.exec.specs.Deeds.{works, havocs, deed, action, act_on, Acted, Worked}
use Rattle.exec.specs.Framing.{block}
use Rattle.exec.specs.Machine as formal
use Rattle.exec.specs.Machine.{resume}
use Rattle.exec.specs.Running.{BlockAt, Stage, run_of, Behind, Comes, in_block}

-- options in sequence
module _ (cs : List ℕ) where
  need_two : {A B : Type 0} (a : Option A) (b : Option B) (f : A → State) → need a (λ v. need b λ _. ok (record { state = f v; choices = cs })) ≡ need (a >>= λ v. b >>= λ _. Some (f v)) (λ t. ok (record { state = t; choices = cs }))
  need_two None b f = refl
  need_two (Some v) None f = refl
  need_two (Some v) (Some x) f = refl

  need_four : (a b : Option ℕ) (c : Option (List ℕ)) (f : ℕ → ℕ → List ℕ → State) → need a (λ k. need b λ v. need c λ vs. need (slice_get vs k) λ _. ok (record { state = f k v vs; choices = cs })) ≡ need (a >>= λ k. b >>= λ v. c >>= λ vs. slice_get vs k >>= λ _. Some (f k v vs)) (λ t. ok (record { state = t; choices = cs }))
  need_four None b c f = refl
  need_four (Some k) None c f = refl
  need_four (Some k) (Some v) None f = refl
  need_four (Some k) (Some v) (Some vs) f = need_one (slice_get vs k) (f k v vs)
    where
      need_one : (o : Option ℕ) (t : State) → need o (λ _. ok (record { state = t; choices = cs })) ≡ need (o >>= λ _. Some t) (λ u. ok (record { state = u; choices = cs }))
      need_one None t = refl
      need_one (Some x) t = refl

need_check : (a : Option Bool) (r : Run) → need a (λ x. cond x (ok r) failed) ≡ need (a >>= λ x. when x (Some r.state)) (λ t. ok (record { state = t; choices = r.choices }))
need_check None r = refl
need_check (Some true) r = refl
need_check (Some false) r = refl

-- a statement by its operations, and by what its last instruction does
pub record Simple (p : syntax.Program) (s : Stmt) : Type 0 where
  pub ops : List Op
  pub last : Instr
  pub code : (k : List Instr) → code_stmt s k ≡ code_ops ops (last ∷ k)
  pub stops : operand last ≡ false
  pub flat : ops_nesting ops ≤ 2
  pub acts : (u w : ℕ) (o : State) (r : Run) → u ≡ suc w → exec u p o s r ≡ need (act_on (action last) (apply_all p.width r.state o ops empty) r.state) λ t. ok (record { state = t; choices = r.choices })

pub simple_of : (p : syntax.Program) (ds os : List Decl) {s : Stmt} → Works s → sound_stmt p ds os s ≡ true → Simple p s
unfolding code_stmt code_ops ops_nesting apply_all exec sound_stmt
simple_of p ds os (assigning {x} {e}) good =
    record {
      ops = ops_expr e [];
      last = instr.assign x;
      code = λ k. sym (code_ops_expr e [] (instr.assign x ∷ k));
      stops = refl;
      flat = omega (arith, nesting_expr e []);
      acts = λ u w o r is. rw (is, apply_expr p.width r.state o e [] empty) (need_two r.choices (eval p.width r.state o e) (scalar r.state x) (λ v. write r.state x (v ∷ [])));
    }
simple_of p ds os (storing {x} {i} {e}) good =
    record {
      ops = ops_expr i (ops_expr e []);
      last = instr.store x;
      code = λ k. sym (code_ops_expr i (ops_expr e []) (instr.store x ∷ k) ∙ ap (code_expr i) (code_ops_expr e [] (instr.store x ∷ k)));
      stops = refl;
      flat = omega (arith, nesting_expr i (ops_expr e []), nesting_expr e []);
      acts = λ u w o r is. rw (is, apply_expr p.width r.state o i (ops_expr e []) empty, apply_expr p.width r.state o e [] (push_number (eval p.width r.state o i) empty)) (need_four r.choices (eval p.width r.state o i) (eval p.width r.state o e) (values_of r.state x) (λ k v vs. write r.state x (set vs k v)));
    }
simple_of p ds os (checking {b}) good =
    record {
      ops = ops_bool b [];
      last = instr.check;
      code = λ k. sym (code_ops_bool b [] (instr.check ∷ k));
      stops = refl;
      flat = omega (arith, nesting_bool b [], shallow p ds os b good);
      acts = λ u w o r is. rw (is, apply_bool p.width o r.state b [] empty) (need_check (holds p.width r.state o b) r);
    }

-- the same procedure, with other numbers
module _ (held : Program) (p : syntax.Program) (m n : Stage) (stays : Stays m.running n.running) (frames : n.frames ≡ m.frames) where
  old_same : old_state held n.running ≡ old_state held m.running
  old_same = rw (stays.params_stay, stays.olds_stay)

  pub on_block : (at u : ℕ) (v : Outcome) (fs : List formal.Frame) (ss : syntax.Block) → Behind held p m fs → BlockAt held p (names held m.running) (params held m.running) at ss → resume p (old_state held m.running) fs (exec_block u p (old_state held m.running) ss (run_of held n)) ≡ v → Comes held p n (Some (block at u)) v
  on_block at u v fs ss bh blk g =
      let P : State → Type 0 = λ o. resume p o fs (exec_block u p o ss (run_of held n)) ≡ v in
      in_block fs ss
      (record { program_is = stays.program_stays ∙ bh.program_is; apart = rw (stays.params_stay, stays.locals_stay) bh.apart; stands = rw (stays.params_stay, stays.locals_stay, frames) bh.stands })
      (rw (stays.params_stay, stays.locals_stay) blk)
      (subst P (sym old_same) g)

-- where the statements go on behind one
pub behind_block : (held : Program) (p : syntax.Program) (ds os : List Decl) (at next : ℕ) (s : Stmt) (ss : syntax.Block) (blk : BlockAt held p ds os at (seq s ss)) → rest held next ≡ code_block ss (blk.stop ∷ blk.behind) → BlockAt held p ds os next ss
unfolding sound_block
behind_block held p ds os at next s ss blk e = record { stop = blk.stop; behind = blk.behind; code = e; ends = blk.ends; is_sound = (and_parts (sound_stmt p ds os s) (sound_block p ds os ss) blk.is_sound).1 }

pub first_sound : (held : Program) (p : syntax.Program) (ds os : List Decl) (at : ℕ) (s : Stmt) (ss : syntax.Block) → BlockAt held p ds os at (seq s ss) → sound_stmt p ds os s ≡ true
unfolding sound_block
first_sound held p ds os at s ss blk = (and_parts (sound_stmt p ds os s) (sound_block p ds os ss) blk.is_sound).0

module _ (held : Program) (m : Stage) (p : syntax.Program) (hold : Holds held p) (is_sound : sound p ≡ true) (v : Outcome) (at till u : ℕ) (st : Stacks) (more : 1 < u) (worked : Worked held m.running at till st) where
  -- what was done, formally
  module _ (s : Stmt) (ss : syntax.Block) (blk : BlockAt held p (names held m.running) (params held m.running) at (seq s ss)) (simple : Simple p s) where
    reached : (rest held till ≡ simple.last ∷ code_block ss (blk.stop ∷ blk.behind)) × (st ≡ apply_all p.width (now_state held m.running) (old_state held m.running) simple.ops empty)
    unfolding code_block
    reached =
        let got = worked.is simple.ops simple.last (code_block ss (blk.stop ∷ blk.behind)) (blk.code ∙ simple.code _) simple.stops simple.flat (narrow held p hold is_sound) in
        let P : ℕ → Type 0 = λ w. st ≡ apply_all w (now_state held m.running) (old_state held m.running) simple.ops empty in
        (got.0, subst P hold.width got.1)

    done_by : exec (u - 1) p (old_state held m.running) s (run_of held m) ≡ need (act_on (action (first (rest held till))) st (now_state held m.running)) λ t. ok (record { state = t; choices = m.choices })
    done_by = simple.acts (u - 1) (u - 2) (old_state held m.running) (run_of held m) (omega arith) ∙ rw (reached.0, reached.1) refl

  work_fails : (fs : List formal.Frame) {ss : syntax.Block} → Ahead works ss → act_on (action (first (rest held till))) st (now_state held m.running) ≡ None → BlockAt held p (names held m.running) (params held m.running) at ss → resume p (old_state held m.running) fs (exec_block u p (old_state held m.running) ss (run_of held m)) ≡ v → v ≡ failed
  work_fails fs (work {s} {ss} w) none_acted blk g =
      let ds = names held m.running in
      let os = params held m.running in
      let simple = simple_of p ds os w (first_sound held p ds os at s ss blk) in
      stmt_failed p (old_state held m.running) fs (run_of held m) v u (u - 1) (omega arith) s ss g (done_by s ss blk simple ∙ rw none_acted refl)

  pub work_failed : deed (first (rest held at)) ≡ works → act_on (action (first (rest held till))) st (now_state held m.running) ≡ None → Comes held p m (Some (block at u)) v → v ≡ failed
  work_failed d none_acted (in_block fs ss bh blk g) = work_fails fs (ahead blk d) none_acted blk g

  work_goes : (next : ℕ) (n : Stage) (fs : List formal.Frame) {ss : syntax.Block} → Ahead works ss → Acted held m.running n.running (action (first (rest held till))) st → n.choices ≡ m.choices → n.frames ≡ m.frames → next ≡ min (till + 1) (length (code_of held)) → Behind held p m fs → BlockAt held p (names held m.running) (params held m.running) at ss → resume p (old_state held m.running) fs (exec_block u p (old_state held m.running) ss (run_of held m)) ≡ v → Comes held p n (Some (block next (u - 1))) v
  work_goes next n fs (work {s} {ss} w) acted left frames is_next bh blk g =
      let ds = names held m.running in
      let os = params held m.running in
      let simple = simple_of p ds os w (first_sound held p ds os at s ss blk) in
      let done : exec (u - 1) p (old_state held m.running) s (run_of held m) ≡ ok (run_of held n) = done_by s ss blk simple ∙ rw (acted.state, left) refl in
      on_block held p m n acted.stays frames next (u - 1) v fs ss bh
      (behind_block held p ds os at next s ss blk (skipped (code_of held) till next _ (reached s ss blk simple).0 1 is_next))
      (stmt_done p (old_state held m.running) fs (run_of held m) v u (u - 1) (omega arith) s ss g (run_of held n) done)

  pub worked_on : (next : ℕ) (n : Stage) → deed (first (rest held at)) ≡ works → Acted held m.running n.running (action (first (rest held till))) st → n.choices ≡ m.choices → n.frames ≡ m.frames → next ≡ min (till + 1) (length (code_of held)) → Comes held p m (Some (block at u)) v → Comes held p n (Some (block next (u - 1))) v
  worked_on next n d acted left frames is_next (in_block fs ss bh blk g) = work_goes next n fs (ahead blk d) acted left frames is_next bh blk g

-- numbers that are chosen
module _ (p : syntax.Program) (o : State) (r : Run) (u w : ℕ) (is : u ≡ suc w) (x : Word) where
  havoc_fails : values_of r.state x ≡ None → exec u p o (havoc x) r ≡ failed
  unfolding exec
  havoc_fails e = rw (is, e)

  havoc_done : (vs : List ℕ) (n : ℕ) → values_of r.state x ≡ Some vs → length vs ≡ n → exec u p o (havoc x) r ≡ ok (record { state = write r.state x (chosen p.width n r.choices); choices = drop n r.choices })
  unfolding exec
  havoc_done vs n e long = rw (is, e, long)

module _ (held : Program) (m : Stage) (p : syntax.Program) (hold : Holds held p) (is_sound : sound p ≡ true) (v : Outcome) (at u : ℕ) (x : Word) (more : 1 < u) where
  havoc_fails_by : (fs : List formal.Frame) {ss : syntax.Block} → Ahead (havocs x) ss → values_of (now_state held m.running) x ≡ None → resume p (old_state held m.running) fs (exec_block u p (old_state held m.running) ss (run_of held m)) ≡ v → v ≡ failed
  havoc_fails_by fs (a_havoc {ss = ss}) e g = stmt_failed p (old_state held m.running) fs (run_of held m) v u (u - 1) (omega arith) (havoc x) ss g (havoc_fails p (old_state held m.running) (run_of held m) (u - 1) (u - 2) (omega arith) x e)

  pub havoc_failed : deed (first (rest held at)) ≡ havocs x → values_of (now_state held m.running) x ≡ None → Comes held p m (Some (block at u)) v → v ≡ failed
  havoc_failed d e (in_block fs ss bh blk g) = havoc_fails_by fs (ahead blk d) e g

  module _ (n : Stage) (size next : ℕ) (row vs : List ℕ) (found : values_of (now_state held m.running) x ≡ Some row) (long : length row ≡ size) (wrote : Wrote held m.running n.running x vs) (are : vs ≡ chosen held.width.0 size m.choices) (frames : n.frames ≡ m.frames) (left : n.choices ≡ drop size m.choices) (is_next : next ≡ min (at + 1) (length (code_of held))) where
    havoc_goes : (fs : List formal.Frame) {ss : syntax.Block} → Ahead (havocs x) ss → Behind held p m fs → BlockAt held p (names held m.running) (params held m.running) at ss → resume p (old_state held m.running) fs (exec_block u p (old_state held m.running) ss (run_of held m)) ≡ v → Comes held p n (Some (block next (u - 1))) v
    unfolding code_block
    havoc_goes fs (a_havoc {ss = ss}) bh blk g =
        let o = old_state held m.running in
        let P : ℕ → Type 0 = λ w. vs ≡ chosen w size m.choices in
        let drawn : vs ≡ chosen p.width size m.choices = subst P hold.width are in
        let run : record { state = write (now_state held m.running) x (chosen p.width size m.choices); choices = drop size m.choices } ≡ run_of held n = rw (← drawn, ← left, ← wrote.state) refl in
        let done : exec (u - 1) p o (havoc x) (run_of held m) ≡ ok (run_of held n) = havoc_done p o (run_of held m) (u - 1) (u - 2) (omega arith) x row size found long ∙ ap ok run in
        on_block held p m n wrote.stays frames next (u - 1) v fs ss bh
        (behind_block held p (names held m.running) (params held m.running) at next (havoc x) ss blk (skipped (code_of held) at next _ blk.code 1 is_next))
        (stmt_done p o fs (run_of held m) v u (u - 1) (omega arith) (havoc x) ss g (run_of held n) done)

    pub havoc_on : deed (first (rest held at)) ≡ havocs x → Comes held p m (Some (block at u)) v → Comes held p n (Some (block next (u - 1))) v
    havoc_on d (in_block fs ss bh blk g) = havoc_goes fs (ahead blk d) bh blk g
