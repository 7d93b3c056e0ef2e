-- What a machine comes to, one step on.
use Rattle.std.proofs.Common.{◌≡◌, ℕ, zero, suc, ◌+◌, ◌-◌, ◌*◌, ◌^◌, ◌<◌, ◌≤◌, min, Bool, true, false, cond, ◌&&◌, leb, List, [], ◌∷◌, length, Some, None, sym, refl, ap, ◌∙◌, subst, arith}
use native.Mathlib.Nat.{pow-succ', pow-le-pow_right}
use Rattle.std.proofs.lemmas.Bool.{and_parts, leb-true}
use Rattle.lang.specs.Base.{Word}
use Rattle.lang.specs.Code.{code_expr, code_bool, code_stmt, code_block}
use Rattle.lang.specs.Holding.{Holds, code_of}
use Rattle.lang.specs.Instr as instr
use Rattle.lang.specs.Instr.{Instr}
use Rattle.lang.specs.Meaning.{State, Run, Outcome, ok, failed, late, holds, exec, exec_block}
use Rattle.lang.specs.Soundness.{sound, sound_bool, sound_expr, sound_stmt, sound_block}
use Rattle.lang.specs.Syntax as syntax
use Rattle.lang.specs.Syntax.{Expr, num, var, old, binary, index, old_index, BoolExpr, truth, compare, conj, disj, implies, negate, for_all, Stmt, assign, store, branch, loop, check, call, havoc, end, seq, Decl}
use Rattle.lang.specs.declared.program.Program.{Program}
use Rattle.walk.proofs.Outlines.{skipped}
use Rattle.walk.specs.Walking.{first, rest}
use Rattle.eval.proofs.Ops.{sound_nesting}
use Rattle.eval.specs.Kinds.{operand}
use Rattle.eval.specs.Ops.{nesting}
use Rattle.exec.proofs.Resuming.{resume_failed, block_late, loop_late, block_end, stmt_late, stmt_failed, stmt_begun}
use Rattle.exec.specs.Activating.{names, params, now_state, old_state}
use Rattle.exec.specs.Deeds as deeds
use Rattle.exec.specs.Deeds.{Deed, works, tests, repeats, calls, havocs, ends, deed, shown, Tested, Untold}
use Rattle.exec.specs.Framing.{block, round, work_weight, frame_weight, weight}
use Rattle.exec.specs.Machine as formal
use Rattle.exec.specs.Machine.{rest_of, again, return_to, resume}
use Rattle.exec.specs.Parts.{code_ways, BranchLaid, LoopLaid}
use Rattle.exec.specs.Running.{Ends, at_else, at_end_if, at_end_while, at_end_proc, BlockAt, rest_stands, again_stands, Stage, run_of, Behind, Comes, in_block, in_loop, at_end, with_frames}
use Rattle.exec.specs.declared.activation.Activation.{Activation}
use Rattle.exec.specs.declared.frame.Frame.{Frame}
use Rattle.exec.specs.declared.frame.Frame.TheVariants.{Go, Return}
use Rattle.exec.specs.declared.frame.Point.{Point}
use Rattle.exec.specs.declared.next.Next.{Next}
use Rattle.exec.specs.declared.next.Next.TheVariants.{Simple, If, While, Call, Havoc, Nothing}
use Rattle.exec.specs.declared.frame.Work.{Work}
use Rattle.exec.specs.declared.parts.Rounds.{Rounds}
use Rattle.exec.specs.declared.parts.Ways.{Ways}

-- which statement comes first
pub data Works : Stmt → Type 0 where
  assigning : {x : Word} {e : Expr} → Works (assign x e)
  storing : {x : Word} {i e : Expr} → Works (store x i e)
  checking : {b : BoolExpr} → Works (check b)

pub data Ahead : Deed → syntax.Block → Type 0 where
  no_more : Ahead ends end
  work : {s : Stmt} {ss : syntax.Block} → Works s → Ahead works (seq s ss)
  an_if : {b : BoolExpr} {c d ss : syntax.Block} → Ahead tests (seq (branch b c d) ss)
  a_loop : {b i : BoolExpr} {e : Expr} {c ss : syntax.Block} → Ahead repeats (seq (loop b i e c) ss)
  a_call : {f : Word} {xs : List Word} {ss : syntax.Block} → Ahead (calls f) (seq (call f xs) ss)
  a_havoc : {x : Word} {ss : syntax.Block} → Ahead (havocs x) (seq (havoc x) ss)

deed_expr : (e : Expr) (k : List Instr) → deed (first (code_expr e k)) ≡ works
unfolding code_expr
deed_expr (num n) k = refl
deed_expr (var x) k = refl
deed_expr (old x) k = refl
deed_expr (binary o a b) k = deed_expr a _
deed_expr (index x i) k = deed_expr i _
deed_expr (old_index x i) k = deed_expr i _

deed_bool : (b : BoolExpr) (k : List Instr) → deed (first (code_bool b k)) ≡ works
unfolding code_bool
deed_bool truth k = refl
deed_bool (compare o a b) k = deed_expr a _
deed_bool (conj a b) k = deed_bool a _
deed_bool (disj a b) k = deed_bool a _
deed_bool (implies a b) k = deed_bool a _
deed_bool (negate a) k = deed_bool a _
deed_bool (for_all x n a) k = refl

ends_deed : {i : Instr} → Ends i → deed i ≡ ends
ends_deed at_else = refl
ends_deed at_end_if = refl
ends_deed at_end_while = refl
ends_deed at_end_proc = refl

first_ahead : (ss : syntax.Block) (stop : Instr) (k : List Instr) → Ends stop → Ahead (deed (first (code_block ss (stop ∷ k)))) ss
unfolding code_stmt
first_ahead end stop k e = rw (ends_deed e) no_more
first_ahead (seq (assign x e) ss) stop k h = rw (deed_expr e (instr.assign x ∷ code_block ss (stop ∷ k))) (work assigning)
first_ahead (seq (store x i e) ss) stop k h = rw (deed_expr i (code_expr e (instr.store x ∷ code_block ss (stop ∷ k)))) (work storing)
first_ahead (seq (branch b c d) ss) stop k h = an_if
first_ahead (seq (loop b i e c) ss) stop k h = a_loop
first_ahead (seq (check b) ss) stop k h = rw (deed_bool b (instr.check ∷ code_block ss (stop ∷ k))) (work checking)
first_ahead (seq (call f xs) ss) stop k h = a_call
first_ahead (seq (havoc x) ss) stop k h = a_havoc

pub ahead : {held : Program} {p : syntax.Program} {ds os : List Decl} {at : ℕ} {ss : syntax.Block} {d : Deed} → BlockAt held p ds os at ss → deed (first (rest held at)) ≡ d → Ahead d ss
ahead {ss = ss} b e = let P : Deed → Type 0 = λ d. Ahead d ss in subst P (ap (λ k. deed (first k)) (sym b.code) ∙ e) (first_ahead ss b.stop b.behind b.ends)

no_ahead : {ss : syntax.Block} → Ahead deeds.none ss → ⊥
no_ahead h = elim h [ ]

-- fuel weighs more than what comes of it
four : (u : ℕ) → 0 < u → (4 ^ u ≡ 4 * 4 ^ (u - 1)) × (1 ≤ 4 ^ (u - 1))
four zero h = absurd (omega arith)
four (suc u) h =
    let e : suc u - 1 ≡ u = omega arith in
    let least : 0 ≤ u = omega arith in
    let base : 0 < 4 = omega arith in
    let pos : ◌≤◌ (4 ^ 0) (4 ^ u) = pow-le-pow_right base least in
    rw e (pow-succ' 4 u, pos)

pub weight_more : {f : Frame} {fs gs : List Frame} → gs ≡ f ∷ fs → weight gs ≡ frame_weight f + weight fs
unfolding weight
weight_more e = rw e

pub pushed_less : (u w n : ℕ) (f : Frame) (fs gs : List Frame) → gs ≡ f ∷ fs → 0 < u → w ≤ u - 1 → frame_weight f ≡ 4 ^ (u - 1) + 1 → n ≡ 4 ^ w → weight gs + n < weight fs + 4 ^ u
pushed_less u w n f fs gs e pos less is_f is_n =
    let q = four u pos in
    let small : 4 ^ w ≤ 4 ^ (u - 1) = pow-le-pow_right (omega arith) less in
    omega (arith, weight_more e, q.0, q.1)

pub same_less : (u : ℕ) (fs gs : List Frame) → gs ≡ fs → 0 < u → weight gs + 4 ^ (u - 1) < weight fs + 4 ^ u
same_less u fs gs e pos = let q = four u pos in let is : weight gs ≡ weight fs = ap weight e in omega (arith, q.0, q.1)

pub done_less : (u : ℕ) (fs : List Frame) → weight fs + 0 < weight fs + 4 ^ u
done_less u fs = let least : 0 ≤ u = omega arith in let base : 0 < 4 = omega arith in let pos : ◌≤◌ (4 ^ 0) (4 ^ u) = pow-le-pow_right base least in omega arith

-- a width of at most 64
pub narrow : (held : Program) (p : syntax.Program) → Holds held p → sound p ≡ true → held.width.0 ≤ 64
unfolding sound
narrow held p h e =
    let one = and_parts (leb 1 p.width) _ e in
    let two = and_parts (leb p.width 64) _ one.1 in
    omega (arith, leb-true p.width 64 two.0, h.width)

module _ (held : Program) (p : syntax.Program) where
  -- no fuel, and the end of statements
  pub late_block : {m : Stage} {at u : ℕ} {v : Outcome} → u ≡ 0 → Comes held p m (Some (block at u)) v → v ≡ late
  late_block {m} {at} {u} {v} z (in_block fs ss b blk e) = block_late p (old_state held m.running) fs (run_of held m) v u ss z e

  pub late_loop : {m : Stage} {at u : ℕ} {v : Outcome} → u ≡ 0 → Comes held p m (Some (round at u)) v → v ≡ late
  late_loop {m} {at} {u} {v} z (in_loop fs b i e c bh at_loop g) = loop_late p (old_state held m.running) fs (run_of held m) v u (loop b i e c) z g

  block_ends : (u : ℕ) (v : Outcome) (m : Stage) (fs : List formal.Frame) {ss : syntax.Block} → Ahead ends ss → 0 < u → Behind held p m fs → resume p (old_state held m.running) fs (exec_block u p (old_state held m.running) ss (run_of held m)) ≡ v → Comes held p m None v
  block_ends u v m fs no_more pos b e = at_end fs b (block_end p (old_state held m.running) fs (run_of held m) v u (u - 1) (omega arith) e)

  pub ended : {m : Stage} {at u : ℕ} {v : Outcome} → deed (first (rest held at)) ≡ ends → 0 < u → Comes held p m (Some (block at u)) v → Comes held p m None v
  ended {m} {at} {u} {v} d pos (in_block fs ss b blk e) = block_ends u v m fs (ahead blk d) pos b e

  pub late_stmt : {m : Stage} {at u : ℕ} {v : Outcome} → (deed (first (rest held at)) ≡ ends → ⊥) → u ≡ 1 → Comes held p m (Some (block at u)) v → v ≡ late
  unfolding code_block
  late_stmt {m} {at} {u} {v} d one (in_block fs end b blk e) = absurd (d (ap (λ k. deed (first k)) blk.code ∙ ends_deed blk.ends))
  late_stmt {m} {at} {u} {v} d one (in_block fs (seq s ss) b blk e) = stmt_late p (old_state held m.running) fs (run_of held m) v u 0 one s ss e refl

  pub not_ended : (n : Next) → shown held (Some n) ≡ ends → ⊥
  not_ended Simple h = let z : ◌≡◌ {A = ℕ} 0 1 = cc in omega arith
  not_ended If h = let z : ◌≡◌ {A = ℕ} 0 1 = cc in omega arith
  not_ended While h = let z : ◌≡◌ {A = ℕ} 0 1 = cc in omega arith
  not_ended (Call f) h = let z : ◌≡◌ {A = ℕ} 0 1 = cc in omega arith
  not_ended (Havoc x) h = let z : ◌≡◌ {A = ℕ} 0 1 = cc in omega arith
  not_ended Nothing h = let z : ◌≡◌ {A = ℕ} 0 1 = cc in omega arith

  -- no such statement
  pub nothing_ahead : {m : Stage} {at u : ℕ} {v : Outcome} → deed (first (rest held at)) ≡ deeds.none → Comes held p m (Some (block at u)) v → ⊥
  nothing_ahead d (in_block fs ss b blk e) = no_ahead (ahead blk d)

-- a sound condition is not too deep
module _ (p : syntax.Program) (ds os : List Decl) where
  pub shallow : (b : BoolExpr) → sound_bool p.width 0 ds os b ≡ true → nesting b ≤ 2
  shallow b e = omega (arith, sound_nesting p.width 0 ds os b (omega arith) e)

module _ (held : Program) (m : Stage) (fr : List Frame) where
  module _ (p : syntax.Program) (hold : Holds held p) (is_sound : sound p ≡ true) (v : Outcome) where
    enter_by : (at u behind : ℕ) (fs : List formal.Frame) {ss : syntax.Block} → Ahead repeats ss → 1 < u → ((b i : BoolExpr) (e : Expr) (c : syntax.Block) (k : List Instr) → rest held at ≡ code_stmt (loop b i e c) k → rest held behind ≡ k) → fr ≡ Go (block behind (u - 1)) ∷ m.frames → Behind held p m fs → BlockAt held p (names held m.running) (params held m.running) at ss → resume p (old_state held m.running) fs (exec_block u p (old_state held m.running) ss (run_of held m)) ≡ v → Comes held p (with_frames m fr) (Some (round at (u - 1))) v
    unfolding code_block sound_stmt
    enter_by at u behind fs (a_loop {b} {i} {e} {c} {ss}) more laid pushed bh blk g =
        let both = and_parts (sound_stmt p (names held m.running) (params held m.running) (loop b i e c)) (sound_block p (names held m.running) (params held m.running) ss) blk.is_sound in
        let next : BlockAt held p (names held m.running) (params held m.running) behind ss = record { stop = blk.stop; behind = blk.behind; code = laid b i e c (code_block ss (blk.stop ∷ blk.behind)) blk.code; ends = blk.ends; is_sound = both.1 } in
        in_loop (rest_of (u - 1) ss ∷ fs) b i e c
        (record { program_is = bh.program_is; apart = bh.apart; stands = rw pushed (rest_stands next bh.stands) })
        (record { behind = code_block ss (blk.stop ∷ blk.behind); code = blk.code; is_sound = both.0 })
        (stmt_begun p (old_state held m.running) fs (run_of held m) v u (u - 1) (omega arith) (loop b i e c) ss g)

    pub entered : (at u : ℕ) (r : Rounds) → deed (first (rest held at)) ≡ repeats → 1 < u → LoopLaid held at r → fr ≡ Go (block r.behind (u - 1)) ∷ m.frames → Comes held p m (Some (block at u)) v → Comes held p (with_frames m fr) (Some (round at (u - 1))) v
    entered at u r d more laid pushed (in_block fs ss bh blk g) = enter_by at u r.behind fs (ahead blk d) more laid.behind_code pushed bh blk g

  -- both ways of an `if`
  module _ (ds os : List Decl) (p : syntax.Program) (w : Ways) (till : ℕ) (laid : BranchLaid held till w) (c d : syntax.Block) (k : List Instr) (here : rest held till ≡ code_ways c d k) (good_c : sound_block p ds os c ≡ true) (good_d : sound_block p ds os d ≡ true) where
    way_block : (value : Bool) (way : ℕ) → way ≡ cond value w.then w.otherwise → BlockAt held p ds os way (cond value c d)
    way_block true way e = record { stop = instr.else (length (code_block d [])); behind = code_block d (instr.end_if ∷ k); code = rw e (laid.then_code c d k here); ends = at_else; is_sound = good_c }
    way_block false way e = record { stop = instr.end_if; behind = k; code = rw e (laid.else_code c d k here); ends = at_end_if; is_sound = good_d }

-- one statement by itself
module _ (p : syntax.Program) (o : State) (r : Run) where
  pub branched : (u w : ℕ) (b : BoolExpr) (c d : syntax.Block) (x : Bool) → u ≡ suc w → holds p.width r.state o b ≡ Some x → exec u p o (branch b c d) r ≡ exec_block w p o (cond x c d) r
  unfolding exec
  branched u w b c d x is e = rw (is, e)

  pub branch_fails : (u w : ℕ) (b : BoolExpr) (c d : syntax.Block) → u ≡ suc w → holds p.width r.state o b ≡ None → exec u p o (branch b c d) r ≡ failed
  unfolding exec
  branch_fails u w b c d is e = rw (is, e)

  pub round_fails : (u w : ℕ) (b i : BoolExpr) (e : Expr) (c : syntax.Block) → u ≡ suc w → holds p.width r.state o b ≡ None → exec u p o (loop b i e c) r ≡ failed
  unfolding exec
  round_fails u w b i e c is h = rw (is, h)

  pub round_ends : (u w : ℕ) (b i : BoolExpr) (e : Expr) (c : syntax.Block) → u ≡ suc w → holds p.width r.state o b ≡ Some false → exec u p o (loop b i e c) r ≡ ok r
  unfolding exec
  round_ends u w b i e c is h = rw (is, h)

  pub round_begins : (fs : List formal.Frame) (u w : ℕ) (b i : BoolExpr) (e : Expr) (c : syntax.Block) → u ≡ suc w → holds p.width r.state o b ≡ Some true → resume p o (again w b i e c ∷ fs) (exec_block w p o c r) ≡ resume p o fs (exec u p o (loop b i e c) r)
  unfolding exec resume
  round_begins fs u w b i e c is h = rw (is, h)

-- conditions of a sound program
module _ (held : Program) (p : syntax.Program) (hold : Holds held p) (is_sound : sound p ≡ true) (a : Activation) (ds os : List Decl) where
  pub told_in : (start till : ℕ) (value : Bool) (b : BoolExpr) (i : Instr) (k : List Instr) → Tested held a start till value → rest held start ≡ code_bool b (i ∷ k) → operand i ≡ false → sound_bool p.width 0 ds os b ≡ true → (rest held till ≡ i ∷ k) × (holds p.width (now_state held a) (old_state held a) b ≡ Some value)
  told_in start till value b i k tested here stops good =
      let got = tested.is b i k here stops (shallow p ds os b good) (narrow held p hold is_sound) in
      let P : ℕ → Type 0 = λ w. holds w (now_state held a) (old_state held a) b ≡ Some value in
      (got.0, subst P hold.width got.1)

  pub untold_in : (start : ℕ) (b : BoolExpr) (i : Instr) (k : List Instr) → Untold held a start → rest held start ≡ code_bool b (i ∷ k) → operand i ≡ false → sound_bool p.width 0 ds os b ≡ true → holds p.width (now_state held a) (old_state held a) b ≡ None
  untold_in start b i k untold here stops good =
      let P : ℕ → Type 0 = λ w. holds w (now_state held a) (old_state held a) b ≡ None in
      subst P hold.width (untold.is b i k here stops (shallow p ds os b good) (narrow held p hold is_sound))

module _ (held : Program) (m : Stage) (p : syntax.Program) (hold : Holds held p) (is_sound : sound p ≡ true) (v : Outcome) where
  branch_by : (fr : List Frame) (at start till u way : ℕ) (w : Ways) (value : Bool) (fs : List formal.Frame) {ss : syntax.Block} → Ahead tests ss → 1 < u → start ≡ min (at + 1) (length (code_of held)) → Tested held m.running start till value → BranchLaid held till w → way ≡ cond value w.then w.otherwise → fr ≡ Go (block w.behind (u - 1)) ∷ m.frames → Behind held p m fs → BlockAt held p (names held m.running) (params held m.running) at ss → resume p (old_state held m.running) fs (exec_block u p (old_state held m.running) ss (run_of held m)) ≡ v → Comes held p (with_frames m fr) (Some (block way (u - 2))) v
  unfolding code_block sound_stmt
  branch_by fr at start till u way w value fs (an_if {b} {c} {d} {ss}) more is_start tested laid is_way pushed bh blk g =
      let ds = names held m.running in
      let os = params held m.running in
      let o = old_state held m.running in
      let k = code_block ss (blk.stop ∷ blk.behind) in
      let both = and_parts (sound_stmt p ds os (branch b c d)) (sound_block p ds os ss) blk.is_sound in
      let parts = and_parts (sound_bool p.width 0 ds os b) (sound_block p ds os c && sound_block p ds os d) both.0 in
      let ways = and_parts (sound_block p ds os c) (sound_block p ds os d) parts.1 in
      let at_test : rest held start ≡ code_bool b (code_ways c d k) = skipped (code_of held) at start _ blk.code 1 is_start in
      let got = told_in held p hold is_sound m.running ds os start till value b _ _ tested at_test refl parts.0 in
      let next : BlockAt held p ds os w.behind ss = record { stop = blk.stop; behind = blk.behind; code = laid.behind_code c d k got.0; ends = blk.ends; is_sound = both.1 } in
      let P : Outcome → Type 0 = λ x. resume p o (rest_of (u - 1) ss ∷ fs) x ≡ v in
      in_block (rest_of (u - 1) ss ∷ fs) (cond value c d)
      (record { program_is = bh.program_is; apart = bh.apart; stands = rw pushed (rest_stands next bh.stands) })
      (way_block held m fr ds os p w till laid c d k got.0 ways.0 ways.1 value way is_way)
      (subst P (branched p o (run_of held m) (u - 1) (u - 2) b c d value (omega arith) got.1) (stmt_begun p o fs (run_of held m) v u (u - 1) (omega arith) (branch b c d) ss g))

  pub branch_taken : (fr : List Frame) (at start till u way : ℕ) (w : Ways) (value : Bool) → deed (first (rest held at)) ≡ tests → 1 < u → start ≡ min (at + 1) (length (code_of held)) → Tested held m.running start till value → BranchLaid held till w → way ≡ cond value w.then w.otherwise → fr ≡ Go (block w.behind (u - 1)) ∷ m.frames → Comes held p m (Some (block at u)) v → Comes held p (with_frames m fr) (Some (block way (u - 2))) v
  branch_taken fr at start till u way w value d more is_start tested laid is_way pushed (in_block fs ss bh blk g) = branch_by fr at start till u way w value fs (ahead blk d) more is_start tested laid is_way pushed bh blk g

  branch_fails_by : (at start u : ℕ) (fs : List formal.Frame) {ss : syntax.Block} → Ahead tests ss → 1 < u → start ≡ min (at + 1) (length (code_of held)) → Untold held m.running start → BlockAt held p (names held m.running) (params held m.running) at ss → resume p (old_state held m.running) fs (exec_block u p (old_state held m.running) ss (run_of held m)) ≡ v → v ≡ failed
  unfolding code_block sound_stmt
  branch_fails_by at start u fs (an_if {b} {c} {d} {ss}) more is_start untold blk g =
      let ds = names held m.running in
      let os = params held m.running in
      let o = old_state held m.running in
      let both = and_parts (sound_stmt p ds os (branch b c d)) (sound_block p ds os ss) blk.is_sound in
      let parts = and_parts (sound_bool p.width 0 ds os b) (sound_block p ds os c && sound_block p ds os d) both.0 in
      let at_test : rest held start ≡ code_bool b (code_ways c d (code_block ss (blk.stop ∷ blk.behind))) = skipped (code_of held) at start _ blk.code 1 is_start in
      let none_told = untold_in held p hold is_sound m.running ds os start b _ _ untold at_test refl parts.0 in
      stmt_failed p o fs (run_of held m) v u (u - 1) (omega arith) (branch b c d) ss g (branch_fails p o (run_of held m) (u - 1) (u - 2) b c d (omega arith) none_told)

  pub branch_failed : (at start u : ℕ) → deed (first (rest held at)) ≡ tests → 1 < u → start ≡ min (at + 1) (length (code_of held)) → Untold held m.running start → Comes held p m (Some (block at u)) v → v ≡ failed
  branch_failed at start u d more is_start untold (in_block fs ss bh blk g) = branch_fails_by at start u fs (ahead blk d) more is_start untold blk g

  -- rounds of a loop
  module _ (at u : ℕ) (r : Rounds) (pos : 0 < u) (laid : LoopLaid held at r) where
    pub round_failed : Untold held m.running r.test → Comes held p m (Some (round at u)) v → v ≡ failed
    unfolding sound_stmt
    round_failed untold (in_loop fs b i e c bh lp g) =
        let ds = names held m.running in
        let os = params held m.running in
        let o = old_state held m.running in
        let parts = and_parts (sound_bool p.width 0 ds os b) _ lp.is_sound in
        let none_told = untold_in held p hold is_sound m.running ds os r.test b _ _ untold (laid.test_code b i e c lp.behind lp.code) refl parts.0 in
        sym g ∙ ap (resume p o fs) (round_fails p o (run_of held m) u (u - 1) b i e c (omega arith) none_told) ∙ resume_failed p o fs

    pub round_ended : (till : ℕ) → (value : Bool) → Tested held m.running r.test till value → value ≡ false → Comes held p m (Some (round at u)) v → Comes held p m None v
    unfolding sound_stmt
    round_ended till value tested is (in_loop fs b i e c bh lp g) =
        let ds = names held m.running in
        let os = params held m.running in
        let o = old_state held m.running in
        let parts = and_parts (sound_bool p.width 0 ds os b) _ lp.is_sound in
        let T : Bool → Type 0 = λ x. Tested held m.running r.test till x in
        let got = told_in held p hold is_sound m.running ds os r.test till false b _ _ (subst T is tested) (laid.test_code b i e c lp.behind lp.code) refl parts.0 in
        at_end fs bh (ap (resume p o fs) (sym (round_ends p o (run_of held m) u (u - 1) b i e c (omega arith) got.1)) ∙ g)

    pub round_begun : (fr : List Frame) (till : ℕ) → (value : Bool) → Tested held m.running r.test till value → value ≡ true → fr ≡ Go (round at (u - 1)) ∷ m.frames → Comes held p m (Some (round at u)) v → Comes held p (with_frames m fr) (Some (block r.body (u - 1))) v
    unfolding sound_stmt
    round_begun fr till value tested is pushed (in_loop fs b i e c bh lp g) =
        let ds = names held m.running in
        let os = params held m.running in
        let o = old_state held m.running in
        let parts = and_parts (sound_bool p.width 0 ds os b) (sound_bool p.width 0 ds os i && (sound_expr ds os e && sound_block p ds os c)) lp.is_sound in
        let more = and_parts (sound_bool p.width 0 ds os i) (sound_expr ds os e && sound_block p ds os c) parts.1 in
        let last = and_parts (sound_expr ds os e) (sound_block p ds os c) more.1 in
        let T : Bool → Type 0 = λ x. Tested held m.running r.test till x in
        let got = told_in held p hold is_sound m.running ds os r.test till true b _ _ (subst T is tested) (laid.test_code b i e c lp.behind lp.code) refl parts.0 in
        in_block (again (u - 1) b i e c ∷ fs) c
        (record { program_is = bh.program_is; apart = bh.apart; stands = rw pushed (again_stands lp bh.stands) })
        (record { stop = instr.end_while; behind = lp.behind; code = laid.body_code b i e c lp.behind lp.code; ends = at_end_while; is_sound = last.1 })
        (round_begins p o (run_of held m) fs u (u - 1) b i e c (omega arith) got.1 ∙ g)

-- a frame less
pub popped_less : (f : Frame) (fs : List Frame) (w : Work) → frame_weight f ≡ work_weight w + 1 → weight fs + work_weight w < weight (f ∷ fs) + 0
popped_less f fs w is = let more = weight_more {f = f} {fs = fs} refl in omega (arith, more)

pub returned_less : (a : Activation) (xs : ℕ) (behind : Point) (fs : List Frame) → weight fs + 4 ^ behind.fuel < weight (Return a xs behind ∷ fs) + 0
returned_less a xs behind fs = let more = weight_more {f = Return a xs behind} {fs = fs} refl in omega (arith, more)
