-- Steps by the last frame, and several steps.
use Rattle.std.proofs.Common.{◌≡◌, ℕ, true, ◌-◌, List, [], ◌∷◌, length, drop, Some, None, sym, refl, ap, ◌∙◌, subst, inl, inr, arith}
use Rattle.std.proofs.lemmas.Bool.{cases_lt}
use Rattle.std.proofs.lemmas.List.{drop_all, length-drop}
use Rattle.lang.specs.Meaning.{State, Outcome, ok}
use Rattle.lang.specs.Holding.{Holds}
use Rattle.lang.specs.Soundness.{sound}
use Rattle.lang.specs.Syntax as syntax
use Rattle.lang.specs.Syntax.{Decl}
use Rattle.lang.specs.declared.program.Program.{Program}
use Rattle.exec.specs.Activating.{names, params, old_state, Stays, Among}
use Rattle.exec.proofs.Framing.{bottom_same, bottom_go, bottom_none}
use Rattle.exec.proofs.Halting.{in_its_program}
use Rattle.exec.proofs.Stepping.{popped_less}
use Rattle.exec.specs.Framing.{Mode, bottom}
use Rattle.exec.specs.Machine as formal
use Rattle.exec.specs.Machine.{resume}
use Rattle.exec.specs.Running.{Stands, none, rest_stands, again_stands, Stage, with_frame, with_frames, Left, run_of, Comes, in_block, in_loop, at_end, Onward, Stepped, Finished}
use Rattle.exec.specs.declared.frame.Frame.{Frame}
use Rattle.exec.specs.declared.frame.Frame.TheVariants.{Go}
use Rattle.exec.specs.declared.frame.Point.{Point}
use Rattle.exec.specs.declared.frame.Work.{Work}
use Rattle.exec.specs.declared.frame.Work.TheVariants.{Block, Loop}

-- choices that are left
pub left_all : (cs : List ℕ) → Left cs cs
left_all cs = record { taken = 0; rest_is = refl }

pub left_over : (all some : List ℕ) → Left all some → drop (length all - length some) all ≡ some
left_over all some l =
    let size : length some ≡ length all - l.taken = ap length l.rest_is ∙ length-drop l.taken all in
    elim (cases_lt (length all) l.taken) [
      | inl past ↦
          let everything : length all - length some ≡ length all = omega arith in
          rw everything (drop_all (length all) all (omega arith) ∙ sym (l.rest_is ∙ drop_all l.taken all (omega arith)))
      | inr within ↦
          let taken : length all - length some ≡ l.taken = omega arith in
          rw taken (sym l.rest_is)
    ]

-- the last frame
module _ (held : Program) (p : syntax.Program) (v : Outcome) (n : Stage) where
  rest_goes : {here : Point} {fs : List formal.Frame} → Stands held p (names held n.running) (params held n.running) (Go (Block here) ∷ n.frames) fs → n.running.program.now ≡ held → Among (names held n.running) (params held n.running) → resume p (old_state held n.running) fs (ok (run_of held n)) ≡ v → Comes held p n (Some (Block here)) v
  unfolding resume
  rest_goes (rest_stands {ss = ss} {gs = gs} blk others) is apart g = in_block gs ss (record { program_is = is; apart = apart; stands = others }) blk g

  again_goes : {here : Point} {fs : List formal.Frame} → Stands held p (names held n.running) (params held n.running) (Go (Loop here) ∷ n.frames) fs → n.running.program.now ≡ held → Among (names held n.running) (params held n.running) → resume p (old_state held n.running) fs (ok (run_of held n)) ≡ v → Comes held p n (Some (Loop here)) v
  unfolding resume
  again_goes (again_stands {b = b} {i = i} {e = e} {c = c} {gs = gs} lp others) is apart g = in_loop gs b i e c (record { program_is = is; apart = apart; stands = others }) lp g

  pub went_on : (work : Work) → Comes held p (with_frame (Go work) n) None v → Comes held p n (Some work) v
  went_on (Block here) (at_end fs bh g) = rest_goes bh.stands bh.program_is bh.apart g
  went_on (Loop here) (at_end fs bh g) = again_goes bh.stands bh.program_is bh.apart g

-- no frame is left
module _ (held : Program) (p : syntax.Program) (v : Outcome) (s : Stage) where
  none_left : {ds os : List Decl} {fs : List formal.Frame} → Stands held p ds os [] fs → (o : State) (r : Outcome) → resume p o fs r ≡ r
  unfolding resume
  none_left none o r = refl

  pub all_done : s.frames ≡ [] → Comes held p s None v → v ≡ ok (run_of held s)
  all_done e (at_end fs bh g) =
      let P : List Frame → Type 0 = λ gs. Stands held p (names held s.running) (params held s.running) gs fs in
      sym g ∙ none_left (subst P e bh.stands) (old_state held s.running) (ok (run_of held s))

pub goes_on : (n : Stage) (f : Frame) (work : Work) → f ≡ Go work → Stepped (with_frame f n) None n (Some work)
unfolding bottom
goes_on n f work e =
    let P : Frame → Type 0 = λ g. Stepped (with_frame g n) None n (Some work) in
    let same : Stepped (with_frame (Go work) n) None n (Some work) = record {
      less = popped_less (Go work) n.frames work refl;
      onward = record { same_bottom = refl; choices_left = left_all n.choices; comes = λ held p hold is_sound v. went_on held p v n work };
    } in
    subst P (sym e) same

pub ran_out : (s : Stage) (fs : List Frame) → s.frames ≡ [] → Finished s None (with_frames s fs)
ran_out s fs e = record { same_bottom = bottom_none s.running e; choices_left = left_all s.choices; comes = λ held p hold is_sound v. all_done held p v s e }

-- the same outcome in the program of what is running
pub onward_by : (s : Stage) (mode : Mode) (t : Stage) (next : Mode) → bottom t.running t.frames ≡ bottom s.running s.frames → Left s.choices t.choices → ((p : syntax.Program) → Holds s.running.program.now p → sound p ≡ true → (v : Outcome) → Comes s.running.program.now p s mode v → Comes s.running.program.now p t next v) → Onward s mode t next
onward_by s mode t next low left h = record { same_bottom = low; choices_left = left; comes = in_its_program s mode (λ held p v. Comes held p t next v) h }

-- with nothing changed, with other numbers, with a frame more
pub same_onward : (s : Stage) (mode next : Mode) → ((p : syntax.Program) → Holds s.running.program.now p → sound p ≡ true → (v : Outcome) → Comes s.running.program.now p s mode v → Comes s.running.program.now p s next v) → Onward s mode s next
same_onward s mode next h = onward_by s mode s next refl (left_all s.choices) h

pub stays_onward : (s : Stage) (mode : Mode) (t : Stage) (next : Mode) → Stays s.running t.running → t.frames ≡ s.frames → Left s.choices t.choices → ((p : syntax.Program) → Holds s.running.program.now p → sound p ≡ true → (v : Outcome) → Comes s.running.program.now p s mode v → Comes s.running.program.now p t next v) → Onward s mode t next
stays_onward s mode t next stays frames left h = onward_by s mode t next (bottom_same s.running t.running stays.params_stay stays.locals_stay frames) left h

pub pushed_onward : (s : Stage) (mode : Mode) (fs : List Frame) (work : Work) (next : Mode) → fs ≡ Go work ∷ s.frames → ((p : syntax.Program) → Holds s.running.program.now p → sound p ≡ true → (v : Outcome) → Comes s.running.program.now p s mode v → Comes s.running.program.now p (with_frames s fs) next v) → Onward s mode (with_frames s fs) next
pushed_onward s mode fs work next pushed h = onward_by s mode (with_frames s fs) next (bottom_go s.running pushed) (left_all s.choices) h
