-- What a machine stands for.
use Rattle.std.specs.Prelude.{◌≡◌, ℕ, ◌+◌, ◌<◌, true, List, [], ◌∷◌, Some, None, drop, Result, MatchOption, MatchResult}
use Rattle.lang.specs.Code.{code_stmt, code_block}
use Rattle.lang.specs.Holding.{Holds}
use Rattle.lang.specs.Instr as instr
use Rattle.lang.specs.Instr.{Instr}
use Rattle.lang.specs.Meaning.{Run, Outcome, ok, failed, late, exec, exec_block}
use Rattle.lang.specs.Soundness.{sound, sound_stmt, sound_block, same_sizes}
use Rattle.lang.specs.Syntax as syntax
use Rattle.lang.specs.Syntax.{Expr, BoolExpr, loop, Decl}
use Rattle.lang.specs.declared.program.Program.{Program}
use Rattle.walk.specs.Walking.{rest, passed}
use Rattle.exec.specs.Activating.{names, params, now_state, old_state, Among}
use Rattle.exec.specs.Framing.{stack, Mode, weight, mode_weight, bottom}
use Rattle.exec.specs.Machine as formal
use Rattle.exec.specs.Machine.{rest_of, again, return_to, resume}
use Rattle.exec.specs.declared.activation.Activation.{Activation}
use Rattle.exec.specs.declared.frame.Frame.{Frame}
use Rattle.exec.specs.declared.frame.Frame.TheVariants.{Go, Return}
use Rattle.exec.specs.declared.frame.Point.{Point}
use Rattle.exec.specs.declared.frame.Work.{Work}
use Rattle.exec.specs.declared.frame.Work.TheVariants.{Block, Loop}
use Rattle.exec.specs.declared.machine.Machine.{Machine}
use Rattle.exec.specs.declared.stop.Stop.{Stop}
use Rattle.exec.specs.declared.stop.Stop.TheVariants.{Memory, Failed, Late}

-- how far a run has come: what is running, the frames, the last one first, and the choices that are left
pub record Stage : Type 0 where
  pub running : Activation
  pub frames : List Frame
  pub choices : List ℕ

abbrev pub stage : Machine → Stage
stage m = record { running = m.running; frames = stack m.frames; choices = m.choices.now }

-- with one frame more, or others
abbrev pub with_frame : Frame → Stage → Stage
with_frame f s = record { running = s.running; frames = f ∷ s.frames; choices = s.choices }

abbrev pub with_frames : Stage → List Frame → Stage
with_frames s fs = record { running = s.running; frames = fs; choices = s.choices }

-- What is left of choices.
pub record Left (all some : List ℕ) : Type 0 where
  pub taken : ℕ
  pub rest_is : some ≡ drop taken all

-- where statements end that stand one after the other
pub data Ends : Instr → Type 0 where
  at_else : {n : ℕ} → Ends (instr.else n)
  at_end_if : Ends instr.end_if
  at_end_while : Ends instr.end_while
  at_end_proc : Ends instr.end_proc

module _ (held : Program) (p : syntax.Program) where
  -- Statements at an index, sound with the names ds, of which the procedure began with os.
  pub record BlockAt (ds os : List Decl) (at : ℕ) (ss : syntax.Block) : Type 0 where
    pub stop : Instr
    pub behind : List Instr
    pub code : rest held at ≡ code_block ss (stop ∷ behind)
    pub ends : Ends stop
    pub is_sound : sound_block p ds os ss ≡ true

  pub record LoopAt (ds os : List Decl) (at : ℕ) (b i : BoolExpr) (e : Expr) (c : syntax.Block) : Type 0 where
    pub behind : List Instr
    pub code : rest held at ≡ code_stmt (loop b i e c) behind
    pub is_sound : sound_stmt p ds os (loop b i e c) ≡ true

  -- the frames of a machine, and those that they stand for
  pub data Stands : List Decl → List Decl → List Frame → List formal.Frame → Type 0 where
    none : {ds os : List Decl} → Stands ds os [] []
    rest_stands : {ds os : List Decl} {here : Point} {ss : syntax.Block} {fs : List Frame} {gs : List formal.Frame} → BlockAt ds os here.at ss → Stands ds os fs gs → Stands ds os (Go (Block here) ∷ fs) (rest_of here.fuel ss ∷ gs)
    again_stands : {ds os : List Decl} {here : Point} {b i : BoolExpr} {e : Expr} {c : syntax.Block} {fs : List Frame} {gs : List formal.Frame} → LoopAt ds os here.at b i e c → Stands ds os fs gs → Stands ds os (Go (Loop here) ∷ fs) (again here.fuel b i e c ∷ gs)
    return_stands : {ds os : List Decl} {a : Activation} {xs : ℕ} {behind : Point} {ss : syntax.Block} {fs : List Frame} {gs : List formal.Frame} → a.program.now ≡ held → Among (names held a) (params held a) → same_sizes (names held a) os (passed (rest held xs)) ≡ true → BlockAt (names held a) (params held a) behind.at ss → Stands (names held a) (params held a) fs gs → Stands ds os (Return a xs behind ∷ fs) (return_to behind.fuel (now_state held a) (old_state held a) os (passed (rest held xs)) ss ∷ gs)

module _ (held : Program) where
  abbrev pub run_of : Stage → Run
  run_of s = record { state = now_state held s.running; choices = s.choices }

  -- The frames stand for others.
  pub record Behind (p : syntax.Program) (s : Stage) (fs : List formal.Frame) : Type 0 where
    pub program_is : s.running.program.now ≡ held
    pub apart : Among (names held s.running) (params held s.running)
    pub stands : Stands held p (names held s.running) (params held s.running) s.frames fs

  -- the outcome to which a run comes
  pub data Comes (p : syntax.Program) (s : Stage) : Mode → Outcome → Type 0 where
    in_block : {here : Point} {v : Outcome} (fs : List formal.Frame) (ss : syntax.Block) → Behind p s fs → BlockAt held p (names held s.running) (params held s.running) here.at ss → resume p (old_state held s.running) fs (exec_block here.fuel p (old_state held s.running) ss (run_of s)) ≡ v → Comes p s (Some (Block here)) v
    in_loop : {here : Point} {v : Outcome} (fs : List formal.Frame) (b i : BoolExpr) (e : Expr) (c : syntax.Block) → Behind p s fs → LoopAt held p (names held s.running) (params held s.running) here.at b i e c → resume p (old_state held s.running) fs (exec here.fuel p (old_state held s.running) (loop b i e c) (run_of s)) ≡ v → Comes p s (Some (Loop here)) v
    at_end : {v : Outcome} (fs : List formal.Frame) → Behind p s fs → resume p (old_state held s.running) fs (ok (run_of s)) ≡ v → Comes p s None v

-- On to another stage, with the same outcome.
pub record Onward (s : Stage) (mode : Mode) (t : Stage) (next : Mode) : Type 0 where
  pub same_bottom : bottom t.running t.frames ≡ bottom s.running s.frames
  pub choices_left : Left s.choices t.choices
  pub comes : (held : Program) (p : syntax.Program) → Holds held p → sound p ≡ true → (v : Outcome) → Comes held p s mode v → Comes held p t next v

-- One step on.
pub record Stepped (s : Stage) (mode : Mode) (t : Stage) (next : Mode) : Type 0 where
  pub less : weight t.frames + mode_weight next < weight s.frames + mode_weight mode
  pub onward : Onward s mode t next

-- The run has ended, with the first procedure.
pub record Finished (s : Stage) (mode : Mode) (t : Stage) : Type 0 where
  pub same_bottom : (t.running.params, t.running.locals) ≡ bottom s.running s.frames
  pub choices_left : Left s.choices t.choices
  pub comes : (held : Program) (p : syntax.Program) → Holds held p → sound p ≡ true → (v : Outcome) → Comes held p s mode v → v ≡ ok (run_of held t)

-- what a run comes to that stops
abbrev pub Stopped : Stop → Outcome → Type 0
Stopped Memory v = Unit {0}
Stopped (Failed f) v = v ≡ failed
Stopped Late v = v ≡ late

pub record Halted (s : Stage) (mode : Mode) (e : Stop) : Type 0 where
  pub comes : (held : Program) (p : syntax.Program) → Holds held p → sound p ≡ true → (v : Outcome) → Comes held p s mode v → Stopped e v

-- what a step comes to that leaves something to be done, or may leave it to the last frame
abbrev pub Goes : Stage → Mode → Stage → Result Work Stop → Type 0
Goes s mode t r = MatchResult r (λ next. Stepped s mode t (Some next)) (λ e. Halted s mode e)

abbrev pub Steps : Stage → Mode → Stage → Result Mode Stop → Type 0
Steps s mode t r = MatchResult r (λ next. Stepped s mode t next) (λ e. Halted s mode e)

-- the same, where nothing is left only at the end
abbrev pub Advances : Stage → Mode → Stage → Result Mode Stop → Type 0
Advances s mode t r = MatchResult r (λ o. MatchOption o (Finished s mode t) (λ next. Stepped s mode t (Some next))) (λ e. Halted s mode e)
