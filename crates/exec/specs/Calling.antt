-- What there is when a procedure is called.
use Rattle.std.specs.Prelude.{◌≡◌, ℕ, true, false, ◌&&◌, List, ◌∷◌, ◌++◌, Some, ◌≢◌}
use Rattle.lang.specs.Base.{maybe, Word, distinct}
use Rattle.lang.specs.Code.{code_block}
use Rattle.lang.specs.Holding.{Holds}
use Rattle.lang.specs.Instr as instr
use Rattle.lang.specs.Instr.{Instr}
use Rattle.lang.specs.Meaning.{pass, zeros}
use Rattle.lang.specs.Soundness.{find_proc, same_sizes}
use Rattle.lang.specs.Syntax as syntax
use Rattle.lang.specs.Syntax.{Proc}
use Rattle.lang.specs.declared.program.Program.{Program}
use Rattle.walk.specs.Walking.{rest, declared, passed}
use Rattle.exec.specs.Activating.{names, params, now_state, old_state}
use Rattle.exec.specs.declared.activation.Activation.{Activation}
use Rattle.exec.specs.declared.calling.Called.{Called}
use Rattle.exec.specs.declared.stop.Stop.{Stop}
use Rattle.exec.specs.declared.stop.Stop.TheVariants.{Memory, Failed, Late}

module _ (held : Program) (a : Activation) (f : Word) (xs : ℕ) where
  -- The procedure of the name, with the numbers of the arguments.
  pub record Ready (p : syntax.Program) (c : Called) : Type 0 where
    pub this : Proc
    pub behind : List Instr
    pub found : find_proc p.procs f ≡ Some this
    pub params_are : params held c.callee ≡ this.params
    pub locals_are : declared (rest held c.callee.locals) ≡ this.locals
    pub body_code : rest held c.body ≡ code_block this.body (instr.end_proc ∷ behind)
    pub passes : pass (now_state held a) this.params (passed (rest held xs)) ≡ Some (old_state held c.callee)
    pub starts : now_state held c.callee ≡ old_state held c.callee ++ zeros this.locals

  pub record Prepared (c : Called) : Type 0 where
    pub program_is : c.callee.program.now ≡ held
    pub ready : (p : syntax.Program) → Holds held p → Ready p c

  -- it stops, if not for want of memory, only at a call that is not sound
  pub record Unsound : Type 0 where
    pub is : (p : syntax.Program) → Holds held p → maybe (find_proc p.procs f) false (λ q. distinct (passed (rest held xs)) && same_sizes (names held a) q.params (passed (rest held xs))) ≢ true

  abbrev pub Unprepared : Stop → Type 0
  Unprepared Memory = Unit {0}
  Unprepared (Failed e) = Unsound
  Unprepared Late = ⊥
