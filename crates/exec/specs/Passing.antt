-- Arguments: from the caller to the procedure, and back.
use Rattle.std.specs.Prelude.{◌≡◌, ℕ, List, ◌++◌, length, Some, ◌≢◌}
use Rattle.lang.specs.Base.{Word}
use Rattle.lang.specs.Meaning.{values_of, count, pass, pass_back, zeros}
use Rattle.lang.specs.Soundness.{find_decl}
use Rattle.lang.specs.Syntax.{Decl}
use Rattle.lang.specs.declared.program.Program.{Program}
use Rattle.walk.specs.Walking.{rest, declared, passed}
use Rattle.eval.specs.States.{counts, state_of}
use Rattle.exec.specs.Activating.{params, now_state, old_state, Stays, Wrote}
use Rattle.exec.specs.declared.activation.Activation.{Activation}
use Rattle.exec.specs.declared.stop.Stop.{Stop}
use Rattle.exec.specs.declared.stop.Stop.TheVariants.{Memory, Failed, Late}

module _ (held : Program) where
  -- A procedure has begun, its parameters with the numbers ns.
  pub record Begun (ps ls : ℕ) (ns : List ℕ) (a : Activation) : Type 0 where
    pub program_is : a.program.now ≡ held
    pub params_at : a.params ≡ ps
    pub locals_at : a.locals ≡ ls
    pub old_is : old_state held a ≡ state_of (declared (rest held ps)) ns
    pub now_is : now_state held a ≡ state_of (declared (rest held ps)) ns ++ zeros (declared (rest held ls))

  -- Arguments at xs were passed to parameters at ps, with the numbers ns.
  pub record Passed (a : Activation) (xs ps : ℕ) (ns : List ℕ) : Type 0 where
    pub long : length ns ≡ counts (declared (rest held ps))
    pub state : pass (now_state held a) (declared (rest held ps)) (passed (rest held xs)) ≡ Some (state_of (declared (rest held ps)) ns)

-- The caller's program, and that of the procedure that was called.
module _ (held other : Program) where
  -- A parameter's numbers were handed back to an argument.
  pub record Handed (caller callee after : Activation) (param argument : Word) : Type 0 where
    pub values : List ℕ
    pub found : values_of (now_state other callee) param ≡ Some values
    pub wrote : Wrote held caller after argument values

  pub record HandedBack (caller callee after : Activation) (xs : ℕ) : Type 0 where
    pub state : pass_back (now_state held caller) (now_state other callee) (params other callee) (passed (rest held xs)) ≡ Some (now_state held after)
    pub stays : Stays caller after

-- two names that do not have as many numbers as each other
abbrev pub Unlike : List Decl → List Decl → Word → Word → Type 0
Unlike ds es x y = (d e : Decl) → find_decl ds x ≡ Some d → find_decl es y ≡ Some e → count d ≢ count e

-- it stops, if not for want of memory, only where P is not so
abbrev pub Unfit : Stop → Type 0 → Type 0
Unfit Memory P = Unit {0}
Unfit (Failed f) P = P → ⊥
Unfit Late P = ⊥
