-- What a run comes to, and when it is refused.
use Rattle.std.specs.Prelude.{◌≡◌, ℕ, ◌^◌, ◌<◌, ◌≤◌, Bool, true, List, ◌++◌, length, drop, vec_items, ◌≢◌, MatchOption, slice_index}
use Rattle.lang.specs.Code.{code_proc}
use Rattle.lang.specs.Holding.{Holds}
use Rattle.lang.specs.Instr.{Instr}
use Rattle.lang.specs.Meaning as meaning
use Rattle.lang.specs.Meaning.{Run, run_proc, true_in}
use Rattle.lang.specs.Soundness.{sound, sound_proc}
use Rattle.lang.specs.Syntax as syntax
use Rattle.lang.specs.Syntax.{Proc}
use Rattle.lang.specs.declared.program.Program.{Program}
use Rattle.walk.specs.Walking.{rest, declared, Laid}
use Rattle.walk.specs.declared.procedures.Outline.{Outline}
use Rattle.eval.specs.States.{counts, state_of}
use Rattle.exec.specs.Framing.{Mode}
use Rattle.exec.specs.Running.{Stage, Finished, Halted}
use Rattle.exec.specs.declared.outcome.Ended.{Ended as TheEnded}
use Rattle.exec.specs.declared.outcome.Outcome.{Outcome}
use Rattle.exec.specs.declared.outcome.Outcome.TheVariants.{Ended, Failed, Late}
use Rattle.exec.specs.declared.outcome.Refusal.{Refusal}
use Rattle.exec.specs.declared.outcome.Refusal.TheVariants.{Memory, NoProcedure, Count, NumberTooLarge}
use Rattle.exec.specs.declared.stop.Stop.TheVariants as stop

-- each of the first n numbers is one of the width
abbrev pub Below : ℕ → List ℕ → ℕ → Type 0
Below width ns n = (k : ℕ) → k < n → slice_index ns k < 2 ^ width

module _ (held : Program) (i : ℕ) (ns : List ℕ) where
  -- The procedure at an index can be run with the numbers.
  pub record Checked (o : Outline) : Type 0 where
    pub laid : (q : Proc) (k : List Instr) → rest held i ≡ code_proc q k → Laid held o q k
    pub long : length ns ≡ counts (declared (rest held o.params))
    pub below : Below held.width.0 ns (length ns)

  -- why it is not run
  abbrev pub Refused : Refusal → Type 0
  Refused Memory = Unit {0}
  Refused NoProcedure = (q : Proc) (k : List Instr) → rest held i ≢ code_proc q k
  Refused (Count n) = (q : Proc) (k : List Instr) → rest held i ≡ code_proc q k → (length ns ≢ counts q.params) × MatchOption n (2 ^ 64 ≤ counts q.params) (λ w. w ≡ counts q.params)
  Refused (NumberTooLarge j) = (j < length ns) × (2 ^ held.width.0 ≤ slice_index ns j)

  -- the run of a procedure, and its outcome
  abbrev pub begins_with : Proc → List ℕ → Run
  begins_with q cs = record { state = state_of q.params ns; choices = cs }

  abbrev pub Says : syntax.Program → Proc → List ℕ → ℕ → Outcome → Type 0
  Says p q cs u (Ended e) = run_proc u p q (begins_with q cs) ≡ meaning.ok (record { state = state_of (q.params ++ q.locals) (vec_items e.numbers); choices = drop e.taken cs })
  Says p q cs u (Failed f) = run_proc u p q (begins_with q cs) ≡ meaning.failed
  Says p q cs u Late = run_proc u p q (begins_with q cs) ≡ meaning.late

  -- The outcome is that of the procedure at the index, in each sound program.
  pub record Ran (cs : List ℕ) (u : ℕ) (o : Outcome) : Type 0 where
    pub below : Below held.width.0 ns (length ns)
    pub is : (p : syntax.Program) → Holds held p → sound p ≡ true → (q : Proc) (k : List Instr) → sound_proc p q ≡ true → rest held i ≡ code_proc q k → Says p q cs u o

  -- what a procedure asks for, with the numbers for its parameters
  pub record Asked (b : Bool) : Type 0 where
    pub is : (p : syntax.Program) → Holds held p → sound p ≡ true → (q : Proc) (k : List Instr) → sound_proc p q ≡ true → rest held i ≡ code_proc q k → b ≡ true_in p.width (state_of q.params ns) (state_of q.params ns) q.pre

-- how a run ends
pub record Final (s : Stage) (mode : Mode) (e : TheEnded) : Type 0 where
  pub last : Stage
  pub finished : Finished s mode last
  pub numbers : vec_items e.numbers ≡ vec_items last.running.numbers
  pub taken : drop e.taken s.choices ≡ last.choices

abbrev pub Finally : Stage → Mode → Outcome → Type 0
Finally s mode (Ended e) = Final s mode e
Finally s mode (Failed f) = Halted s mode (stop.Failed f)
Finally s mode Late = Halted s mode stop.Late
