-- Steps that do not come to another.
use Rattle.std.proofs.Common.{◌≡◌, ℕ, true, IsErrAnd, Result, MatchResult, subst}
use Rattle.lang.specs.Holding.{Holds}
use Rattle.lang.specs.Meaning.{Outcome, failed}
use Rattle.lang.specs.Soundness.{sound}
use Rattle.lang.specs.Syntax as syntax
use Rattle.lang.specs.declared.program.Program.{Program}
use Rattle.eval.specs.declared.failure.Failure.{Failure}
use Rattle.lang.specs.Base.{Word}
use Rattle.exec.proofs.Stopping.{handed_on}
use Rattle.exec.specs.Calling.{Unsound, Unprepared}
use Rattle.exec.specs.Deeds.{Untold, Untested}
use Rattle.exec.specs.Framing.{Mode}
use Rattle.exec.specs.Running.{Stage, Comes, in_block, in_loop, at_end, Stopped, Halted}
use Rattle.exec.specs.declared.stop.Stop.{Stop}
use Rattle.exec.specs.declared.stop.Stop.TheVariants.{Memory, Failed, Late}

-- A stage comes to an outcome only in the program of what is running.
module _ (s : Stage) where
  its_program : {held : Program} {p : syntax.Program} {mode : Mode} {v : Outcome} → Comes held p s mode v → s.running.program.now ≡ held
  its_program (in_block fs ss bh blk g) = bh.program_is
  its_program (in_loop fs b i e c bh lp g) = bh.program_is
  its_program (at_end fs bh g) = bh.program_is

  pub in_its_program : (mode : Mode) (Q : Program → syntax.Program → Outcome → Type 0) → ((p : syntax.Program) → Holds s.running.program.now p → sound p ≡ true → (v : Outcome) → Comes s.running.program.now p s mode v → Q s.running.program.now p v) → (held : Program) (p : syntax.Program) → Holds held p → sound p ≡ true → (v : Outcome) → Comes held p s mode v → Q held p v
  in_its_program mode Q h held p hold is_sound v from =
      let P : Program → Type 0 = λ x. Holds x p → Comes x p s mode v → Q x p v in
      subst P (its_program from) (λ hold' from'. h p hold' is_sound v from') hold from

module _ (s : Stage) (mode : Mode) where
  -- what comes of it in the program of what is running
  abbrev pub InIts : (Outcome → Type 0) → Type 0
  InIts Q = (p : syntax.Program) → Holds s.running.program.now p → sound p ≡ true → (v : Outcome) → Comes s.running.program.now p s mode v → Q v

  pub halted_by : (e : Stop) → InIts (Stopped e) → Halted s mode e
  halted_by e h = record { comes = in_its_program s mode (λ _ _ v. Stopped e v) h }

  pub never : (e : Stop) → InIts (λ _. ⊥) → Halted s mode e
  never e h = halted_by e (λ p hold is_sound v from. absurd (h p hold is_sound v from))

  untold_halts : (from : ℕ) (e : Stop) → Untested s.running.program.now s.running from e → (Untold s.running.program.now s.running from → InIts (λ v. v ≡ failed)) → Halted s mode e
  untold_halts from Memory u h = halted_by Memory (λ p hold is_sound v from. tt)
  untold_halts from (Failed f) u h = halted_by (Failed f) (h u)
  untold_halts from Late u h = absurd u

  unsound_call : (f : Word) (xs : ℕ) (e : Stop) → Unprepared s.running.program.now s.running f xs e → (Unsound s.running.program.now s.running f xs → InIts (λ _. ⊥)) → Halted s mode e
  unsound_call f xs Memory u h = halted_by Memory (λ p hold is_sound v from. tt)
  unsound_call f xs (Failed e) u h = never (Failed e) (h u)
  unsound_call f xs Late u h = absurd u

  -- what a `?` hands on
  module _ {T : Type 0} (P : T → Type 0) (r : Result T Stop) where
    -- a call that is hindered, where a program is sound
    pub call_halts : (f : Word) (xs : ℕ) (e : Stop) → IsErrAnd r (λ t. t ≡ e) → Unprepared s.running.program.now s.running f xs e → (Unsound s.running.program.now s.running f xs → InIts (λ _. ⊥)) → MatchResult r P (λ t. Halted s mode t)
    call_halts f xs e is u h = handed_on r P (λ t. Halted s mode t) is (λ y same. rw same (unsound_call f xs e u h))

    -- a condition that cannot be told
    pub halts : (from : ℕ) (e : Stop) → IsErrAnd r (λ t. t ≡ e) → Untested s.running.program.now s.running from e → (Untold s.running.program.now s.running from → InIts (λ v. v ≡ failed)) → MatchResult r P (λ t. Halted s mode t)
    halts from e is u h = handed_on r P (λ t. Halted s mode t) is (λ y same. rw same (untold_halts from e u h))

    -- a failure
    pub failure_halts : (f : Failure) → IsErrAnd r (λ t. t ≡ Failed f) → InIts (λ v. v ≡ failed) → MatchResult r P (λ t. Halted s mode t)
    failure_halts f is h = handed_on r P (λ t. Halted s mode t) is (λ y same. rw same (halted_by (Failed f) h))

-- what does not happen in any program
pub handed_on_never : (s : Stage) (mode : Mode) {T : Type 0} (P : T → Type 0) (r : Result T Stop) (R : Stop → Type 0) → IsErrAnd r R → ((held : Program) (p : syntax.Program) → Holds held p → sound p ≡ true → (v : Outcome) → Comes held p s mode v → ⊥) → MatchResult r P (λ t. Halted s mode t)
handed_on_never s mode P r R is h = handed_on r P (λ t. Halted s mode t) is (λ y _. record { comes = λ held p hold is_sound v from. absurd (h held p hold is_sound v from) })
