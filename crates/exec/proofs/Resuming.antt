-- How a machine goes on, one step at a time.
use Rattle.std.proofs.Common.{◌≡◌, ℕ, suc, List, [], ◌∷◌, sym, refl, ◌∙◌}
use Rattle.lang.specs.Meaning.{State, Run, Outcome, ok, failed, late, exec, exec_block}
use Rattle.lang.specs.Syntax.{Stmt, Block, end, seq, Program}
use Rattle.exec.specs.Machine.{Frame, rest_of, again, return_to, resume}

module _ (p : Program) where
  pub resume_failed : (o : State) (fs : List Frame) → resume p o fs failed ≡ failed
  unfolding resume
  resume_failed o [] = refl
  resume_failed o (rest_of u ss ∷ fs) = resume_failed o fs
  resume_failed o (again u b i e c ∷ fs) = resume_failed o fs
  resume_failed o (return_to u s o' ds xs ss ∷ fs) = resume_failed o' fs

  pub resume_late : (o : State) (fs : List Frame) → resume p o fs late ≡ late
  unfolding resume
  resume_late o [] = refl
  resume_late o (rest_of u ss ∷ fs) = resume_late o fs
  resume_late o (again u b i e c ∷ fs) = resume_late o fs
  resume_late o (return_to u s o' ds xs ss ∷ fs) = resume_late o' fs

  module _ (o : State) (fs : List Frame) (r : Run) (v : Outcome) where
    -- no fuel
    pub block_late : (u : ℕ) (ss : Block) → u ≡ 0 → resume p o fs (exec_block u p o ss r) ≡ v → v ≡ late
    unfolding exec_block
    block_late u ss z e = sym e ∙ rw z (resume_late o fs)

    pub loop_late : (u : ℕ) (s : Stmt) → u ≡ 0 → resume p o fs (exec u p o s r) ≡ v → v ≡ late
    unfolding exec
    loop_late u s z e = sym e ∙ rw z (resume_late o fs)

    pub block_end : (u w : ℕ) → u ≡ suc w → resume p o fs (exec_block u p o end r) ≡ v → resume p o fs (ok r) ≡ v
    unfolding exec_block
    block_end u w is e = sym (rw is refl) ∙ e

    module _ (u w : ℕ) (is : u ≡ suc w) (s : Stmt) (ss : Block) (e : resume p o fs (exec_block u p o (seq s ss) r) ≡ v) where
      pub stmt_late : w ≡ 0 → v ≡ late
      unfolding exec_block exec
      stmt_late z = sym e ∙ rw (is, z) (resume_late o fs)

      pub stmt_failed : exec w p o s r ≡ failed → v ≡ failed
      unfolding exec_block
      stmt_failed f = sym e ∙ rw (is, f) (resume_failed o fs)

      pub stmt_done : (t : Run) → exec w p o s r ≡ ok t → resume p o fs (exec_block w p o ss t) ≡ v
      unfolding exec_block
      stmt_done t f = sym (rw (is, f) refl) ∙ e

      pub stmt_begun : resume p o (rest_of w ss ∷ fs) (exec w p o s r) ≡ v
      unfolding exec_block resume
      stmt_begun = sym (rw is refl) ∙ e
