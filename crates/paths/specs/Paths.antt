-- What is given, kept on a stack: each given stands under the way on which it was found, and stays there where ways meet. So a branch
-- costs one formula for its way, and nothing is wrapped again.
use Rattle.std.specs.Prelude.{◌≡◌, ℕ, max, true, false, not, ◌&&◌, List, [], ◌∷◌, ◌++◌}
use Rattle.vc.specs.Conditions.{SymState, all_true, broken_at, all_unknowns, assume, resume, added, join}
use Rattle.vc.specs.Terms.{Formula, truth_of, formula_unknowns}

-- f, if it was the way p
abbrev pub under : Formula → Formula → Formula
under p f = Formula.disj (Formula.negate p) f

-- On the way p the stack says what is given in v, whatever the unknowns are.
pub record Carried (w : ℕ) (v : SymState) (stack : List Formula) (p : Formula) : Type 0 where
  pub truth : (g : ℕ → ℕ) → all_true w g v.given ≡ (all_true w g stack && truth_of w g p)

-- Off the way p these say nothing.
pub record Silent (w : ℕ) (fs : List Formula) (p : Formula) : Type 0 where
  pub truth : (g : ℕ → ℕ) → truth_of w g p ≡ false → all_true w g fs ≡ true

-- The end of a way that began with f given behind v: what was pushed on it, and what was given.
pub record Went (w : ℕ) (v : SymState) (f : Formula) (a : SymState) (stack new : List Formula) (p : Formula) : Type 0 where
  pub more : List Formula
  pub extends : a.given ≡ (v.given ++ f ∷ []) ++ more
  pub carried : Carried w a (stack ++ new) (Formula.conj p f)
  pub silent : Silent w new (Formula.conj p f)

abbrev pub no : Formula → Formula
no f = Formula.negate f

-- how many unknowns formulas fs name that hang on f; none hang where there are none
abbrev pub hanging : Formula → List Formula → ℕ
hanging f [] = 0
hanging f (h ∷ fs) = max (formula_unknowns f) (all_unknowns (h ∷ fs))

pub record Carrying (w : ℕ) : Type 0 where
  -- one more given
  pub pushes : (v : SymState) (stack : List Formula) (p f : Formula) → Carried w v stack p → Carried w (assume v f) (stack ++ under p f ∷ []) p
  pub hangs : (fs : List Formula) (p f : Formula) → Silent w fs p → Silent w (fs ++ under p f ∷ []) p
  -- what says nothing off a way says nothing off the longer way
  pub outward : (fs : List Formula) (p f : Formula) → Silent w fs (Formula.conj p f) → Silent w fs p
  -- the first way begins, and the second, with what was pushed on the first still there
  pub first : (v : SymState) (stack : List Formula) (p f : Formula) → Carried w v stack p → Carried w (assume v f) stack (Formula.conj p f)
  pub second : (v a : SymState) (stack new : List Formula) (p f : Formula) → Carried w v stack p → Silent w new (Formula.conj p f) → Carried w (assume (resume v a) (no f)) (stack ++ new) (Formula.conj p (no f))
  -- the ways meet: the stack stays as it is
  pub meets : (v a b : SymState) (stack new also : List Formula) (p f : Formula) → Carried w v stack p → Went w v f a stack new p → Went w (resume v a) (no f) b (stack ++ new) also p → Carried w (join f v a b) ((stack ++ new) ++ also) p
  -- a goal is broken by what makes the stack and the way true, and the goal false
  pub breaks : (v : SymState) (stack : List Formula) (p goal : Formula) → Carried w v stack p → (g : ℕ → ℕ) → broken_at w g (record { given = v.given; goal = goal }) ≡ ((all_true w g stack && truth_of w g p) && not (truth_of w g goal))
  -- how many unknowns are named
  pub names_more : (v : SymState) (f : Formula) → all_unknowns (assume v f).given ≡ max (all_unknowns v.given) (formula_unknowns f)
  pub names_joined : (v a b : SymState) (f : Formula) → all_unknowns (join f v a b).given ≡ max (all_unknowns v.given) (max (hanging f (added v a)) (hanging f (added v b)))
