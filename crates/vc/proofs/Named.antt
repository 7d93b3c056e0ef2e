-- The value of a term and the truth of a formula hang only on the unknowns that they name.
use Rattle.std.proofs.Common.{◌≡◌, ℕ, ◌<◌, List, [], ◌∷◌, refl, arith}
use Rattle.vc.specs.Conditions.{all_true, broken_at, all_unknowns, condition_unknowns}
use Rattle.vc.specs.Terms.{Term, Formula, value, truth_of, term_unknowns, formula_unknowns}
use Rattle.vc.specs.Theorem.{DependsOnNamed}

module _ (w : ℕ) (g h : ℕ → ℕ) where
  -- the same numbers for the first n unknowns
  abbrev SameTo : ℕ → Type 0
  SameTo n = (i : ℕ) → i < n → g i ≡ h i

  mutual
    unfolding value truth_of term_unknowns formula_unknowns

    pub value_named : (t : Term) → SameTo (term_unknowns t) → value w g t ≡ value w h t
    value_named (Term.num n) e = refl
    value_named (Term.unknown i) e = rw (e i (omega arith))
    value_named (Term.binary k a b) e = rw (value_named a (λ i l. e i (omega arith)), value_named b (λ i l. e i (omega arith)))
    value_named (Term.ite f a b) e = rw (truth_named f (λ i l. e i (omega arith)), value_named a (λ i l. e i (omega arith)), value_named b (λ i l. e i (omega arith)))

    pub truth_named : (f : Formula) → SameTo (formula_unknowns f) → truth_of w g f ≡ truth_of w h f
    truth_named Formula.truth e = refl
    truth_named Formula.falsity e = refl
    truth_named (Formula.compare k a b) e = rw (value_named a (λ i l. e i (omega arith)), value_named b (λ i l. e i (omega arith)))
    truth_named (Formula.conj a b) e = rw (truth_named a (λ i l. e i (omega arith)), truth_named b (λ i l. e i (omega arith)))
    truth_named (Formula.disj a b) e = rw (truth_named a (λ i l. e i (omega arith)), truth_named b (λ i l. e i (omega arith)))
    truth_named (Formula.negate a) e = rw (truth_named a e)
    truth_named (Formula.sum_fits a b) e = rw (value_named a (λ i l. e i (omega arith)), value_named b (λ i l. e i (omega arith)))
    truth_named (Formula.product_fits a b) e = rw (value_named a (λ i l. e i (omega arith)), value_named b (λ i l. e i (omega arith)))

  all_named : (fs : List Formula) → SameTo (all_unknowns fs) → all_true w g fs ≡ all_true w h fs
  unfolding all_true all_unknowns
  all_named [] e = refl
  all_named (f ∷ fs) e = rw (truth_named f (λ i l. e i (omega arith)), all_named fs (λ i l. e i (omega arith)))

pub depends_on_named : DependsOnNamed
unfolding broken_at condition_unknowns
depends_on_named w k g h e = rw (all_named w g h k.given (λ i l. e i (omega arith)), truth_named w g h k.goal (λ i l. e i (omega arith)))
