-- Terms and formulas over unknown numbers.
use Rattle.std.specs.Prelude.{ℕ, suc, ◌+◌, ◌-◌, ◌*◌, ◌/◌, ◌%◌, ◌^◌, max, Bool, true, false, cond, not, ◌&&◌, ◌||◌, ◌==◌, nat_lt}
use Rattle.lang.specs.Meaning.{compares}
use Rattle.lang.specs.declared.syntax.ArithOp.{ArithOp}
use Rattle.lang.specs.declared.syntax.ArithOp.TheVariants.{Add, Sub, Mul, Div, Rem}
use Rattle.lang.specs.declared.syntax.Comparison.{Comparison}

mutual
  pub data Term : Type 0 where
    num : ℕ → Term
    -- unknowns go by number
    unknown : ℕ → Term
    binary : ArithOp → Term → Term → Term
    -- if, then, else
    ite : Formula → Term → Term → Term

  pub data Formula : Type 0 where
    truth : Formula
    falsity : Formula
    compare : Comparison → Term → Term → Formula
    conj : Formula → Formula → Formula
    disj : Formula → Formula → Formula
    negate : Formula → Formula
    -- the sum, the product is within the width
    sum_fits : Term → Term → Formula
    product_fits : Term → Term → Formula

-- arithmetic of w bits; by 0 it gives 0
unfoldable pub wrapped : ℕ → ArithOp → ℕ → ℕ → ℕ
wrapped w Add x y = (x + y) % 2 ^ w
wrapped w Sub x y = (x + 2 ^ w - y) % 2 ^ w
wrapped w Mul x y = (x * y) % 2 ^ w
wrapped w Div x y = cond (y == 0) 0 (x / y)
wrapped w Rem x y = cond (y == 0) 0 (x % y)

-- g: the numbers of the unknowns, of which the last w bits count
unfoldable mutual
  pub value : ℕ → (ℕ → ℕ) → Term → ℕ
  value w g (num n) = n
  value w g (unknown i) = g i % 2 ^ w
  value w g (binary k a b) = wrapped w k (value w g a) (value w g b)
  value w g (ite f a b) = cond (truth_of w g f) (value w g a) (value w g b)

  pub truth_of : ℕ → (ℕ → ℕ) → Formula → Bool
  truth_of w g truth = true
  truth_of w g falsity = false
  truth_of w g (compare k a b) = compares k (value w g a) (value w g b)
  truth_of w g (conj a b) = truth_of w g a && truth_of w g b
  truth_of w g (disj a b) = truth_of w g a || truth_of w g b
  truth_of w g (negate a) = not (truth_of w g a)
  truth_of w g (sum_fits a b) = nat_lt (value w g a + value w g b) (2 ^ w)
  truth_of w g (product_fits a b) = nat_lt (value w g a * value w g b) (2 ^ w)

-- how many unknowns, up to the last that is named
unfoldable mutual
  pub term_unknowns : Term → ℕ
  term_unknowns (num n) = 0
  term_unknowns (unknown i) = suc i
  term_unknowns (binary k a b) = max (term_unknowns a) (term_unknowns b)
  term_unknowns (ite f a b) = max (formula_unknowns f) (max (term_unknowns a) (term_unknowns b))

  pub formula_unknowns : Formula → ℕ
  formula_unknowns truth = 0
  formula_unknowns falsity = 0
  formula_unknowns (compare k a b) = max (term_unknowns a) (term_unknowns b)
  formula_unknowns (conj a b) = max (formula_unknowns a) (formula_unknowns b)
  formula_unknowns (disj a b) = max (formula_unknowns a) (formula_unknowns b)
  formula_unknowns (negate a) = formula_unknowns a
  formula_unknowns (sum_fits a b) = max (term_unknowns a) (term_unknowns b)
  formula_unknowns (product_fits a b) = max (term_unknowns a) (term_unknowns b)
