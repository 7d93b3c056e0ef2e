-- Numbers from the row of choices.
use Rattle.std.proofs.Common.{◌≡◌, ℕ, zero, suc, ◌+◌, ◌%◌, ◌^◌, List, [], ◌∷◌, ◌++◌, length, get_or, refl, ap, ◌∙◌, add-one}
use native.Mathlib.Nat.{zero-mod}
use Rattle.lang.specs.Meaning.{chosen}

chosen_suc : (w k : ℕ) (cs : List ℕ) → chosen w (suc k) cs ≡ chosen w k cs ++ (get_or cs k 0 % 2 ^ w) ∷ []
unfolding chosen
chosen_suc w zero [] = rw (zero-mod (2 ^ w))
chosen_suc w zero (c ∷ cs) = refl
chosen_suc w (suc k) [] = ap (λ cs. 0 ∷ cs) (chosen_suc w k [])
chosen_suc w (suc k) (c ∷ cs) = ap (λ ds. c % 2 ^ w ∷ ds) (chosen_suc w k cs)

pub chosen_more : (w k : ℕ) (cs : List ℕ) → chosen w (k + 1) cs ≡ chosen w k cs ++ (get_or cs k 0 % 2 ^ w) ∷ []
chosen_more w k cs = rw (add-one k) (chosen_suc w k cs)

pub chosen_none : (w : ℕ) (cs : List ℕ) → chosen w 0 cs ≡ []
unfolding chosen
chosen_none w cs = refl

chosen_length : (w k : ℕ) (cs : List ℕ) → length (chosen w k cs) ≡ k
unfolding chosen
chosen_length w zero cs = refl
chosen_length w (suc k) [] = ap suc (chosen_length w k [])
chosen_length w (suc k) (c ∷ cs) = ap suc (chosen_length w k cs)

pub as_many : (w k : ℕ) (vs cs : List ℕ) → vs ≡ chosen w k cs → length vs ≡ k
as_many w k vs cs e = ap length e ∙ chosen_length w k cs
