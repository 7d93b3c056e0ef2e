-- Names that `all` count.
use Rattle.std.proofs.Common.{◌≡◌, ℕ, List, cond, [], ◌∷◌, Some, None, Option, inl, inr}
use Rattle.std.proofs.lemmas.Bool.{cases_Bool}
use Rattle.std.specs.Option.{option_or}
use Rattle.lang.specs.Base.{Word, same}
use Rattle.lang.specs.Meaning.{State, values_of, bind}

pub bound_values : (s : State) (y x : Word) (n : ℕ) (o : Option (List ℕ)) → o ≡ cond (same y x) (Some (n ∷ [])) None → values_of (bind s y n) x ≡ option_or o (values_of s x)
unfolding values_of
bound_values s y x n o e =
    elim (cases_Bool (same y x)) [
      | inl t ↦ let f : o ≡ Some (n ∷ []) = rw t at e in rw (t, f)
      | inr t ↦ let f : o ≡ None = rw t at e in rw (t, f)
    ]
