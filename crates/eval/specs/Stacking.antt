-- A stack as a list, the top first. What failed is none.
use Rattle.std.specs.Prelude.{◌≡◌, List, [], ◌∷◌, map, reverse, None, Option, Result}
use Rattle.std.specs.Result.{result_ok}
use Rattle.eval.specs.declared.failure.Failure.{Failure}

-- the last that was pushed is the top
abbrev pub stacked : {T : Type 0} → List (Result T Failure) → List (Option T)
stacked xs = map result_ok (reverse xs)

abbrev pub top : {T : Type 0} → List (Option T) → Option T
top [] = None
top (x ∷ xs) = x

abbrev pub under : {T : Type 0} → List (Option T) → List (Option T)
under [] = []
under (x ∷ xs) = xs

-- In place of the two on top stands what a function made of them.
pub record Merged {T : Type 0} (makes : Result T Failure → Result T Failure → Result T Failure → Type 0) (before after : List (Option T)) : Type 0 where
  pub left : Result T Failure
  pub right : Result T Failure
  pub made : Result T Failure
  pub left_is : result_ok left ≡ top (under before)
  pub right_is : result_ok right ≡ top before
  pub makes_it : makes left right made
  pub after_is : after ≡ result_ok made ∷ under (under before)
