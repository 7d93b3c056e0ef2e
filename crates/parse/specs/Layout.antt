-- How an open part lies in two words: what it holds, and the number of its kind.
use Rattle.std.specs.Prelude.{ℕ, List, [], ◌∷◌, slice_index_or}
use Rattle.lang.specs.declared.code.Place.{Place}
use Rattle.lang.specs.declared.syntax.ArithOp.TheVariants.{Add, Sub, Mul, Div, Rem}
use Rattle.parse.specs.declared.open.Kind.TheVariants.{Then, Else, Do}
use Rattle.parse.specs.declared.open.Open.{Open}
use Rattle.parse.specs.declared.open.Open.TheVariants as the

abbrev place : ℕ → Place
place n = record { 0 = n }

abbrev pub open_parts : List (ℕ → Open)
open_parts =
    (λ n. the.Paren) ∷
    (λ n. the.Index (place n)) ∷
    (λ n. the.OldIndex (place n)) ∷
    (λ n. the.Operator Add (place n)) ∷
    (λ n. the.Operator Sub (place n)) ∷
    (λ n. the.Operator Mul (place n)) ∷
    (λ n. the.Operator Div (place n)) ∷
    (λ n. the.Operator Rem (place n)) ∷
    (λ n. the.Bracket) ∷
    (λ n. the.And (place n)) ∷
    (λ n. the.Or (place n)) ∷
    (λ n. the.Implies (place n)) ∷
    (λ n. the.Not (place n)) ∷
    (λ n. the.All n) ∷
    (λ n. the.Braces Then n) ∷
    (λ n. the.Braces Else n) ∷
    []

abbrev pub open_part : ℕ → ℕ → Open
open_part a b = slice_index_or open_parts b (λ n. the.Braces Do n) a
