-- How a node lies in two words: what it holds, and the number of its kind.
use Rattle.std.specs.Prelude.{ℕ, List, [], ◌∷◌, slice_index_or}
use Rattle.lang.specs.declared.code.Node.{Node}
use Rattle.lang.specs.declared.code.Node.TheVariants as the
use Rattle.lang.specs.declared.code.Place.{Place}
use Rattle.lang.specs.declared.syntax.ArithOp.TheVariants.{Add, Sub, Mul, Div, Rem}
use Rattle.lang.specs.declared.syntax.Comparison.TheVariants.{Equal, Less, AtMost}

abbrev place : ℕ → Place
place n = record { 0 = n }

abbrev pub kinds : List (ℕ → Node)
kinds =
    (λ n. the.Num (place n)) ∷
    (λ n. the.Var (place n)) ∷
    (λ n. the.Old (place n)) ∷
    (λ n. the.Binary Add (place n)) ∷
    (λ n. the.Binary Sub (place n)) ∷
    (λ n. the.Binary Mul (place n)) ∷
    (λ n. the.Binary Div (place n)) ∷
    (λ n. the.Binary Rem (place n)) ∷
    (λ n. the.Index (place n)) ∷
    (λ n. the.OldIndex (place n)) ∷
    (λ n. the.True (place n)) ∷
    (λ n. the.Compare Equal (place n)) ∷
    (λ n. the.Compare Less (place n)) ∷
    (λ n. the.Compare AtMost (place n)) ∷
    (λ n. the.And (place n)) ∷
    (λ n. the.Or (place n)) ∷
    (λ n. the.Implies (place n)) ∷
    (λ n. the.Not (place n)) ∷
    (λ n. the.All (place n)) ∷
    (λ n. the.Bound (place n)) ∷
    (λ n. the.Scope n) ∷
    (λ n. the.EndAll) ∷
    (λ n. the.Assign (place n)) ∷
    (λ n. the.Store (place n)) ∷
    (λ n. the.Check (place n)) ∷
    (λ n. the.Havoc (place n)) ∷
    (λ n. the.Call (place n)) ∷
    (λ n. the.Arg (place n)) ∷
    (λ n. the.EndCall) ∷
    (λ n. the.If (place n)) ∷
    (λ n. the.Then n) ∷
    (λ n. the.Else n) ∷
    (λ n. the.EndIf) ∷
    (λ n. the.While (place n)) ∷
    (λ n. the.Test n) ∷
    (λ n. the.Invariant n) ∷
    (λ n. the.Measure n) ∷
    (λ n. the.Do n) ∷
    (λ n. the.EndWhile) ∷
    (λ n. the.Proc (place n)) ∷
    (λ n. the.Extent n) ∷
    (λ n. the.Param (place n)) ∷
    (λ n. the.Local (place n)) ∷
    (λ n. the.Scalar) ∷
    (λ n. the.Row (place n)) ∷
    (λ n. the.Pre n) ∷
    (λ n. the.Post n) ∷
    (λ n. the.Body n) ∷
    []

abbrev pub node : ℕ → ℕ → Node
node a b = slice_index_or kinds b (λ n. the.EndProc) a
