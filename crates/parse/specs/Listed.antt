-- Where a reader is in a row of items with commas.
use Rattle.std.specs.Prelude.{◌≡◌, List, [], ◌∷◌, ◌++◌, Some}
use Rattle.lang.specs.Base.{◌>>=◌}
use Rattle.lang.specs.Grammar.{Parsed}
use Rattle.lang.specs.Instr.{Instr}
use Rattle.lang.specs.Tokens.{Token}
use Rattle.parse.specs.Reading.{Snap}

-- the code of items, one behind the other
abbrev pub codes : {A : Type 0} → (A → List Instr → List Instr) → List A → List Instr
codes code [] = []
codes code (x ∷ xs) = code x (codes code xs)

-- The next item is to be read; `items` reads what is left of them.
pub record AtItem {A : Type 0} (items : List Token → Parsed (List A)) (coding : A → List Instr → List Instr) (before s : Snap) : Type 0 where
  pub read : List A
  pub code : s.code ≡ before.code ++ codes coding read
  pub pending : s.pending ≡ before.pending
  pub rest : items before.ahead ≡ (do
    (xs, us) ← items s.ahead
    Some (read ++ xs, us))
