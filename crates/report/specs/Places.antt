-- A place of a text, as editors read it.
use Rattle.std.specs.Prelude.{◌≡◌, ℕ, List, ◌++◌, take, codes, decimal}
use Rattle.lang.specs.Positions.{position_behind}
use Rattle.lang.specs.declared.position.Position.{Position}

-- FILE:LINE:COL
abbrev pub place_text : List ℕ → Position → List ℕ
place_text file p = file ++ (codes ":" ++ (decimal p.line ++ (codes ":" ++ decimal p.column)))

-- a message about the byte of a text at an index: the place, a colon, and something more
pub record Tells (file text : List ℕ) (at : ℕ) (message : List ℕ) : Type 0 where
  pub why : List ℕ
  pub is : message ≡ place_text file (position_behind (take at text)) ++ (codes ": " ++ why)
