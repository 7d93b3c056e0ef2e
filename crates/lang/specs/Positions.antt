-- Lines and columns, both counted from 1, as bytes are gone through.
use Rattle.std.specs.Prelude.{ℕ, ◌+◌, cond, List, [], ◌∷◌, ◌==◌}
use Rattle.lang.specs.declared.position.Position.{Position}

-- a line feed ends its line
abbrev pub past : Position → ℕ → Position
past p b = cond (b == 10) (record { line = p.line + 1; column = 1 }) (record { line = p.line; column = p.column + 1 })

unfoldable pub past_all : Position → List ℕ → Position
past_all p [] = p
past_all p (b ∷ bs) = past_all (past p b) bs

-- behind these bytes
abbrev pub position_behind : List ℕ → Position
position_behind bs = past_all (record { line = 1; column = 1 }) bs
