-- What stands one inside the other, as a list.
use Rattle.std.specs.Prelude.{List, [], ◌∷◌}
use Rattle.walk.specs.declared.nest.Nest.{Nest}
use Rattle.walk.specs.declared.nest.Nest.TheVariants.{Zero, One, Two}

-- the inner one first
abbrev pub nested : {T : Type 0} → Nest T → List T
nested Zero = []
nested (One a) = a ∷ []
nested (Two a b) = b ∷ a ∷ []
