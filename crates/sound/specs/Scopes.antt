-- The names that there are at a place of the code, found through a scope.
use Rattle.std.specs.Prelude.{List, ◌++◌, map, length}
use Rattle.lang.specs.Syntax.{Decl}
use Rattle.walk.specs.Listing.{declared_in}
use Rattle.walk.specs.Nests.{nested}
use Rattle.walk.specs.declared.name.Name.{Name}
use Rattle.walk.specs.declared.nest.Nest.{Nest}
use Rattle.sound.specs.Checking.{Env}
use Rattle.sound.specs.declared.scope.Scope.{Scope}

abbrev pub a_number : Name → Decl
a_number x = record { name = x.text.now; size = 0 }

-- the names of `all`, the innermost first
abbrev pub counters : Nest Name → List Decl
counters n = map a_number (nested n)

abbrev pub env : Scope → Env
env s = record { depth = length (nested s.counting); names = counters s.counting ++ (declared_in s.params ++ declared_in s.locals); olds = declared_in s.params }
