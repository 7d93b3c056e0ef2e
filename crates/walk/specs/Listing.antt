-- What is gone through one after the other: declarations, arguments, procedures, and the nodes of a part.
use Rattle.std.specs.Prelude.{◌≡◌, ◌+◌, ◌-◌, List, [], length, true, IfSome, is_some, MatchOption, Option}
use Rattle.std.specs.Iterator.{Count, at_most}
use Rattle.lang.specs.Base.{Word}
use Rattle.lang.specs.Code.{code_procs}
use Rattle.lang.specs.Holding.{code_of}
use Rattle.lang.specs.Syntax.{Decl, Proc}
use Rattle.lang.specs.declared.code.Node.{Node}
use Rattle.walk.specs.Roles.{role, begun_name, ends}
use Rattle.walk.specs.Walking.{first, rest, declared, passed, ProcAt, InPart}
use Rattle.walk.specs.declared.Nodes.{Nodes}
use Rattle.walk.specs.declared.arguments.Arguments.{Arguments}
use Rattle.walk.specs.declared.declarations.Declarations.{Declarations}
use Rattle.walk.specs.declared.procedures.Procedure.{Procedure}
use Rattle.walk.specs.declared.procedures.Procedures.{Procedures}

-- the declarations that are left
abbrev pub declared_in : Declarations → List Decl
declared_in s = declared (rest s.program.now s.at)

-- the arguments that are left
abbrev pub passed_in : Arguments → List Word
passed_in s = passed (rest s.program.now s.at)

-- A call of `next` among procedures gives the first one that is left, and goes behind it.
pub record GivesProcedure (s : Procedures) (r : Option Procedure) (t : Procedures) : Type 0 where
  pub finds : (qs : List Proc) → rest s.program.now s.at ≡ code_procs qs [] → MatchOption r (qs ≡ []) (λ f. ProcAt s.program.now s.at f qs)
  pub onward : IfSome r (λ f. (t.program.now ≡ s.program.now) × (t.at ≡ f.next) × (f.start ≡ s.at))
  pub begins : is_some r ≡ is_some (begun_name (role (first (rest s.program.now s.at))))

abbrev pub nodes_left : Procedures → Count
nodes_left s = at_most (length (code_of s.program.now) - s.at)

-- A call of `next` in a part gives its next node, up to its end.
abbrev pub GivesNode : Nodes → Option Node → Nodes → Type 0
GivesNode s r t = MatchOption r (ends (role (first (rest s.program.now s.at))) ≡ true) (λ n. InPart s.program.now s.at n × (t.program.now ≡ s.program.now) × (t.at ≡ s.at + 1))

abbrev pub nodes_behind : Nodes → Count
nodes_behind s = at_most (length (code_of s.program.now) - s.at)
