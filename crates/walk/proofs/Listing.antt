-- What a call of `next` gives, said of the program that is gone through.
use Rattle.std.proofs.Common.{◌≡◌, true, List, [], Some, None, refl, ap, subst, ◌∙◌}
use Rattle.lang.specs.Code.{code_procs}
use Rattle.lang.specs.Syntax.{Proc}
use Rattle.lang.specs.declared.code.Node.{Node}
use Rattle.lang.specs.declared.program.Program.{Program}
use Rattle.walk.specs.Listing.{GivesProcedure, GivesNode}
use Rattle.walk.specs.Roles.{role, ends}
use Rattle.walk.specs.Walking.{first, rest, ProcAt, InPart}
use Rattle.walk.specs.declared.Nodes.{Nodes}
use Rattle.walk.specs.declared.procedures.Procedure.{Procedure}
use Rattle.walk.specs.declared.procedures.Procedures.{Procedures}

module _ (held : Program) (s t : Procedures) (here : s.program.now ≡ held) where
  pub no_procs : GivesProcedure s None t → (qs : List Proc) → rest held s.at ≡ code_procs qs [] → qs ≡ []
  no_procs g qs e = g.finds qs (rw here e)

  module _ (f : Procedure) (g : GivesProcedure s (Some f) t) where
    pub proc_given : (qs : List Proc) → rest held s.at ≡ code_procs qs [] → ProcAt held s.at f qs
    proc_given qs e = subst (λ (p : Program). ProcAt p s.at f qs) here (g.finds qs (rw here e))

    pub procs_on : t.program.now ≡ held
    procs_on = g.onward.0 ∙ here

    pub proc_begun : rest held f.start ≡ rest held s.at
    proc_begun = ap (rest held) g.onward.2

    pub procs_behind : rest held t.at ≡ rest held f.next
    procs_behind = rw g.onward.1 refl

module _ (held : Program) (s t : Nodes) (here : s.program.now ≡ held) where
  pub part_ended : GivesNode s None t → ends (role (first (rest held s.at))) ≡ true
  part_ended g = subst (λ (p : Program). ends (role (first (rest p s.at))) ≡ true) here g

  module _ (n : Node) (g : GivesNode s (Some n) t) where
    pub node_given : InPart held s.at n
    node_given = subst (λ (p : Program). InPart p s.at n) here g.0

    pub nodes_on : t.program.now ≡ held
    nodes_on = g.1 ∙ here
