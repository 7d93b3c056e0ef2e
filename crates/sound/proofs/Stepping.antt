-- A part of a procedure, node by node: what is met of the node at hand, and of what is left.
use Rattle.std.proofs.Common.{◌≡◌, true, false, ◌∷◌, Some, None}
use Rattle.lang.specs.Instr.{instr}
use Rattle.lang.specs.Syntax.{Program}
use Rattle.lang.specs.declared.code.Node.{Node}
use Rattle.walk.specs.Listing.{GivesNode}
use Rattle.walk.specs.Roles.{role}
use Rattle.walk.specs.Walking.{rest}
use Rattle.walk.specs.declared.Nodes.{Nodes}
use Rattle.walk.proofs.Listing.{part_ended, node_given}
use Rattle.sound.specs.Checking.{Env, meets, behind, meets_all}
use Rattle.lang.specs.declared.program.Program as lent
use Rattle.sound.proofs.Checking.{met_at_end, not_met, met_so_far}

module _ (held : lent.Program) (s t : Nodes) (here : s.program.now ≡ held) where
  -- the code at hand: a node, and what is left behind it
  pub code_given : (n : Node) → GivesNode s (Some n) t → rest held s.at ≡ instr held.text.now n ∷ rest held t.at
  code_given n g = rw g.2 (node_given held s t here n g).here

  module _ (p : Program) (e : Env) where
    pub none_behind : GivesNode s None t → true ≡ meets_all p e (rest held s.at)
    none_behind g = met_at_end p e (rest held s.at) (part_ended held s t here g)

    module _ (n : Node) (g : GivesNode s (Some n) t) where
      pub node_not_met : false ≡ meets p e (role (instr held.text.now n)) (rest held t.at) → false ≡ meets_all p e (rest held s.at)
      node_not_met = not_met p e (code_given n g) (node_given held s t here n g).goes_on

      pub node_met : {f : Env} → true ≡ meets p e (role (instr held.text.now n)) (rest held t.at) → f ≡ behind e (role (instr held.text.now n)) → meets_all p f (rest held t.at) ≡ meets_all p e (rest held s.at)
      node_met = met_so_far p e (code_given n g) (node_given held s t here n g).goes_on
