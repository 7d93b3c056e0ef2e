use Rattle.std.proofs.Common.{sym, ap, subst, ◌∙◌}
use Rattle.lang.specs.Holding.{Holds}
use Rattle.lang.specs.declared.program.Program.{Program}
use Rattle.walk.specs.Walking.{rest}
use Rattle.walk.proofs.Listing.{nodes_on}
use Rattle.sound.specs.Checking.{meets_all}
use Rattle.sound.specs.Scopes.{env}
use Rattle.sound.proofs.Checking.{handed_on}
use Rattle.sound.proofs.Stepping.{none_behind, node_not_met, node_met}
use Rattle.sound.proofs.parts.check_part.Goals as goal

pub returns-in_err-check_node : goal.returns-in_err-check_node
returns-in_err-check_node c p holds =
    let names = c.loop-node.names in
    let inv = c.loop-node.invariant in
    let still = subst (λ (held : Program). Holds held p) (sym inv.1) holds in
    handed_on c.from_residual.result c.from_residual.ensures.0
    ∙ node_not_met names.program.now c.loop-node.rest c.next.new.self inv.0 p (env names) c.in-Some.node c.in-Some.ensures.steps (c.in_err-check_node.ensures p still)
    ∙ inv.2 p holds

pub loop-node-preserved : goal.loop-node-preserved
loop-node-preserved c =
    let names = c.loop-node.names in
    let inv = c.loop-node.invariant in
    let same = c.behind-names.ensures.program in (
      nodes_on names.program.now c.loop-node.rest c.next.new.self inv.0 c.in-Some.node c.in-Some.ensures.steps ∙ sym same,
      same ∙ inv.1,
      λ p holds.
          let met = c.in_ok-check_node.ensures p (subst (λ (held : Program). Holds held p) (sym inv.1) holds) in
          ap (λ (held : Program). meets_all p (env c.behind-names.result) (rest held c.next.new.self.at)) same
          ∙ node_met names.program.now c.loop-node.rest c.next.new.self inv.0 p (env names) c.in-Some.node c.in-Some.ensures.steps met (c.behind-names.ensures.names p _ met)
          ∙ inv.2 p holds,
    )

pub returns : goal.returns
returns c p holds =
    none_behind c.loop-node.names.program.now c.loop-node.rest c.next.new.self c.loop-node.invariant.0 p (env c.loop-node.names) c.in_default.ensures.steps
    ∙ c.loop-node.invariant.2 p holds
