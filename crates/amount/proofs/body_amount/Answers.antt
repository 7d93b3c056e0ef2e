use Rattle.std.proofs.Common.{arith}
use Rattle.walk.specs.Walking.{rest}
use Rattle.walk.proofs.Listing.{nodes_on, node_given, part_ended}
use Rattle.sound.proofs.Stepping.{code_given}
use Rattle.amount.specs.Weighing.{call_size}
use Rattle.amount.proofs.Totals.{weighed_end, weighed_more}
use Rattle.amount.proofs.body_amount.Goals as goal

pub loop-node-preserved : goal.loop-node-preserved
loop-node-preserved c =
    let held = c.args.program.now in
    let inv = c.loop-node.invariant in
    let g = c.in-Some.ensures.steps in (
      tt,
      tt,
      nodes_on held c.loop-node.node-iterator c.next.new.self inv.2 c.in-Some.node g,
      omega arith,
      λ p holds sound.
          weighed_more (call_size p c.args.names) c.args.names 2 c.loop-node.factors (code_given held c.loop-node.node-iterator c.next.new.self inv.2 c.in-Some.node g) (node_given held c.loop-node.node-iterator c.next.new.self inv.2 c.in-Some.node g).goes_on c.loop-node.total c.saturating_add-total.result _ c.turn-factors.result c.turn-factors.ensures (omega (arith, c.add-total.ensures held.text.now, c.call_amount.ensures p holds sound)) (inv.4 p holds sound),
    )

pub returns : goal.returns
returns c p holds sound =
    let held = c.args.program.now in
    let inv = c.loop-node.invariant in
    omega (arith, weighed_end (call_size p c.args.names) c.args.names 2 c.loop-node.factors (rest held c.loop-node.node-iterator.at) (part_ended held c.loop-node.node-iterator c.next.new.self inv.2 c.in-None.ensures.steps), inv.3, inv.4 p holds sound)
