use Rattle.std.proofs.Common.{arith}
use Rattle.lang.specs.Instr.{instr}
use Rattle.walk.specs.Walking.{rest}
use Rattle.walk.proofs.Listing.{nodes_on, node_given, part_ended}
use Rattle.sound.proofs.Stepping.{code_given}
use Rattle.amount.specs.Weighing.{load, no_calls}
use Rattle.amount.proofs.Totals.{no_call, weighed_end, weighed_more}
use Rattle.amount.proofs.part_amount.Goals as goal

pub loop-node-preserved : goal.loop-node-preserved
loop-node-preserved c =
    let held = c.args.program.now in
    let inv = c.loop-node.invariant in
    let g = c.in-Some.ensures.steps in
    let added = c.add-total.ensures held.text.now in (
      tt,
      tt,
      nodes_on held c.loop-node.node-iterator c.next.new.self inv.2 c.in-Some.node g,
      omega (arith, added),
      weighed_more no_calls c.args.names c.args.measure c.loop-node.factors (code_given held c.loop-node.node-iterator c.next.new.self inv.2 c.in-Some.node g) (node_given held c.loop-node.node-iterator c.next.new.self inv.2 c.in-Some.node g).goes_on c.loop-node.total c.add-total.result _ c.turn-factors.result c.turn-factors.ensures (omega (arith, no_call (load (instr held.text.now c.in-Some.node)), added)) inv.4,
    )

pub returns : goal.returns
returns c =
    let held = c.args.program.now in
    let inv = c.loop-node.invariant in
    omega (arith, weighed_end no_calls c.args.names c.args.measure c.loop-node.factors (rest held c.loop-node.node-iterator.at) (part_ended held c.loop-node.node-iterator c.next.new.self inv.2 c.in-None.ensures.steps), inv.3, inv.4)
