use Rattle.std.proofs.Common.{sym, ◌∙◌, arith}
use Rattle.eval.proofs.States.{counts_both, slot_both}
use Rattle.eval.proofs.names.slot_of.Goals as goal

pub slot_from-requires : goal.slot_from-requires
slot_from-requires c = omega (arith, counts_both)

pub total-requires : goal.total-requires
total-requires c = omega (arith, counts_both)

pub slot_from-requires-in-None : goal.slot_from-requires-in-None
slot_from-requires-in-None c = omega (arith, counts_both)

pub returns-in-Some : goal.returns-in-Some
returns-in-Some c = sym (slot_both c.args.program.now c.args.params c.args.locals _ ∙ rw (← c.in-Some.ensures))

pub returns-in-None : goal.returns-in-None
returns-in-None c = sym (slot_both c.args.program.now c.args.params c.args.locals _ ∙ rw (← c.in-None.ensures, ← c.total.ensures, ← c.slot_from-in-None.ensures))
