use Rattle.std.proofs.Common.{sym, ◌∙◌}
use Rattle.exec.proofs.Writing.{slot_within}
use Rattle.exec.proofs.activation.Activation.slot.Goals as goal

pub returns : goal.returns
returns c = record { found = sym c.ok_or.ensures.ok_part ∙ c.slot_of.ensures; within = slot_within c.args.self.now c.args.name.text.now c.ok_or.result (sym c.ok_or.ensures.ok_part ∙ c.slot_of.ensures) }
