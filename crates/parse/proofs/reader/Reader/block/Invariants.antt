use Rattle.std.proofs.Common.{◌≡◌, length}
use Rattle.parse.specs.InBlock.{AtStatement}
use Rattle.parse.specs.Reading.{snap, Paid}
use Rattle.parse.proofs.reader.Reader.block.Given as goal

abbrev pub invariant-loop-self : goal.invariant-loop-self
invariant-loop-self l = AtStatement (snap l.initial.self) (snap l.self) × Paid (snap l.initial.self) (snap l.self) × (l.base ≡ length (snap l.initial.self).pending)

abbrev pub decreases-loop-self : goal.decreases-loop-self
decreases-loop-self l = length (snap l.self).ahead
