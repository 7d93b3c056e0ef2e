use Rattle.std.proofs.Common.{length}
use Rattle.parse.specs.Reading.{snap, Room}
use Rattle.parse.specs.Whole.{AtProcedure}
use Rattle.parse.proofs.reader.Reader.procedures.Given as goal

abbrev pub invariant-loop-self : goal.invariant-loop-self
invariant-loop-self l = AtProcedure (snap l.initial.self) (snap l.self) × Room (snap l.self)

abbrev pub decreases-loop-self : goal.decreases-loop-self
decreases-loop-self l = length (snap l.self).ahead
