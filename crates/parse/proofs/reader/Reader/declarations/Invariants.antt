use Rattle.std.proofs.Common.{length}
use Rattle.parse.specs.Declaring.{role_code}
use Rattle.parse.specs.Listed.{AtItem}
use Rattle.parse.specs.Reading.{snap, Paid}
use Rattle.parse.specs.Unbounded.{declarations∞}
use Rattle.parse.proofs.reader.Reader.declarations.Given as goal

abbrev pub invariant-loop-self : goal.invariant-loop-self
invariant-loop-self l = AtItem (declarations∞ l.end) (role_code l.role) (snap l.initial.self) (snap l.self) × Paid (snap l.initial.self) (snap l.self)

abbrev pub decreases-loop-self : goal.decreases-loop-self
decreases-loop-self l = length (snap l.self).ahead
