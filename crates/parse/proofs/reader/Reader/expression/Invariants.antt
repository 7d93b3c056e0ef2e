use Rattle.std.proofs.Common.{◌≡◌, ◌+◌, ◌*◌, length}
use Rattle.parse.specs.InExpr.{InExpr, more}
use Rattle.parse.specs.Reading.{snap, Paid}
use Rattle.parse.proofs.reader.Reader.expression.Given as goal

abbrev pub invariant-loop-next : goal.invariant-loop-next
invariant-loop-next l = InExpr (snap l.initial.self) (snap l.self) l.next × Paid (snap l.initial.self) (snap l.self) × (l.base ≡ length (snap l.initial.self).pending)

abbrev pub decreases-loop-next : goal.decreases-loop-next
decreases-loop-next l = more l.next + 2 * length (snap l.self).ahead
