use Rattle.std.proofs.Common.{◌≡◌, length}
use Rattle.parse.specs.InBool.{InBool, left}
use Rattle.parse.specs.Reading.{snap, Paid}
use Rattle.parse.proofs.reader.Reader.formula.Given as goal

abbrev pub invariant-loop-next : goal.invariant-loop-next
invariant-loop-next l = InBool (snap l.initial.self) (snap l.self) l.next × Paid (snap l.initial.self) (snap l.self) × (l.base ≡ length (snap l.initial.self).pending)

abbrev pub decreases-loop-next : goal.decreases-loop-next
decreases-loop-next l = left l.next (snap l.self)
