use Rattle.std.proofs.Common.{◌∷◌, length}
use Rattle.lang.specs.Instr as instr
use Rattle.parse.specs.Listed.{AtItem}
use Rattle.parse.specs.Reading.{snap, Paid}
use Rattle.parse.specs.Unbounded.{names∞}
use Rattle.parse.proofs.reader.Reader.arguments.Given as goal

abbrev pub invariant-loop-place : goal.invariant-loop-place
invariant-loop-place l = AtItem names∞ (λ x k. instr.arg x ∷ k) (snap l.initial.self) (snap l.self) × Paid (snap l.initial.self) (snap l.self)

abbrev pub decreases-loop-place : goal.decreases-loop-place
decreases-loop-place l = length (snap l.self).ahead
