use Rattle.std.proofs.Common.{◌≡◌, ◌+◌, ◌≤◌, drop}
use Rattle.lang.specs.Positions.{past_all, position_behind}
use Rattle.lang.proofs.position.position_of.Given as goal

abbrev pub invariant-loop-b : goal.invariant-loop-b
invariant-loop-b l = (past_all l.p (drop l.b-index l.front) ≡ position_behind l.front) × ((l.p.line ≤ l.b-index + 1) × (l.p.column ≤ l.b-index + 1))
