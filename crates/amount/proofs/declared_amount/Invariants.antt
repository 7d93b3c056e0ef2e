use Rattle.std.proofs.Common.{◌≡◌, ◌+◌, ◌≤◌, min}
use Rattle.lang.specs.Amount.{size_decls}
use Rattle.walk.specs.Listing.{declared_in}
use Rattle.amount.specs.Weighing.{most}
use Rattle.amount.proofs.declared_amount.Given as goal

abbrev pub invariant-loop-d : goal.invariant-loop-d
invariant-loop-d l =
    (goal.iterator-loop-d).can_next l.d-iterator × (goal.iterator-loop-d).is_finite l.d-iterator
    × (l.total ≤ most) × (min (l.total + size_decls (declared_in l.d-iterator)) most ≡ min (size_decls (declared_in l.fn.these)) most)
