use Rattle.std.proofs.Common.{◌≡◌, vec_items}
use Rattle.lang.specs.Meaning.{chosen}
use Rattle.exec.proofs.choosing.chosen.Given as goal

abbrev pub invariant-loop-place : goal.invariant-loop-place
invariant-loop-place l = vec_items l.values ≡ chosen l.width.0 l.place l.choices
