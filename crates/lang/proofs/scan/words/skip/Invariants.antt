use Rattle.std.proofs.Common.{◌≡◌, ◌-◌, ◌≤◌, max, length, drop}
use Rattle.lang.specs.Tokens.{between, words_from}
use Rattle.lang.proofs.scan.words.skip.Given as goal

abbrev pub invariant-loop-i : goal.invariant-loop-i
invariant-loop-i l = (words_from between (drop l.i l.text) ≡ words_from between (drop l.from l.text)) × (l.from ≤ l.i) × (l.i ≤ max l.from (length l.text))

abbrev pub decreases-loop-i : goal.decreases-loop-i
decreases-loop-i l = length l.text - l.i
