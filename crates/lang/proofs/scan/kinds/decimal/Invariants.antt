use Rattle.std.proofs.Common.{◌≡◌, ◌^◌, ◌<◌, drop}
use Rattle.lang.specs.Base.{◌>>=◌}
use Rattle.lang.specs.Kinds.{below_limit}
use Rattle.lang.specs.Tokens.{decimal, written}
use Rattle.lang.proofs.scan.kinds.decimal.Given as goal

abbrev pub invariant-loop-b : goal.invariant-loop-b
invariant-loop-b l = ((decimal l.n (drop l.b-index l.word) >>= below_limit) ≡ written l.word) × (l.n < 2 ^ 64)
