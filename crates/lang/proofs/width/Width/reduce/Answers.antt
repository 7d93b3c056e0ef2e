use Rattle.std.proofs.Common.{sym, arith, mod-eq_of_lt}
use Rattle.lang.proofs.Widths.{word_within}
use Rattle.lang.proofs.width.Width.reduce.Goals as goal

pub returns-then-self-ge64 : goal.returns-then-self-ge64
returns-then-self-ge64 c = sym (mod-eq_of_lt (word_within c.args.self.0 c.args.n (omega arith) (omega arith)))
